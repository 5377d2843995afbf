use Rattle.tap_core.proofs.Prelude.{refl, sym, rules, with_items_is}
use Rattle.tap_core.proofs.WatchLaws.{shows_one_on_ok}
use Rattle.tap_core.proofs.watching.Watching.departed.Goals as goal

pub returns-clause-shown : goal.returns-clause-shown
returns-clause-shown g c =
    shows_one_on_ok _ _ c.show_departed.result _ _ _ _ _ _ _ _ _ _
    (sym c.deref_mut.ensures.value) (with_items_is c.args.self.now.slots _ (search rules)) refl refl
    c.show_departed.ensures.left c.show_departed.ensures.tracked
