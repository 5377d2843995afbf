use Rattle.tap_core.proofs.Prelude.{refl, sym, rules, with_items_is}
use Rattle.tap_core.proofs.WatchLaws.{shows_one}
use Rattle.tap_core.proofs.watching.Watching.dropped.Goals as goal

pub returns-clause-shown : goal.returns-clause-shown
returns-clause-shown g c =
    shows_one _ _ _ _ _ _ _ _ _ _ _ _ refl refl (sym c.deref_mut.ensures.value) (with_items_is c.args.self.now.taps _ (search rules))
    (λ all start. c.show_dropped.ensures.left) (λ all start. c.show_dropped.ensures.tracked all _ start)
