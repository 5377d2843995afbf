use Rattle.tap_core.proofs.Prelude.{◌∙◌, refl, length, ◌<◌, rules, add-one, dropped}
use Rattle.tap_core.proofs.Entries.{pass-read}
use Rattle.tap_core.proofs.SlotLaws.{tracked-dropped}
use Rattle.tap_core.proofs.watch.show_dropped.Goals as goal

pub loop-tap-preserved : goal.loop-tap-preserved
loop-tap-preserved g c =
    let inside : c.loop-tap.tap-index < length c.loop-tap.taps = search rules
    in c.loop-tap.invariant ∙ rw add-one (pass-read g.T.Tap.kind_of g.T.Tap.state_of (dropped c.args.packet.now) c.loop-tap.taps c.loop-tap.tap-index c.show_drop_to.new.tap c.tap-item.result inside c.tap-item.is c.show_drop_to.ensures.after refl)

pub returns-clause-tracked : goal.returns-clause-tracked
returns-clause-tracked g c = tracked-dropped _ _ _ _ _ _ (search rules) c.loop-tap.invariant
