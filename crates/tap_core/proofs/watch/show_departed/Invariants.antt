use Rattle.tap_core.specs.Lists.{departed}
use Rattle.tap_core.proofs.Passes.{Pass}
use Rattle.tap_core.proofs.watch.show_departed.Given as goal

abbrev pub invariant-loop-slot : goal.invariant-loop-slot
invariant-loop-slot g l =
    Pass g.T.Tap.kind_of g.T.Tap.state_of (departed l.packet) l.slot-index l.i l.fn.slots l.fn.taps.items l.slots l.taps.items
