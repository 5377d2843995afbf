use Rattle.tap_core.proofs.Passes.{LinesUpTo}
use Rattle.tap_core.proofs.watch.lines.Given as goal

abbrev pub invariant-loop-slot : goal.invariant-loop-slot
invariant-loop-slot g l =
    LinesUpTo g.T.Tap.kind_of g.T.Tap.state_of l.slot-index l.i l.slots l.taps l.text.items
