use Rattle.packet_core.proofs.Prelude.{take, AreBounds}
use Rattle.packet_core.proofs.prepared.bound_classes.Given as goal

abbrev pub invariant-loop-class : goal.invariant-loop-class
invariant-loop-class l = record { so : AreBounds l.classes.items (take l.class-index l.given) }
