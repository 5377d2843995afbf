use Rattle.packet_core.proofs.Prelude.{take, AreRules}
use Rattle.packet_core.proofs.rules.tested_classes.Given as goal

abbrev pub invariant-loop-class : goal.invariant-loop-class
invariant-loop-class l = record { so : AreRules l.classes.items (take l.class-index l.given) }
