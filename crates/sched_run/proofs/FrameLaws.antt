-- The conditions that consecutive calls keep.
use Rattle.sched_run.proofs.Prelude.{ℕ, arith, ◌≤◌, ◌∙◌, Ghosts, Continues, KeepsPackets}
use Rattle.outside_core.proofs.FaultLaws.{rose_after}
use Rattle.outside_core.specs.Kept.{HasSinkCause}
use Rattle.outside_core.specs.declared.stop.Stop.{Stop}
use Rattle.outside_core.specs.declared.stop.Stop.TheVariants.{Source, Sink, Memory}
use Rattle.sched_defs.specs.declared.packets.Packets as packets
use Rattle.sched_run.specs.declared.run.Run.{Run}

pub continues_then : {C U N W : Type 0} (S : Ghosts C U) (a b c : Run C N W) → Continues S a b → Continues S b c → Continues S a c
continues_then S a b c first second = record {
  policy = second.policy ∙ first.policy;
  origin = second.origin ∙ first.origin;
  names = second.names ∙ first.names;
  version = second.version ∙ first.version;
  room = second.room ∙ first.room;
}

pub keeps_then : {P S : Type 0} (p : packets.Ghosts P S) (a b c : P) (s t u : S) → KeepsPackets p a b s t → KeepsPackets p b c t u → KeepsPackets p a c s u
keeps_then p a b c s t u first second = record { policy = second.policy ∙ first.policy; later = omega (arith, first.later, second.later) }

-- what caused an error in a sink caused it since any earlier state
pub sink_cause_after : {K : Type 0} (stop : Stop) (faults : K → ℕ) (a b c : K) → faults a ≤ faults b → HasSinkCause stop faults b c → HasSinkCause stop faults a c
sink_cause_after Source faults a b c later cause = cause
sink_cause_after Sink faults a b c later cause = rose_after (faults a) (faults b) (faults c) later cause
sink_cause_after Memory faults a b c later cause = tt
