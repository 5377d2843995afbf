use Rattle.sched_core.proofs.Prelude.{◌≡◌, drop, packet_among}
use Rattle.sched_core.proofs.chunk.Chunk.packet.Given as goal

abbrev pub invariant-loop-slot : goal.invariant-loop-slot
invariant-loop-slot l = packet_among l.self.base l.slot-items l.number ≡ packet_among l.self.base (drop l.slot-index l.slot-items) l.number
