use Rattle.std.proofs.Common.{◌≡◌, take}
use Rattle.sched_core.proofs.SlotLaws.{filled_of}
use Rattle.sched_core.proofs.chunk.Chunk.shrink.Given as goal

abbrev pub invariant-loop-slot : goal.invariant-loop-slot
invariant-loop-slot l = l.kept.items ≡ filled_of (take l.slot-index l.slot-items)
