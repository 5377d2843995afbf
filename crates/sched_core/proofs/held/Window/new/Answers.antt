use Rattle.sched_core.proofs.Prelude.{ap, List, packet_within, Chunk}
use Rattle.sched_core.specs.Chunks.{packet_from}
use Rattle.sched_core.proofs.held.Window.new.Goals as goal

pub returns : goal.returns
unfolding packet_from
returns c = record { empty = λ n. ap (λ (cs : List Chunk). packet_within 0 cs n) c.new.ensures.items }
