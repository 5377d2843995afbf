use Rattle.sched_core.proofs.Prelude.{arith, packet_within}
use Rattle.sched_core.specs.Windows.{numbers_of}
use Rattle.sched_core.proofs.NumberLaws.{below-length}
use Rattle.sched_core.proofs.held.Window.filled.Goals as goal

pub returns-clause-numbers : goal.returns-clause-numbers
unfolding numbers_of
returns-clause-numbers c = c.args.self.now.counted

pub returns-clause-small : goal.returns-clause-small
returns-clause-small c =
    let w = c.args.self.now in
    omega (arith, w.counted, below-length (packet_within w.first w.chunks.items) w.end, w.ends)
