use Rattle.std.proofs.Common.{arith}
use Rattle.sched_run.proofs.LinkLaws.{sends_soon}
use Rattle.sched_run.proofs.link.take_time.Goals as goal

pub returns-in-Some-clause-soon : goal.returns-in-Some-clause-soon
returns-in-Some-clause-soon c =
    let soon = sends_soon c.in-Some.len c.args.rate c.requires.rate (omega arith) in
    omega (arith, soon, c.send_at.ensures.free)
