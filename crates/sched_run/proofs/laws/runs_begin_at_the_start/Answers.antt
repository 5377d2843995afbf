use Rattle.sched_run.proofs.StartLaws.{start_can_begin}
use Rattle.sched_run.proofs.laws.runs_begin_at_the_start.Goals as goal

pub returns : goal.returns
returns c = start_can_begin
