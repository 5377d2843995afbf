use Rattle.sched_run.proofs.LoadLeaves.{leaves_nothing}
use Rattle.sched_run.proofs.laws.loads_leave_nothing.Goals as goal

pub returns : goal.returns
returns c = leaves_nothing
