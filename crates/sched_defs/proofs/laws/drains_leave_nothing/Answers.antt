use Rattle.sched_defs.proofs.Drains.{drained, drained_each, drained_last}
use Rattle.sched_defs.proofs.laws.drains_leave_nothing.Goals as goal

pub returns-clause-step : goal.returns-clause-step
returns-clause-step c = λ policy packets. drained policy

pub returns-clause-each : goal.returns-clause-each
returns-clause-each c = drained_each

pub returns-clause-last : goal.returns-clause-last
returns-clause-last c = drained_last
