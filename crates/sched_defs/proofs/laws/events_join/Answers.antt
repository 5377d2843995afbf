use Rattle.sched_defs.proofs.Runs.{after-append, outcomes-append, CanMake-append, CanMake-departures}
use Rattle.sched_defs.proofs.laws.events_join.Goals as goal

pub returns-clause-joined : goal.returns-clause-joined
returns-clause-joined c = record { states = after-append; told = outcomes-append; possible = CanMake-append }

pub returns-clause-departures : goal.returns-clause-departures
returns-clause-departures c = CanMake-departures
