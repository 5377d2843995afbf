use Rattle.sched_defs.proofs.Leaving.{held_count, size_pushed, size_departed}
use Rattle.sched_defs.proofs.Runs.{none_lost, none_dropped}
use Rattle.sched_defs.proofs.laws.held_packets_stand_in_leaves.Goals as goal

pub returns-clause-count : goal.returns-clause-count
returns-clause-count c = held_count

pub returns-clause-pushes : goal.returns-clause-pushes
returns-clause-pushes c = size_pushed

pub returns-clause-departures : goal.returns-clause-departures
returns-clause-departures c = size_departed

pub returns-clause-events : goal.returns-clause-events
returns-clause-events c = none_lost

pub returns-clause-drops : goal.returns-clause-drops
returns-clause-drops c = none_dropped
