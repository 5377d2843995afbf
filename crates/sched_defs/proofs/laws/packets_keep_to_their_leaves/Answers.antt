use Rattle.sched_defs.proofs.Leaving.{arrives_at_a_leaf, leaves_its_leaf, leaver-none}
use Rattle.sched_defs.proofs.laws.packets_keep_to_their_leaves.Goals as goal

pub returns-clause-arrivals : goal.returns-clause-arrivals
returns-clause-arrivals c = arrives_at_a_leaf

pub returns-clause-departures : goal.returns-clause-departures
returns-clause-departures c = leaves_its_leaf

pub returns-clause-none : goal.returns-clause-none
returns-clause-none c = leaver-none
