use Rattle.mapcheck_core.specs.declared.tree_fault.TreeFault.TheVariants.{TooLong}
use Rattle.mapcheck_core.specs.TreeTexts.{too_long}
use Rattle.replay_app.specs.Via.{at_fault}
use Rattle.replay_app.proofs.topologies.TopologyFormatFormat.limit.Goals as goal

pub returns-clause-long : goal.returns-clause-long
returns-clause-long c = λ text long. rw c.code.ensures (at_fault TooLong (too_long long))
