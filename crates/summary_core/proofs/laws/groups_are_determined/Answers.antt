use Rattle.summary_core.proofs.GroupsOnce.{sums_once}
use Rattle.summary_core.proofs.laws.groups_are_determined.Goals as goal

pub returns : goal.returns
returns c = sums_once
