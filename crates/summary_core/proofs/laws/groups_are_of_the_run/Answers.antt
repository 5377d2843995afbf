use Rattle.summary_core.proofs.RunGroups.{groups_are_of_the_run}
use Rattle.summary_core.proofs.laws.groups_are_of_the_run.Goals as goal

pub returns : goal.returns
returns c = groups_are_of_the_run
