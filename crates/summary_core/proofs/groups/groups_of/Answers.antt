use Rattle.summary_core.proofs.Reordered.{groups_before}
use Rattle.summary_core.proofs.groups.groups_of.Goals as goal

pub returns : goal.returns
returns c = groups_before c.args.summary.now c.sort_delays.new.self c.sort_delays.ensures.same c.args.leaves.now c.args.classes.now c.all_groups.result c.all_groups.ensures
