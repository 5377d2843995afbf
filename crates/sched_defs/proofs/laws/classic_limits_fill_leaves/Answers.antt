use Rattle.sched_defs.proofs.Classic.{classic_full}
use Rattle.sched_defs.proofs.laws.classic_limits_fill_leaves.Goals as goal

pub returns : goal.returns
returns c = classic_full
