use Rattle.std.proofs.Common.{length}
use Rattle.front_defs.proofs.options.+put_names.Given as goal

abbrev pub decreases-put_names : goal.decreases-put_names
decreases-put_names l = length l.list.now
