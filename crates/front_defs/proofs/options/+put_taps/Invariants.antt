use Rattle.std.proofs.Common.{length}
use Rattle.front_defs.proofs.options.+put_taps.Given as goal

abbrev pub decreases-put_taps : goal.decreases-put_taps
decreases-put_taps l = length l.taps.now
