use Rattle.std.proofs.Common.{◌≡◌, ◌++◌, drop}
use Rattle.packet_core.proofs.RangeLaws.{running}
use Rattle.packet_core.proofs.ranges.lengthened.Given as goal

abbrev pub invariant-loop-range : goal.invariant-loop-range
invariant-loop-range l = record { so : l.all.items ++ running l.greatest (drop l.range-index l.sorted) ≡ running 0 l.sorted }
