use Rattle.std.proofs.Common.{◌-◌}
use Rattle.embed_core.proofs.ImageOrders.{IsBetween}
use Rattle.embed_core.proofs.order.child_to.Given as goal

abbrev pub invariant-loop-high : goal.invariant-loop-high
invariant-loop-high l = IsBetween l.children l.order l.digits l.low l.high

abbrev pub decreases-loop-high : goal.decreases-loop-high
decreases-loop-high l = l.high - l.low
