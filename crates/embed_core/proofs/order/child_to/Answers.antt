use Rattle.std.proofs.Common.{◌+◌, ◌-◌, ◌/◌, arith}
use Rattle.embed_core.proofs.ImageOrders.{between-start, between-before, between-after}
use Rattle.embed_core.proofs.order.child_to.Goals as goal

pub loop-high-init : goal.loop-high-init
loop-high-init c = between-start c.args.children.now c.args.order.now c.args.digits.now c.requires.order c.requires.some

pub loop-high-preserved-then-root_is_behind : goal.loop-high-preserved-then-root_is_behind
loop-high-preserved-then-root_is_behind c =
    between-before c.args.children.now c.args.order.now c.args.digits.now c.requires.order c.loop-high.low c.loop-high.high (c.loop-high.low + (c.loop-high.high - c.loop-high.low) / 2) c.index-children-order.result
    c.loop-high.invariant (omega arith) c.index-children-order.is c.if-root_is_behind.ensures.behind

pub loop-high-preserved : goal.loop-high-preserved
loop-high-preserved c =
    between-after c.args.children.now c.args.order.now c.args.digits.now c.requires.order c.loop-high.low c.loop-high.high (c.loop-high.low + (c.loop-high.high - c.loop-high.low) / 2) c.index-children-order.result
    c.requires.apart c.loop-high.invariant (omega arith) c.index-children-order.is c.if-root_is_behind.ensures.behind
