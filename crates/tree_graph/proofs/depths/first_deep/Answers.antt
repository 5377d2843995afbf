use Rattle.std.proofs.Common.{below_more, arith}
use Rattle.tree_graph.proofs.FirstFaults.{deep-if-none, shallow-if-some}
use Rattle.tree_graph.proofs.depths.first_deep.Goals as goal

pub returns-then-is_none : goal.returns-then-is_none
returns-then-is_none c = record {
  first = λ g forest p. record {
    within = omega arith;
    holds = deep-if-none _ _ c.depth.result c.is_none.result (c.depth.ensures.depth g forest p) c.is_none.ensures c.if-is_none.true;
    least = c.loop-node.invariant g forest p;
  };
}

pub loop-node-preserved : goal.loop-node-preserved
loop-node-preserved c = λ g forest p. below_more _ _ (c.loop-node.invariant g forest p)
    (shallow-if-some g c.args.root c.loop-node.node forest _ c.depth.result c.is_none.result (c.depth.ensures.depth g forest p) c.is_none.ensures c.if-is_none.false)

pub returns : goal.returns
returns c = record { first = λ g forest p a l. c.loop-node.invariant g forest p a (omega (arith, l)) }
