use Rattle.std.proofs.Common.{rules, get_or, arith}
use Rattle.block_replay.proofs.Topologies.{few_children, few_in_child, leaf_children, children_here, children_below, none_past}
use Rattle.block_replay.proofs.calmness.+children_at.Goals as goal

pub overflow_cast-result : goal.overflow_cast-result
overflow_cast-result t c = omega (arith, c.len.ensures, few_children c.args.topo.now c.in-Inner.children c.in-Inner.is c.requires.few)

pub children_at-requires : goal.children_at-requires
children_at-requires t c =
    let found = c.in-Some.ensures.lookup in
    (search rules, few_in_child c.args.topo.now c.in-Inner-topo.children c.deref.result.now c.in-Some.child.now (get_or c.args.address.now 0 0) c.in-Inner-topo.is c.deref.ensures.value found.0 found.1 c.requires.few)

pub returns-in-Leaf : goal.returns-in-Leaf
returns-in-Leaf t c = leaf_children c.args.topo.now c.args.address.now c.in-Leaf.is

pub returns-in-Inner : goal.returns-in-Inner
returns-in-Inner t c = children_here c.args.topo.now c.in-Inner.children c.args.address.now c.len.result c.in-Inner.is c.in-empty.len_below (omega (arith, c.len.ensures))

pub returns-in-Some : goal.returns-in-Some
returns-in-Some t c =
    let found = c.in-Some.ensures.lookup in
    children_below c.args.topo.now c.in-Inner-topo.children c.deref.result.now c.in-Some.child.now c.args.address.now c.children_at.result c.in-Inner-topo.is c.deref.ensures.value
    c.in-len1-up.len_at_least found.0 found.1 c.children_at.ensures

pub returns-in-None : goal.returns-in-None
returns-in-None t c = none_past c.args.topo.now c.in-Inner-topo.children c.deref.result.now c.args.address.now c.in-Inner-topo.is c.deref.ensures.value c.in-len1-up.len_at_least c.in-None.ensures.lookup.0
