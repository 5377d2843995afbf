use Rattle.tree_graph.proofs.Prelude.{length, map, ◌-◌, topology, lists}
use Rattle.tree_graph.proofs.GrowthLemmas.{Growing}
use Rattle.tree_graph.proofs.growth.+grow.Given as goal

abbrev pub decreases-grow : goal.decreases-grow
decreases-grow l = 64 - length l.address.now.items

abbrev pub invariant-loop-digit : goal.invariant-loop-digit
invariant-loop-digit l = Growing (lists l.graph) l.node l.number l.fn.address.items l.child-items l.digit l.fn.places.items l.places.items l.address.items l.children.items (map topology l.topos.items)
