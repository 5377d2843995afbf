use Rattle.mapcheck_core.proofs.Prelude.{◌≡◌, map, ◌+◌, drop, topology, nodes, trees_of, nodes_below}
use Rattle.mapcheck_core.proofs.nodes.+nodes.Given as goal

abbrev pub invariant-loop-child : goal.invariant-loop-child
invariant-loop-child l = l.count + nodes_below (trees_of (map topology (drop l.child-index l.child-items))) ≡ nodes (topology l.topo)
