use Rattle.mapcheck_core.proofs.Prelude.{◌≡◌, map, ◌<◌, drop, topology, nodes, trees_of, nodes_below, span_at, span_below}
use Rattle.mapcheck_core.proofs.nodes.+span.Given as goal

abbrev pub invariant-loop-child : goal.invariant-loop-child
invariant-loop-child l = (l.left < nodes_below (trees_of (map topology (drop l.child-index l.child-items)))) × (span_below (trees_of (map topology (drop l.child-index l.child-items))) l.left ≡ span_at (topology l.topo) l.number) × (nodes_below (trees_of (map topology (drop l.child-index l.child-items))) < nodes (topology l.topo))
