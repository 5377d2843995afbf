use Rattle.embed_core.proofs.Prelude.{drop, map, topology, nodes}
use Rattle.embed_core.proofs.PreorderMaps.{AreRead}
use Rattle.embed_core.proofs.map.Map.+first_of.Given as goal

abbrev pub decreases-first_of : goal.decreases-first_of
decreases-first_of l = nodes (topology l.topo.now)

abbrev pub invariant-loop-child : goal.invariant-loop-child
invariant-loop-child l = AreRead (map topology l.child-items) (drop 1 l.images) l.child-index l.children.items l.left
