use Rattle.embed_core.proofs.Prelude.{◌≡◌, map, take, needs_at, topology, trees_of, nodes, levels_of}
use Rattle.embed_core.proofs.ChildNeeds.{AreNeedsOfEach}
use Rattle.embed_core.proofs.needs.Needs.+of.Given as goal

abbrev pub decreases-of : goal.decreases-of
decreases-of l = nodes (topology l.topo.now)

abbrev pub invariant-loop-child : goal.invariant-loop-child
invariant-loop-child l = record {
  each : AreNeedsOfEach (levels_of l.target) (map topology (take l.child-index l.child-items)) l.children.items;
  listed : l.needs.items ≡ needs_at (trees_of l.children.items);
}
