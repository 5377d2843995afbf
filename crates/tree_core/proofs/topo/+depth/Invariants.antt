use Rattle.tree_core.proofs.Prelude.{◌≡◌, drop, map, max, depth, trees_of, depth_below, topology}
use Rattle.tree_core.proofs.topo.+depth.Given as goal

abbrev pub invariant-loop-child : goal.invariant-loop-child
invariant-loop-child l = max l.most (depth_below (trees_of (map topology (drop l.child-index l.child-items)))) ≡ depth (topology l.topo)
