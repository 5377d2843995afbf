use Rattle.tree_core.proofs.Prelude.{◌≡◌, take, map, empty_trees, nodes, trees_of, topology, forest, EachPushed}
use Rattle.tree_core.proofs.tree.SourceTree.+new.Given as goal

abbrev pub invariant-loop-child : goal.invariant-loop-child
invariant-loop-child l = (forest l.children.items ≡ empty_trees (trees_of (map topology (take l.child-index l.child-items)))) × EachPushed 0 l.children.items

abbrev pub decreases-new : goal.decreases-new
decreases-new l = nodes (topology l.topo.now)
