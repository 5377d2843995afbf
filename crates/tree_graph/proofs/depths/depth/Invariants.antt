use Rattle.tree_graph.proofs.Prelude.{length, ◌<◌, Graph, Leads, IsForest, AreParents}
use Rattle.tree_graph.proofs.depths.depth.Given as goal

abbrev pub invariant-loop-depth : goal.invariant-loop-depth
invariant-loop-depth l = (l.at < length l.parents) × ((g : Graph) → IsForest g l.root → AreParents g l.parents → Leads g l.depth l.at l.node)
