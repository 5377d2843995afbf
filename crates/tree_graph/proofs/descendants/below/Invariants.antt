use Rattle.tree_graph.proofs.Prelude.{length, ◌+◌, lists, MarksBelow, unmarked}
use Rattle.tree_graph.proofs.descendants.below.Given as goal

abbrev pub invariant-loop-next : goal.invariant-loop-next
invariant-loop-next l = MarksBelow (lists l.graph) l.node l.marks.items l.work.items

abbrev pub decreases-loop-next : goal.decreases-loop-next
decreases-loop-next l = unmarked l.marks.items + length l.work.items
