-- A child's tree has fewer nodes than its parent's.
use Rattle.std.specs.Prelude.{◌+◌, ◌≤◌, List, [], ◌∷◌}
use Rattle.std.proofs.Common.{arith}
use Rattle.tree_defs.specs.Queue.{Queue}
use Rattle.tree_defs.specs.Tree.{Tree, leaf, inner, nodes, nodes_below}
use Rattle.pifo_core.specs.Sorted.{Contents}
use Rattle.tree_core.specs.TreeContents.{TreeContents, forest, grown, size_of}
use denote.Param.Weighed.{most}

positive : (t : Tree Queue) → 1 ≤ nodes t
positive (leaf q) = omega arith
positive (inner q ts) = omega arith

pub most_le-nodes_below : (ks : List TreeContents) → most (λ k. size_of k + 1) ks ≤ nodes_below (forest ks) + 1
most_le-nodes_below [] = omega arith
most_le-nodes_below (k ∷ ks) = omega (arith, most_le-nodes_below ks, positive k.tree)

pub most_le-nodes : (s : Contents) (ks : List TreeContents) → most (λ k. size_of k + 1) ks ≤ size_of (grown s ks)
most_le-nodes s [] = omega arith
most_le-nodes s (k ∷ ks) = most_le-nodes_below (k ∷ ks)
