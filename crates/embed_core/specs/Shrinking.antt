-- A child has fewer nodes than its parent.
use Rattle.std.specs.Prelude.{◌+◌, ◌≤◌, List, [], ◌∷◌}
use Rattle.std.proofs.Common.{arith}
use Rattle.tree_defs.specs.Tree.{Tree, leaf, inner, trees_of, nodes, nodes_below}
use Rattle.tree_core.specs.TreeContents.{branch}
use denote.Param.Weighed.{most}

positive : {Q : Type 0} (t : Tree Q) → 1 ≤ nodes t
positive (leaf q) = omega arith
positive (inner q ts) = omega arith

most_le-nodes_below : {Q : Type 0} (ks : List (Tree Q)) → most (λ k. nodes k + 1) ks ≤ nodes_below (trees_of ks) + 1
most_le-nodes_below [] = omega arith
most_le-nodes_below (k ∷ ks) = omega (arith, most_le-nodes_below ks, positive k)

pub most_le-nodes : {Q : Type 0} (q : Q) (ks : List (Tree Q)) → most (λ k. nodes k + 1) ks ≤ nodes (branch q (trees_of ks))
most_le-nodes q [] = omega arith
most_le-nodes q (k ∷ ks) = most_le-nodes_below (k ∷ ks)
