-- The shape of a node with children.
use Rattle.tree_graph.proofs.Prelude.{ℕ, length, ap, sym, ◌≡◌, ◌∙◌, List, [], ◌∷◌, Bool, false, true≢false, map, branch, Topology, inner, trees_of}
use Rattle.std.proofs.Common.{nat_eq}

pub branch-some : {T : Type 0} (f : T → Topology) (ts : List T) (n : ℕ) (b : Bool) (t : Topology) → b ≡ nat_eq n 0 → b ≡ false → n ≡ length ts → t ≡ inner tt (trees_of (map f ts)) → t ≡ branch tt (trees_of (map f ts))
branch-some f [] n b t tested some size is = absurd (true≢false (sym (tested ∙ ap (λ k. nat_eq k 0) size) ∙ some))
branch-some f (u ∷ ts) n b t tested some size is = is
