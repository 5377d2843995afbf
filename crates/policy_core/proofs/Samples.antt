-- The tree below a node of a graph, numbered.
use Rattle.policy_core.proofs.Prelude.{List, ◌≡◌, ℕ, ap, sym, [], ◌∙◌, topology_of, Topology, Tree, root_of, Graph, IsTreeOf, rows, IsTreeBelow}
use Rattle.tree_graph.specs.Preorder.{Numbered, numbered}
use Rattle.tree_graph.proofs.OneTree.{one-tree}

pub tree-below : (g : Graph) (root : ℕ) (t : Tree ℕ) (p : Numbered) → IsTreeOf g t → root_of t ≡ root → IsTreeBelow g root p → p ≡ numbered (rows 0 [] t) (topology_of t)
tree-below g root t p h top b =
    let same : b.tree ≡ t = one-tree g b.tree t b.is_tree h (b.root_is ∙ sym top) in
    ap (λ (all : List _). numbered all p.topology) (b.numbered.rows_are ∙ ap (λ (u : Tree ℕ). rows 0 [] u) same)
    ∙ ap (λ (u : Topology). numbered (rows 0 [] t) u) (b.numbered.topology_is ∙ ap (λ (u : Tree ℕ). topology_of u) same)
