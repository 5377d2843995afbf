-- A graph has a tree below a node if no path down from the node is too long.
use Rattle.policy_core.proofs.Prelude.{List, ◌≡◌, ℕ, ap, sym, [], ◌∙◌, arith, length, ◌∷◌, refl, suc, zero, ◌+◌, ◌≤◌, Contains, Contains-append_right, Tree, Trees, inner, more, none, root_of, HasChild, child-within, within-child, Graph, IsWithin, IsTreeOf, AreTreesOf, labels}
use Rattle.tree_defs.specs.Tree.{leaf}
use Rattle.tree_graph.specs.Descent.{children}

-- a tree of the graph below a node, and trees below nodes
pub record HasTree (g : Graph) (i : ℕ) : Type 0 where
  pub tree : Tree ℕ
  pub is_tree : IsTreeOf g tree
  pub root_is : root_of tree ≡ i

record HaveTrees (g : Graph) (is : List ℕ) : Type 0 where
  trees : Trees ℕ
  are_trees : AreTreesOf g trees
  labels_are : labels trees ≡ is

each-tree : (g : Graph) (is : List ℕ) → ((i : ℕ) → Contains is i → HasTree g i) → HaveTrees g is
each-tree g [] each = record { trees = none; are_trees = tt; labels_are = refl }
each-tree g (i ∷ is) each =
    let first : HasTree g i = each i (0, omega arith, refl) in
    let rest : HaveTrees g is = each-tree g is (λ j there. each j (Contains-append_right (i ∷ []) is j there)) in
    record {
      trees = more first.tree rest.trees;
      are_trees = (first.is_tree, rest.are_trees);
      labels_are = ap (λ j. j ∷ labels rest.trees) first.root_is ∙ ap (λ (l : List ℕ). i ∷ l) rest.labels_are;
    }

some-child : (ts : Trees ℕ) (i : ℕ) (is : List ℕ) → labels ts ≡ i ∷ is → HasChild ts 0
some-child none i is same = (let e : 0 ≡ suc (length is) = ap length same in absurd (omega arith))
some-child (more t ts) i is same = tt

tree-above : (g : Graph) (i : ℕ) (is : List ℕ) → children g i ≡ is → HaveTrees g is → HasTree g i
tree-above g i [] are have = record { tree = leaf i; is_tree = are; root_is = refl }
tree-above g i (j ∷ is) are have = record {
  tree = inner i have.trees;
  is_tree = (some-child have.trees j is have.labels_are, have.labels_are ∙ sym are, have.are_trees);
  root_is = refl;
}

-- `left` more levels are allowed
tree-within : (g : Graph) (limit left above i : ℕ) → limit ≤ left + above → IsWithin g i limit above → HasTree g i
tree-within g limit zero above i room within =
    tree-above g i (children g i) refl (each-tree g (children g i) (λ j there. let deeper : suc above ≤ limit = child-within g i j limit above within there in absurd (omega arith)))
tree-within g limit (suc left) above i room within =
    tree-above g i (children g i) refl (each-tree g (children g i) (λ j there. tree-within g limit left (suc above) j (omega arith) (within-child g i j limit above within there)))

pub tree-there : (g : Graph) (root limit : ℕ) → IsWithin g root limit 0 → HasTree g root
tree-there g root limit within = tree-within g limit limit 0 root (omega arith) within
