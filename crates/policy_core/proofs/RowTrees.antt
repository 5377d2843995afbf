-- A tree built from the contents of rows.
use Rattle.policy_core.proofs.Prelude.{List, ◌≡◌, ℕ, ap, [], ◌∙◌, arith, length, ◌<◌, ◌∷◌, refl, suc, ◌++◌, ◌+◌, get_or-append-add, get_or_append_left, nodes-topology, topology_of, topologies_of, Tree, Trees, inner, more, none, Address, nodes, nodes_below, length-rows, rows, rows_below, Row, row_at, row, map_tree, map_trees, nodes_from, nodes_from_below}
use Rattle.tree_defs.specs.Tree.{leaf}

-- a function of numbers agrees with a function of nodes on rows; the first row has number n
abbrev Agrees : {Q : Type 0} → (ℕ → Q) → (ℕ → Q) → ℕ → List Row → ℕ → Type 0
Agrees h f n all count = (k : ℕ) → k < count → h (n + k) ≡ f (row_at all k).node

module _ {Q : Type 0} (h f : ℕ → Q) where
  mutual
    tree-told : (n m : ℕ) (a : Address) (t : Tree ℕ) → Agrees h f n (rows m a t) (nodes t) → nodes_from h n (topology_of t) ≡ map_tree f t
    tree-told n m a (leaf i) agree = (let e : n ≡ n + 0 = omega arith in ap (λ k. leaf (h k)) e ∙ ap leaf (agree 0 (omega arith)))
    tree-told n m a (inner i ts) agree =
        let e : n ≡ n + 0 = omega arith in
        let below : Agrees h f (n + 1) (rows_below (m + 1) a 0 ts) (nodes_below ts) = λ k l. (let next : n + 1 + k ≡ n + suc k = omega arith in ap h next ∙ agree (suc k) (omega (arith, l))) in
        ap (λ k. inner (h k) (nodes_from_below h (n + 1) (topologies_of ts))) e
        ∙ ap (λ q. inner q (nodes_from_below h (n + 1) (topologies_of ts))) (agree 0 (omega arith)) ∙ ap (inner (f i)) (trees-told (n + 1) (m + 1) a 0 ts below)

    trees-told : (n m : ℕ) (a : Address) (d : ℕ) (ts : Trees ℕ) → Agrees h f n (rows_below m a d ts) (nodes_below ts) → nodes_from_below h n (topologies_of ts) ≡ map_trees f ts
    trees-told n m a d none agree = refl
    trees-told n m a d (more t ts) agree =
        let xs : List Row = rows m (a ++ d ∷ []) t in
        let ys : List Row = rows_below (m + nodes t) a (d + 1) ts in
        let first : Agrees h f n xs (nodes t) = λ k l. agree k (omega (arith, l)) ∙ ap (λ (r : Row). f r.node) (get_or_append_left xs ys (row 0 [] []) k (omega (arith, l, length-rows m (a ++ d ∷ []) t))) in
        let later : Agrees h f (n + nodes t) ys (nodes_below ts) = λ k l.
        (let next : n + nodes t + k ≡ n + (nodes t + k) = omega arith in
        let behind : nodes t + k ≡ length xs + k = omega (arith, length-rows m (a ++ d ∷ []) t) in
        ap h next ∙ agree (nodes t + k) (omega (arith, l)) ∙ ap (λ j. f (row_at (xs ++ ys) j).node) behind ∙ ap (λ (r : Row). f r.node) (get_or-append-add xs ys k (row 0 [] []))) in
        ap (λ c. more (nodes_from h n (topology_of t)) (nodes_from_below h (n + c) (topologies_of ts))) (nodes-topology t)
        ∙ ap (λ (u : Tree Q). more u (nodes_from_below h (n + nodes t) (topologies_of ts))) (tree-told n m (a ++ d ∷ []) t first)
        ∙ ap (λ (us : Trees Q). more (map_tree f t) us) (trees-told (n + nodes t) (m + nodes t) a (d + 1) ts later)

pub rows-told : {Q : Type 0} (f : ℕ → Q) (t : Tree ℕ) → nodes_from (λ n. f (row_at (rows 0 [] t) n).node) 0 (topology_of t) ≡ map_tree f t
rows-told f t = tree-told (λ n. f (row_at (rows 0 [] t) n).node) f 0 0 [] t (λ k l. (let e : 0 + k ≡ k = omega arith in ap (λ j. f (row_at (rows 0 [] t) j).node) e))
