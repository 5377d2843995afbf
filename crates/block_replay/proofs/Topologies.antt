-- The number of children of the node at an address of a topology.
use Rattle.block_replay.proofs.Prelude.{refl, ◌≡◌, [], ℕ, ◌∙◌, arith, sym, ◌∷◌, List, Some, ap, subst, suc, zero, ◌≤◌, true, None, length, ◌++◌, false, ◌+◌, ◌<◌, ◌↔◌, Global, Vec, get_or, ltb, map, ltb-true, subtree-root, address-down, address-up, Node, topology, topology_step, topology_of, Topology, Address, Tree, inner, leaf, IsAddressOf, subtree, subtree_in, nodes, most_nodes, nodes_below, trees_of}
use Rattle.tree_core.specs.declared.topo.Topo.{Topo}
use Rattle.tree_core.specs.declared.topo.Topo.TheFolds.{fold-roll-Topo}
use Rattle.tree_core.specs.declared.topo.Topo.TheOpen.{Leaf}
use Rattle.tree_core.specs.declared.topo.Topo.TheVariants as variants
use Rattle.tree_core.specs.declared.topo.Topo.TheViews as views
use Rattle.tree_core.proofs.NewTrees.{topology_inner, child_nodes}
use Rattle.tree_core.proofs.AddressSteps.{rest, rest-is}
use Rattle.mapcheck_core.proofs.PlaceLaws.{next_step, no_step}

-- the node at an address has this many children
abbrev pub HasChildren : Topology → Address → ℕ → Type 0
HasChildren t a n = (i : ℕ) → i < n ↔ IsAddressOf t (a ++ i ∷ [])

-- ---- at the root
node_counts : {Q : Type 0} (t : Tree Q) → 1 ≤ nodes t
node_counts (leaf q) = omega arith
node_counts (inner q ts) = omega arith

few_below : (xs : List Topo) → length xs ≤ nodes_below (trees_of (map topology xs))
few_below [] = omega arith
few_below (x ∷ xs) = omega (arith, node_counts (topology x), few_below xs)

pub few_children : (t : Topo) (v : Vec Topo Global) → t ≡ views.Inner v → nodes (topology t) ≤ most_nodes → length v.items ≤ 1024
few_children t v p few =
    let n : nodes (topology t) ≡ nodes_below (trees_of (map topology v.items)) + 1 = ap nodes (topology_inner t v p) in
    omega (arith, n, few, few_below v.items)

child_there : (xs : List Topo) (i : ℕ) → i < length xs → (u : Topology) × (subtree_in (trees_of (map topology xs)) i [] ≡ Some u)
child_there [] i l = absurd (omega (arith, l))
child_there (x ∷ xs) zero l = (topology x, subtree-root (topology x))
child_there (x ∷ xs) (suc i) l = child_there xs i (omega (arith, l))

there_child : (xs : List Topo) (i : ℕ) (u : Topology) → subtree_in (trees_of (map topology xs)) i [] ≡ Some u → i < length xs
there_child [] i u p = (let no : None ≡ Some u = p in cc)
there_child (x ∷ xs) zero u p = omega arith
there_child (x ∷ xs) (suc i) u p = omega (arith, there_child xs i u p)

pub children_here : (t : Topo) (v : Vec Topo Global) (address : Address) (n : ℕ) → t ≡ views.Inner v → length address < 1 → n ≡ length v.items → HasChildren (topology t) address n
children_here t v (d ∷ a) n p k e i = absurd (omega (arith, k))
children_here t v [] n p k e i = (
  λ l. subst (λ (z : Topology). IsAddressOf z (i ∷ [])) (sym (topology_inner t v p)) (child_there v.items i (omega (arith, l, e))),
  λ w. let x : IsAddressOf (inner tt (trees_of (map topology v.items))) (i ∷ []) = subst (λ (z : Topology). IsAddressOf z (i ∷ [])) (topology_inner t v p) w in
      omega (arith, e, there_child v.items i x.0 x.1),
)

-- ---- further down
-- there is no node at a longer address
no_children : (t : Topology) (a : Address) → ((i : ℕ) → subtree t (a ++ i ∷ []) ≡ None) → HasChildren t a 0
no_children t a empty i = (λ l. absurd (omega (arith, l)), λ w. (let no : None ≡ Some w.0 = sym (empty i) ∙ w.1 in cc))

below_leaf : (u : Unit {0}) (a : Address) (i : ℕ) → subtree (leaf u) (a ++ i ∷ []) ≡ None
below_leaf u [] i = refl
below_leaf u (j ∷ a) i = refl

topology_leaf : topology variants.Leaf ≡ leaf tt
unfolding views.roll-Topo denote.Hole.Carrier.roll
topology_leaf = fold-roll-Topo Topology topology_step Leaf

pub leaf_children : (t : Topo) (address : Address) → t ≡ variants.Leaf → HasChildren (topology t) address 0
leaf_children t address p = no_children (topology t) address (λ i. ap (λ (z : Topology). subtree z (address ++ i ∷ [])) (ap topology p ∙ topology_leaf) ∙ below_leaf tt address i)

-- a child has fewer nodes
pub few_in_child : (t : Topo) (v : Vec Topo Global) (xs : List Topo) (x : Topo) (i : ℕ) → t ≡ views.Inner v → xs ≡ v.items → true ≡ ltb i (length xs) → x ≡ get_or xs i x → nodes (topology t) ≤ most_nodes → nodes (topology x) ≤ most_nodes
few_in_child t v xs x i p q l e few =
    let n : nodes (topology t) ≡ nodes_below (trees_of (map topology v.items)) + 1 = ap nodes (topology_inner t v p) in
    let k : i < length v.items = subst (λ (z : List Topo). i < length z) q (ltb-true i (length xs) (sym l)) in
    let m : nodes (topology x) ≤ nodes_below (trees_of (map topology v.items)) = child_nodes v.items i x k (subst (λ (z : List Topo). x ≡ get_or z i x) q e) in
    omega (arith, n, m, few)

pub children_below : (t : Topo) (v : Vec Topo Global) (xs : List Topo) (x : Topo) (address : Address) (n : ℕ) → t ≡ views.Inner v → xs ≡ v.items → 1 ≤ length address → true ≡ ltb (get_or address 0 0) (length xs)
    → x ≡ get_or xs (get_or address 0 0) x → HasChildren (topology x) (rest address) n → HasChildren (topology t) address n
children_below t v xs x [] n p q k l e h i = absurd (omega (arith, k))
children_below t v xs x (d ∷ a) n p q k l e h i =
    let same : subtree (topology t) (d ∷ (a ++ i ∷ [])) ≡ subtree (topology x) (rest (d ∷ a) ++ i ∷ []) =
    next_step t v xs x (d ∷ (a ++ i ∷ [])) p q (omega arith) l e ∙ ap (subtree (topology x)) (rest-is (d ∷ (a ++ i ∷ [])) ∙ ap (λ (w : Address). w ++ i ∷ []) (sym (rest-is (d ∷ a)))) in (
      λ less. (let w = (h i).0 less in (w.0, same ∙ w.1)),
      λ w. (h i).1 (w.0, sym same ∙ w.1),
    )

pub none_past : (t : Topo) (v : Vec Topo Global) (xs : List Topo) (address : Address) → t ≡ views.Inner v → xs ≡ v.items → 1 ≤ length address → false ≡ ltb (get_or address 0 0) (length xs) → HasChildren (topology t) address 0
none_past t v xs [] p q k l = absurd (omega (arith, k))
none_past t v xs (d ∷ a) p q k l = no_children (topology t) (d ∷ a) (λ i. no_step t v xs (d ∷ (a ++ i ∷ [])) p q (omega arith) l)

-- the children of a node of a tree, from the tree's topology
pub tree_children : (tree : Tree Node) (t : Topology) (a b : Address) (n : ℕ) → t ≡ topology_of tree → b ≡ a → HasChildren t b n → (i : ℕ) → i < n ↔ IsAddressOf tree (a ++ i ∷ [])
tree_children tree t a b n p q h i =
    let same : HasChildren (topology_of tree) a n = subst (λ (z : Topology). HasChildren z a n) p (subst (λ (z : Address). HasChildren t z n) q h) in
    (λ l. address-up tree (a ++ i ∷ []) ((same i).0 l), λ w. (same i).1 (address-down tree (a ++ i ∷ []) w))
