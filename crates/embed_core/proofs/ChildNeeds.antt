-- The needs of a topology, computed from those of its children.
use Rattle.embed_core.proofs.Prelude.{◌≡◌, length, arith, sym, ◌∙◌, ap, List, ◌+◌, subst, ℕ, ◌<◌, [], refl, ◌≤◌, get_or, ◌∷◌, ◌++◌, map, take, Global, Vec, map_more, enough-nodes, AreWide, Arities, FitsBelow, needs_at, enough, IsLeast, HoldNeeds, AreNeedsOf, topology_inner, topology, branch, Topo, topology_of-same, nodes-topology, nodes_below-topology, topologies_of-same, IsBranched, Topology, trees_of, Tree, root_of, nodes, inner, Trees, nodes_below, SameShape, SameShapes}
use Rattle.tree_core.specs.declared.topo.Topo.TheViews as views

-- the needs of each of some topologies
abbrev pub AreNeedsOfEach : Arities → List Topology → List (Tree ℕ) → Type 0
AreNeedsOfEach a [] [] = Unit {0}
AreNeedsOfEach a [] (k ∷ ks) = ⊥
AreNeedsOfEach a (x ∷ xs) [] = ⊥
AreNeedsOfEach a (x ∷ xs) (k ∷ ks) = AreNeedsOf a x k × AreNeedsOfEach a xs ks

each-push : (a : Arities) (xs : List Topology) (ks : List (Tree ℕ)) (x : Topology) (k : Tree ℕ) → AreNeedsOfEach a xs ks → AreNeedsOf a x k → AreNeedsOfEach a (xs ++ x ∷ []) (ks ++ k ∷ [])
each-push a [] [] x k h n = (n, tt)
each-push a [] (j ∷ ks) x k h n = absurd h
each-push a (y ∷ xs) [] x k h n = absurd h
each-push a (y ∷ xs) (j ∷ ks) x k h n = (h.0, each-push a xs ks x k h.1 n)

each-shape : (a : Arities) (xs : List Topology) (ks : List (Tree ℕ)) → AreNeedsOfEach a xs ks → SameShapes (trees_of xs) (trees_of ks)
each-shape a [] [] h = tt
each-shape a [] (k ∷ ks) h = absurd h
each-shape a (x ∷ xs) [] h = absurd h
each-shape a (x ∷ xs) (k ∷ ks) h = (h.0.shape, each-shape a xs ks h.1)

each-needs : (a : Arities) (xs : List Topology) (ks : List (Tree ℕ)) → AreNeedsOfEach a xs ks → HoldNeeds a (trees_of ks)
each-needs a [] [] h = tt
each-needs a [] (k ∷ ks) h = absurd h
each-needs a (x ∷ xs) [] h = absurd h
each-needs a (x ∷ xs) (k ∷ ks) h = (h.0.needs, each-needs a xs ks h.1)

-- one more child
pub one_more : (a : Arities) (xs : List Topo) (i : ℕ) (x : Topo) (ks : List (Tree ℕ)) (k : Tree ℕ) → i < length xs → x ≡ get_or xs i x
    → AreNeedsOfEach a (map topology (take i xs)) ks → AreNeedsOf a (topology x) k → AreNeedsOfEach a (map topology (take (i + 1) xs)) (ks ++ k ∷ [])
one_more a xs i x ks k l e h n =
    let m : map topology (take (i + 1) xs) ≡ map topology (take i xs) ++ topology x ∷ [] = map_more topology xs i x l ∙ ap (λ (z : Topo). map topology (take i xs) ++ topology z ∷ []) (sym e) in
    subst (λ (z : List Topology). AreNeedsOfEach a z (ks ++ k ∷ [])) (sym m) (each-push a (map topology (take i xs)) ks (topology x) k h n)

pub needs-push : (ks : List (Tree ℕ)) (k : Tree ℕ) → needs_at (trees_of (ks ++ k ∷ [])) ≡ needs_at (trees_of ks) ++ root_of k ∷ []
needs-push [] k = refl
needs-push (j ∷ ks) k = ap (λ (z : List ℕ). root_of j ∷ z) (needs-push ks k)

same-nodes_below : {Q R : Type 0} (ts : Trees Q) (us : Trees R) → SameShapes ts us → nodes_below ts ≡ nodes_below us
same-nodes_below ts us s = sym (nodes_below-topology ts) ∙ ap nodes_below (topologies_of-same ts us s) ∙ nodes_below-topology us

pub same-nodes : {Q R : Type 0} (t : Tree Q) (u : Tree R) → SameShape t u → nodes t ≡ nodes u
same-nodes t u s = sym (nodes-topology t) ∙ ap nodes (topology_of-same t u s) ∙ nodes-topology u

-- all children
module _ (a : Arities) (t : Topo) (v : Vec Topo Global) (p : t ≡ views.Inner v) (ks : List (Tree ℕ)) (h : AreNeedsOfEach a (map topology v.items) ks) where
  pub few_needs : AreWide a → enough (needs_at (trees_of ks)) ≤ nodes (topology t)
  few_needs b =
      let n : nodes (topology t) ≡ nodes_below (trees_of (map topology v.items)) + 1 = ap nodes (topology_inner t v p) in
      omega (arith, n, same-nodes_below (trees_of (map topology v.items)) (trees_of ks) (each-shape a (map topology v.items) ks h), enough-nodes a (trees_of ks) b (each-needs a (map topology v.items) ks h))

  pub all_needs : (n : ℕ) → IsBranched (topology t) → IsLeast (FitsBelow a (needs_at (trees_of ks))) n → AreNeedsOf a (topology t) (branch n (trees_of ks))
  all_needs n b l = subst (λ (z : Topology). AreNeedsOf a z (branch n (trees_of ks))) (sym (topology_inner t v p)) (node (map topology v.items) ks h (subst IsBranched (topology_inner t v p) b) l)
    where
      node : (xs : List Topology) (ks : List (Tree ℕ)) → AreNeedsOfEach a xs ks → IsBranched (inner tt (trees_of xs)) → IsLeast (FitsBelow a (needs_at (trees_of ks))) n → AreNeedsOf a (inner tt (trees_of xs)) (branch n (trees_of ks))
      node [] ks h b l = absurd b
      node (x ∷ xs) [] h b l = absurd h
      node (x ∷ xs) (k ∷ ks) h b l = record { shape = (h.0.shape, each-shape a xs ks h.1); needs = (l, (h.0.needs, each-needs a xs ks h.1)) }
