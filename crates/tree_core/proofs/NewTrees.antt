-- A new tree has its topology and empty queues.
use Rattle.tree_core.proofs.Prelude.{arith, ◌≡◌, ap, ◌∙◌, get_or, length, ◌<◌, subst, ◌≤◌, List, [], refl, ◌∷◌, sym, take, ℕ, ◌+◌, suc, zero, map, ◌++◌, Global, Vec, map_more, Contents, IsWellFormed-empty, Queue, IsWellFormed, empty_trees, empty_tree, IsBranched, AreBranched, Topology, Tree, Trees, depth, inner, more, nodes, trees_of, depth_below, none, nodes_below, topology, topology_step, TreeContents, forest, branch, HasDigits, IsSound, EachPushed, Topo}
use Rattle.tree_core.specs.declared.topo.Topo.TheOpen.{Inner}
use Rattle.tree_core.specs.declared.topo.Topo.TheViews as views
use Rattle.tree_core.specs.declared.topo.Topo.TheFolds.{fold-roll-Topo}

pub topology_inner : (t : Topo) (v : Vec Topo Global) → t ≡ views.Inner v → topology t ≡ inner tt (trees_of (map topology v.items))
unfolding views.roll-Topo denote.Hole.Carrier.roll
topology_inner t v p = ap topology p ∙ fold-roll-Topo Topology topology_step (Inner v)

-- each child of a branched node is branched
pub child_branched : (xs : List Topo) (i : ℕ) (x : Topo) → AreBranched (trees_of (map topology xs)) → i < length xs → x ≡ get_or xs i x → IsBranched (topology x)
child_branched [] i x b l e = absurd (omega arith)
child_branched (y ∷ xs) zero x b l e = subst (λ (z : Topo). IsBranched (topology z)) (sym e) b.0
child_branched (y ∷ xs) (suc i) x b l e = child_branched xs i x b.1 (omega arith) e

pub child_nodes : (xs : List Topo) (i : ℕ) (x : Topo) → i < length xs → x ≡ get_or xs i x → nodes (topology x) ≤ nodes_below (trees_of (map topology xs))
child_nodes [] i x l e = absurd (omega arith)
child_nodes (y ∷ xs) zero x l e = let m : nodes (topology x) ≡ nodes (topology y) = ap (λ (z : Topo). nodes (topology z)) e in omega arith
child_nodes (y ∷ xs) (suc i) x l e = omega (arith, child_nodes xs i x (omega arith) e)

pub child_smaller : (t : Topo) (v : Vec Topo Global) (x : Topo) (i : ℕ) → t ≡ views.Inner v → i < length v.items → x ≡ get_or v.items i x → nodes (topology x) < nodes (topology t)
child_smaller t v x i p l e = let n : nodes (topology t) ≡ nodes_below (trees_of (map topology v.items)) + 1 = ap nodes (topology_inner t v p) in omega (arith, child_nodes v.items i x l e)

child_depth : (xs : List Topo) (i : ℕ) (x : Topo) → i < length xs → x ≡ get_or xs i x → depth (topology x) < depth_below (trees_of (map topology xs))
child_depth [] i x l e = absurd (omega arith)
child_depth (y ∷ xs) zero x l e = let d : depth (topology x) ≡ depth (topology y) = ap (λ (z : Topo). depth (topology z)) e in omega arith
child_depth (y ∷ xs) (suc i) x l e = omega (arith, child_depth xs i x (omega arith) e)

-- each child has fewer levels below it
pub child_shallower : (t : Topo) (v : Vec Topo Global) (x : Topo) (i : ℕ) → t ≡ views.Inner v → i < length v.items → x ≡ get_or v.items i x → depth (topology x) < depth (topology t)
child_shallower t v x i p l e = let d : depth (topology t) ≡ depth_below (trees_of (map topology v.items)) = ap depth (topology_inner t v p) in omega (arith, child_depth v.items i x l e)

pub are_branched : (u : Unit {0}) (ts : Trees (Unit {0})) → IsBranched (inner u ts) → AreBranched ts
are_branched u none b = absurd b
are_branched u (more t ts) b = b

pub forest-push : (ks : List TreeContents) (k : TreeContents) → (ts : Trees (Unit {0})) (xs : List Topology) (x : Topology) → forest ks ≡ empty_trees (trees_of xs) → k.tree ≡ empty_tree x
    → forest (ks ++ k ∷ []) ≡ empty_trees (trees_of (xs ++ x ∷ []))
forest-push [] k ts [] x e f = ap (λ (t : Tree Queue). more t none) f
forest-push [] k ts (y ∷ xs) x e f = cc
forest-push (j ∷ ks) k ts [] x e f = cc
forest-push (j ∷ ks) k ts (y ∷ xs) x e f =
    let here : j.tree ≡ empty_tree y = cc in
    let there : forest ks ≡ empty_trees (trees_of xs) = cc in
    let ih : forest (ks ++ k ∷ []) ≡ empty_trees (trees_of (xs ++ x ∷ [])) = forest-push ks k ts xs x there f in
    cc

pub EachPushed-push : (n : ℕ) (ks : List TreeContents) (k : TreeContents) → k.pushes ≤ n → EachPushed n ks → EachPushed n (ks ++ k ∷ [])
EachPushed-push n [] k l h = (l, tt)
EachPushed-push n (j ∷ ks) k l h = (h.0, EachPushed-push n ks k l h.1)

-- one child more
pub one_more : (xs : List Topo) (i : ℕ) (x : Topo) (ks : List TreeContents) (k : TreeContents) → i < length xs → x ≡ get_or xs i x
    → forest ks ≡ empty_trees (trees_of (map topology (take i xs))) → k.tree ≡ empty_tree (topology x) → forest (ks ++ k ∷ []) ≡ empty_trees (trees_of (map topology (take (i + 1) xs)))
one_more xs i x ks k l e f g =
    let m : map topology (take (i + 1) xs) ≡ map topology (take i xs) ++ topology x ∷ [] = map_more topology xs i x l ∙ ap (λ (z : Topo). map topology (take i xs) ++ topology z ∷ []) (sym e) in
    forest-push ks k none (map topology (take i xs)) (topology x) f g ∙ ap (λ (z : List Topology). empty_trees (trees_of z)) (sym m)

-- all children
module _ (t : Topo) (v : Vec Topo Global) (p : t ≡ views.Inner v) (b : IsBranched (topology t)) (s : Contents) (ks : List TreeContents) (q : s.entries ≡ []) (n : s.pushes ≡ 0) (f : forest ks ≡ empty_trees (trees_of (map topology v.items))) where
  pub grown_tree : branch s.entries (forest ks) ≡ empty_tree (topology t)
  grown_tree =
      ap (λ (z : Queue). branch z (forest ks)) q ∙ ap (branch []) f
      ∙ node (trees_of (map topology v.items)) (subst IsBranched (topology_inner t v p) b)
      ∙ ap empty_tree (sym (topology_inner t v p))
    where
      node : (ts : Trees (Unit {0})) → IsBranched (inner tt ts) → branch [] (empty_trees ts) ≡ empty_tree (inner tt ts)
      node none b = absurd b
      node (more t ts) b = refl

  pub grown_sound : EachPushed 0 ks → IsSound s ks
  grown_sound c = record {
    well_formed = subst IsWellFormed (sym grown_tree) (IsWellFormed-empty (topology t));
    pushed_below = subst (λ (z : ℕ). EachPushed z ks) (sym n) c;
    digits = subst (λ (z : Queue). HasDigits z ks) (sym q) (no_digits ks);
  }
    where
      no_digits : (ks : List TreeContents) → HasDigits [] ks
      no_digits [] = tt
      no_digits (k ∷ ks) = tt
