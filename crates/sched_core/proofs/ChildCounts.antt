-- The number of children of a node, by its shape.
use Rattle.sched_core.proofs.Prelude.{arith, ◌≡◌, ap, ◌∙◌, sym, ℕ, List, length, subst, Some, ◌<◌, [], refl, ◌∷◌, Option, None, ◌≤◌, get_or, suc, zero, map, ◌^◌, unwrap_or, HasFewChildren, HaveFewChildren, Node, topology, topology_of, Topology, topologies_of, Tree, Address, inner, leaf, subtree, IsAddressOf, Trees, more, none, subtree_in, count_of, trees_of, part_at, arity}
use Rattle.tree_core.specs.declared.topo.Topo.{Topo}
use Rattle.sched_core.proofs.TreeParts.{some-is, part-is, part-known, later, later-cons}

abbrev pub shapes : List Topo → Trees (Unit {0})
shapes ks = trees_of (map topology ks)

pub count-shapes : (ks : List Topo) → count_of (shapes ks) ≡ length ks
count-shapes [] = refl
count-shapes (k ∷ ks) = ap suc (count-shapes ks)

within-shapes : (ks : List Topo) (i : ℕ) (a : Address) (u : Topology) → subtree_in (shapes ks) i a ≡ Some u → i < length ks
within-shapes [] i a u e = (let f : None ≡ Some u = e in cc)
within-shapes (k ∷ ks) zero a u e = omega arith
within-shapes (k ∷ ks) (suc i) a u e = omega (arith, within-shapes ks i a u e)

in-shapes : (ks : List Topo) (i : ℕ) (a : Address) (d : Topo) → i < length ks → subtree_in (shapes ks) i a ≡ subtree (topology (get_or ks i d)) a
in-shapes [] i a d l = absurd (omega arith)
in-shapes (k ∷ ks) zero a d l = refl
in-shapes (k ∷ ks) (suc i) a d l = in-shapes ks i a d (omega arith)

module _ (t : Topology) (ks : List Topo) (is : t ≡ inner tt (shapes ks)) where
  pub digit-within : (a : Address) → 1 ≤ length a → IsAddressOf t a → get_or a 0 0 < length ks
  digit-within [] l p = absurd (omega arith)
  digit-within (i ∷ a) l p = within-shapes ks i a p.0 (ap (λ (u : Topology). subtree u (i ∷ a)) (sym is) ∙ p.1)

  part-same : (a : Address) (k : Topo) → 1 ≤ length a → IsAddressOf t a → k ≡ get_or ks (get_or a 0 0) k → subtree t a ≡ subtree (topology k) (later a)
  part-same [] k l p at = absurd (omega arith)
  part-same (i ∷ a) k l p at =
      ap (λ (u : Topology). subtree u (i ∷ a)) is ∙ in-shapes ks i a k (digit-within (i ∷ a) l p)
      ∙ ap (λ (j : Topo). subtree (topology j) a) (sym at) ∙ ap (subtree (topology k)) (sym (later-cons i a))

  pub part-there : (a : Address) (k : Topo) → 1 ≤ length a → IsAddressOf t a → k ≡ get_or ks (get_or a 0 0) k → IsAddressOf (topology k) (later a)
  part-there a k l p at = (p.0, sym (part-same a k l p at) ∙ p.1)

  pub arity-below : (a : Address) (k : Topo) → 1 ≤ length a → IsAddressOf t a → k ≡ get_or ks (get_or a 0 0) k → arity (part_at (topology k) (later a)) ≡ arity (part_at t a)
  arity-below a k l p at = ap (λ (u : Topology). arity u) (known (topology k) (later a) p.0 (sym (part-same a k l p at) ∙ p.1) ∙ sym (known t a p.0 p.1))
    where
      known : (s : Topology) (b : Address) (u : Topology) → subtree s b ≡ Some u → part_at s b ≡ u
      known s b u e = ap (λ (o : Option Topology). unwrap_or o s) e

  pub arity-here : (a : Address) (n : ℕ) → length a < 1 → n ≡ length ks → Some n ≡ arity (part_at t a)
  arity-here [] n l e = ap Some (e ∙ sym (count-shapes ks)) ∙ ap (λ (u : Topology). arity (part_at u [])) (sym is)
  arity-here (i ∷ a) n l e = absurd (omega arith)

-- ---- the shape of a policy's tree gives the number of children of its nodes
mutual
  subtree-shape : (t : Tree Node) (a : Address) (u : Tree Node) → subtree t a ≡ Some u → subtree (topology_of t) a ≡ Some (topology_of u)
  subtree-shape (leaf q) [] u e = ap (λ (t : Tree Node). Some (topology_of t)) (some-is e)
  subtree-shape (leaf q) (i ∷ a) u e = cc
  subtree-shape (inner q ts) [] u e = ap (λ (t : Tree Node). Some (topology_of t)) (some-is e)
  subtree-shape (inner q ts) (i ∷ a) u e = subtree-shape_below ts i a u e

  subtree-shape_below : (ts : Trees Node) (i : ℕ) (a : Address) (u : Tree Node) → subtree_in ts i a ≡ Some u → subtree_in (topologies_of ts) i a ≡ Some (topology_of u)
  subtree-shape_below none i a u e = cc
  subtree-shape_below (more t ts) zero a u e = subtree-shape t a u e
  subtree-shape_below (more t ts) (suc i) a u e = subtree-shape_below ts i a u e

count-topologies : (ts : Trees Node) → count_of (topologies_of ts) ≡ count_of ts
count-topologies none = refl
count-topologies (more t ts) = ap suc (count-topologies ts)

arity-shape : (t : Tree Node) → arity (topology_of t) ≡ arity t
arity-shape (leaf n) = refl
arity-shape (inner n ts) = ap Some (count-topologies ts)

pub arity-told : (tree : Tree Node) (a : Address) (t : Topology) → IsAddressOf tree a → t ≡ topology_of tree → arity (part_at t a) ≡ arity (part_at tree a)
arity-told tree a t p is =
    ap (λ (u : Topology). arity (part_at u a)) is
    ∙ ap (λ (o : Option Topology). arity (unwrap_or o (topology_of tree))) (subtree-shape tree a p.0 p.1)
    ∙ arity-shape p.0
    ∙ ap (λ (u : Tree Node). arity u) (sym (part-known tree a p.0 p.1))

pub shape-there : (tree : Tree Node) (a : Address) (t : Topology) → IsAddressOf tree a → t ≡ topology_of tree → IsAddressOf t a
shape-there tree a t p is = (topology_of p.0, ap (λ (u : Topology). subtree u a) is ∙ subtree-shape tree a p.0 p.1)

-- ---- few enough for 32 bits
mutual
  few-part : (t : Tree Node) (a : Address) (u : Tree Node) → subtree t a ≡ Some u → HasFewChildren t → HasFewChildren u
  few-part (leaf q) [] u e h = subst HasFewChildren (some-is e) h
  few-part (leaf q) (i ∷ a) u e h = cc
  few-part (inner q ts) [] u e h = subst HasFewChildren (some-is e) h
  few-part (inner q ts) (i ∷ a) u e h = few-part_below ts i a u e h.1

  few-part_below : (ts : Trees Node) (i : ℕ) (a : Address) (u : Tree Node) → subtree_in ts i a ≡ Some u → HaveFewChildren ts → HasFewChildren u
  few-part_below none i a u e h = cc
  few-part_below (more t ts) zero a u e h = few-part t a u e h.0
  few-part_below (more t ts) (suc i) a u e h = few-part_below ts i a u e h.1

few-here : (t : Tree Node) (n : ℕ) → HasFewChildren t → Some n ≡ arity t → n < 2 ^ 32
few-here (leaf q) n h e = cc
few-here (inner q ts) n h e = subst (λ (k : ℕ). k < 2 ^ 32) (sym (some-is e)) h.0

pub few-children : (tree : Tree Node) (a : Address) (n : ℕ) → IsAddressOf tree a → HasFewChildren tree → Some n ≡ arity (part_at tree a) → n < 2 ^ 32
few-children tree a n p h e = few-here (part_at tree a) n (few-part tree a (part_at tree a) (part-is tree a p) h) e
