-- Prefixes by number, and the tests of addresses, leaves and prefixes.
use Rattle.mapcheck_core.proofs.Prelude.{◌≡◌, sym, ℕ, subst, ◌∙◌, ap, refl, arith, None, ◌+◌, Some, ◌<◌, true, ◌≤◌, ◌++◌, Option, ltb, ◌-◌, leb, and_parts, lt-ltb, and_from, ltb-true, le-leb, leb-true, is_some, number_of, leaf_at, after-append, after-is, leads_to, Topology, IsBranched, IsPrefixOf, after, nodes, Address, inner, IsAddressOf, subtree, LeadsToLeaf, span_at, is_address, is_leaf, is_leaf_at}
use Rattle.tree_defs.specs.Tree.{leaf}
use Rattle.mapcheck_core.specs.Checks as check
use Rattle.mapcheck_core.proofs.NumberLaws.{at_number, number_inside, one_address, span_is, part_branched, single_is_leaf, part_of_part, number_in_part}

pub prefix_inside : (t : Topology) (a b : Address) (u v : Topology) → subtree t a ≡ Some u → subtree t b ≡ Some v → IsPrefixOf a b → (number_of t a ≤ number_of t b) × (number_of t b - number_of t a < nodes u)
prefix_inside t a b u v e f p =
    let is : b ≡ a ++ p.0 = after-is a b p.0 p.1 in
    let n : number_of t b ≡ number_of t a + number_of u p.0 = ap (number_of t) is ∙ number_in_part t a p.0 u e in
    let part : subtree u p.0 ≡ Some v = sym (part_of_part t a p.0 u e) ∙ sym (ap (subtree t) is) ∙ f in
    let l : number_of u p.0 < nodes u = number_inside u p.0 v part in
    (omega arith, omega arith)

pub inside_prefix : (t : Topology) (a b : Address) (u v : Topology) → subtree t a ≡ Some u → subtree t b ≡ Some v → number_of t a ≤ number_of t b → number_of t b - number_of t a < nodes u → IsPrefixOf a b
inside_prefix t a b u v e f low high =
    let d = at_number u (number_of t b - number_of t a) high in
    let part : subtree t (a ++ d.0) ≡ Some d.1 = part_of_part t a d.0 u e ∙ d.2 in
    let n : number_of t (a ++ d.0) ≡ number_of t b = omega (arith, number_in_part t a d.0 u e, d.3) in
    let is : a ++ d.0 ≡ b = one_address t (a ++ d.0) b d.1 v part f n in
    subst (IsPrefixOf a) is (d.0, after-append a d.0)

-- ---- tests

pub there : {X : Type 0} (o : Option X) → is_some o ≡ true → (x : X) × (o ≡ Some x)
there None e = cc
there (Some x) e = (x, refl)

pub leaf_there : (o : Option Topology) → is_leaf o ≡ true → (q : Unit {0}) × (o ≡ Some (leaf q))
leaf_there None e = cc
leaf_there (Some (leaf q)) e = (q, refl)
leaf_there (Some (inner q ts)) e = cc

pub prefix_true : (a b : Address) → IsPrefixOf a b → check.is_prefix a b ≡ true
prefix_true a b p = ap is_some p.1

pub true_prefix : (a b : Address) → check.is_prefix a b ≡ true → IsPrefixOf a b
true_prefix a b e = there (after a b) e

pub address_true : (t : Topology) (a : Address) → IsAddressOf t a → is_address t a ≡ true
address_true t a h = ap is_some h.1

pub leaf_true : (t : Topology) (a : Address) → LeadsToLeaf t a → is_leaf_at t a ≡ true
leaf_true t a l = ap is_leaf (leaf_at t a l).1

pub true_leaf : (t : Topology) (a : Address) → is_leaf_at t a ≡ true → LeadsToLeaf t a
true_leaf t a e = let d = leaf_there (subtree t a) e in leads_to t a d.0 d.1

-- the subtree at a number has one node exactly if it is a leaf
pub single_leaf : (t : Topology) (a : Address) (u : Topology) → IsBranched t → subtree t a ≡ Some u → span_at t (number_of t a) ≡ 1 → LeadsToLeaf t a
single_leaf t a u b e n =
    let d = single_is_leaf u (part_branched t a u b e) (sym (span_is t a u e) ∙ n) in
    leads_to t a d.0 (e ∙ ap (λ (z : Topology). Some z) d.1)

pub leaf_single : (t : Topology) (a : Address) → LeadsToLeaf t a → span_at t (number_of t a) ≡ 1
leaf_single t a l = let d = leaf_at t a l in span_is t a (leaf d.0) d.1

pub inside_true : (first span n : ℕ) → first ≤ n → n - first < span → check.lies_in first span n ≡ true
inside_true first span n low high = and_from _ _ (le-leb first n low) (lt-ltb (n - first) span high)

pub true_inside : (first span n : ℕ) → check.lies_in first span n ≡ true → (first ≤ n) × (n - first < span)
true_inside first span n e =
    let both = and_parts (leb first n) (ltb (n - first) span) e in
    (leb-true first n both.0, ltb-true (n - first) span both.1)
