-- The numbers of addresses in preorder.
use Rattle.mapcheck_core.proofs.Prelude.{◌≡◌, sym, ℕ, subst, ◌∙◌, ap, [], refl, arith, ◌∷◌, inr, ◌+◌, Some, ◌<◌, ◌≤◌, inl, ◌++◌, suc, zero, ltb, ◌-◌, cases_Bool, lt-ltb, ltb-true, ltb-false, le-ltb, number_of, number_below, Topology, IsBranched, AreBranched, nodes, Address, inner, more, nodes_below, none, Trees, subtree, subtree_in, span_at, span_below}
use Rattle.tree_defs.specs.Tree.{leaf}
use Rattle.tree_core.proofs.NewTrees.{are_branched}

pub some_same : (t u : Topology) → Some t ≡ Some u → t ≡ u
some_same t u e = cc

pub positive : (t : Topology) → 1 ≤ nodes t
positive (leaf u) = omega arith
positive (inner u ts) = omega arith

pub number_root : (t : Topology) → number_of t [] ≡ 0
number_root (leaf u) = refl
number_root (inner u ts) = refl

-- each number is that of an address
mutual
  pub at_number : (t : Topology) (n : ℕ) → n < nodes t → (a : Address) × (u : Topology) × (subtree t a ≡ Some u) × (number_of t a ≡ n)
  at_number (leaf u) n l = let e : 0 ≡ n = omega arith in ([], leaf u, refl, e)
  at_number (inner u ts) zero l = ([], inner u ts, refl, refl)
  at_number (inner u ts) (suc n) l =
      let d = below_number ts n (omega arith) in
      (d.0 ∷ d.1, d.2, d.3, ap suc d.4)

  below_number : (ts : Trees (Unit {0})) (n : ℕ) → n < nodes_below ts → (i : ℕ) × (a : Address) × (u : Topology) × (subtree_in ts i a ≡ Some u) × (number_below ts i a ≡ n)
  below_number none n l = absurd (omega arith)
  below_number (more t ts) n l =
      elim (cases_Bool (ltb n (nodes t))) [
        | inl in_first ↦ let d = at_number t n (ltb-true n (nodes t) in_first) in (0, d.0, d.1, d.2, d.3)
        | inr in_later ↦
            let past : nodes t ≤ n = ltb-false n (nodes t) in_later in
            let d = below_number ts (n - nodes t) (omega arith) in
            let e : nodes t + number_below ts d.0 d.1 ≡ n = omega (arith, d.4) in
            (suc d.0, d.1, d.2, d.3, e)
      ]

-- the numbers of a subtree are consecutive, starting with that of its root
mutual
  pub part_inside : (t : Topology) (a : Address) (u : Topology) → subtree t a ≡ Some u → number_of t a + nodes u ≤ nodes t
  part_inside (leaf q) [] u e = let m : nodes (leaf q) ≡ nodes u = ap nodes (some_same (leaf q) u e) in omega arith
  part_inside (leaf q) (i ∷ a) u e = cc
  part_inside (inner q ts) [] u e = let m : nodes (inner q ts) ≡ nodes u = ap nodes (some_same (inner q ts) u e) in omega arith
  part_inside (inner q ts) (i ∷ a) u e = let m = below_inside ts i a u e in omega arith

  below_inside : (ts : Trees (Unit {0})) (i : ℕ) (a : Address) (u : Topology) → subtree_in ts i a ≡ Some u → number_below ts i a + nodes u ≤ nodes_below ts
  below_inside none i a u e = cc
  below_inside (more t ts) zero a u e = let m = part_inside t a u e in omega arith
  below_inside (more t ts) (suc i) a u e = let m = below_inside ts i a u e in omega arith

pub number_inside : (t : Topology) (a : Address) (u : Topology) → subtree t a ≡ Some u → number_of t a < nodes t
number_inside t a u e = let m = part_inside t a u e in let p = positive u in omega arith

-- different addresses have different numbers
mutual
  pub one_address : (t : Topology) (a b : Address) (u v : Topology) → subtree t a ≡ Some u → subtree t b ≡ Some v → number_of t a ≡ number_of t b → a ≡ b
  one_address (leaf q) [] [] u v e f n = refl
  one_address (leaf q) [] (j ∷ b) u v e f n = cc
  one_address (leaf q) (i ∷ a) b u v e f n = cc
  one_address (inner q ts) [] [] u v e f n = refl
  one_address (inner q ts) [] (j ∷ b) u v e f n = absurd (omega (arith, n))
  one_address (inner q ts) (i ∷ a) [] u v e f n = absurd (omega (arith, n))
  one_address (inner q ts) (i ∷ a) (j ∷ b) u v e f n =
      let m : number_below ts i a ≡ number_below ts j b = omega (arith, n) in
      let same = one_below ts i j a b u v e f m in
      ap (λ (k : ℕ). k ∷ a) same.0 ∙ ap (λ (c : Address). j ∷ c) same.1

  one_below : (ts : Trees (Unit {0})) (i j : ℕ) (a b : Address) (u v : Topology) → subtree_in ts i a ≡ Some u → subtree_in ts j b ≡ Some v → number_below ts i a ≡ number_below ts j b → (i ≡ j) × (a ≡ b)
  one_below none i j a b u v e f n = cc
  one_below (more t ts) zero zero a b u v e f n = (refl, one_address t a b u v e f n)
  one_below (more t ts) zero (suc j) a b u v e f n = let m = number_inside t a u e in absurd (omega (arith, n))
  one_below (more t ts) (suc i) zero a b u v e f n = let m = number_inside t b v f in absurd (omega (arith, n))
  one_below (more t ts) (suc i) (suc j) a b u v e f n =
      let m : number_below ts i a ≡ number_below ts j b = omega (arith, n) in
      let same = one_below ts i j a b u v e f m in
      (ap suc same.0, same.1)

-- the span at the number of a subtree's root is the subtree's number of nodes
mutual
  pub span_is : (t : Topology) (a : Address) (u : Topology) → subtree t a ≡ Some u → span_at t (number_of t a) ≡ nodes u
  span_is (leaf q) [] u e = ap nodes (some_same (leaf q) u e)
  span_is (leaf q) (i ∷ a) u e = cc
  span_is (inner q ts) [] u e = ap nodes (some_same (inner q ts) u e)
  span_is (inner q ts) (i ∷ a) u e = below_is ts i a u e

  below_is : (ts : Trees (Unit {0})) (i : ℕ) (a : Address) (u : Topology) → subtree_in ts i a ≡ Some u → span_below ts (number_below ts i a) ≡ nodes u
  below_is none i a u e = cc
  below_is (more t ts) zero a u e = rw (lt-ltb (number_of t a) (nodes t) (number_inside t a u e)) (span_is t a u e)
  below_is (more t ts) (suc i) a u e =
      let m : nodes t + number_below ts i a - nodes t ≡ number_below ts i a = omega arith in
      rw (le-ltb (nodes t + number_below ts i a) (nodes t) (omega arith)) (ap (span_below ts) m ∙ below_is ts i a u e)

-- a subtree of a branched topology is branched
mutual
  pub part_branched : (t : Topology) (a : Address) (u : Topology) → IsBranched t → subtree t a ≡ Some u → IsBranched u
  part_branched (leaf q) [] u b e = subst IsBranched (some_same (leaf q) u e) b
  part_branched (leaf q) (i ∷ a) u b e = cc
  part_branched (inner q ts) [] u b e = subst IsBranched (some_same (inner q ts) u e) b
  part_branched (inner q ts) (i ∷ a) u b e = below_branched ts i a u (are_branched q ts b) e

  below_branched : (ts : Trees (Unit {0})) (i : ℕ) (a : Address) (u : Topology) → AreBranched ts → subtree_in ts i a ≡ Some u → IsBranched u
  below_branched none i a u b e = cc
  below_branched (more t ts) zero a u b e = part_branched t a u b.0 e
  below_branched (more t ts) (suc i) a u b e = below_branched ts i a u b.1 e

-- a branched subtree of one node is a leaf
pub single_is_leaf : (u : Topology) → IsBranched u → nodes u ≡ 1 → (q : Unit {0}) × (u ≡ leaf q)
single_is_leaf (leaf q) b n = (q, refl)
single_is_leaf (inner q none) b n = absurd b
single_is_leaf (inner q (more t ts)) b n = let p = positive t in absurd (omega (arith, n))

-- a subtree of a subtree
mutual
  pub part_of_part : (t : Topology) (a c : Address) (u : Topology) → subtree t a ≡ Some u → subtree t (a ++ c) ≡ subtree u c
  part_of_part (leaf q) [] c u e = ap (λ (z : Topology). subtree z c) (some_same (leaf q) u e)
  part_of_part (leaf q) (i ∷ a) c u e = cc
  part_of_part (inner q ts) [] c u e = ap (λ (z : Topology). subtree z c) (some_same (inner q ts) u e)
  part_of_part (inner q ts) (i ∷ a) c u e = part_of_below ts i a c u e

  part_of_below : (ts : Trees (Unit {0})) (i : ℕ) (a c : Address) (u : Topology) → subtree_in ts i a ≡ Some u → subtree_in ts i (a ++ c) ≡ subtree u c
  part_of_below none i a c u e = cc
  part_of_below (more t ts) zero a c u e = part_of_part t a c u e
  part_of_below (more t ts) (suc i) a c u e = part_of_below ts i a c u e

-- in a subtree the numbers continue from that of its root
mutual
  pub number_in_part : (t : Topology) (a c : Address) (u : Topology) → subtree t a ≡ Some u → number_of t (a ++ c) ≡ number_of t a + number_of u c
  number_in_part (leaf q) [] c u e = let m : number_of (leaf q) c ≡ number_of u c = ap (λ (z : Topology). number_of z c) (some_same (leaf q) u e) in omega arith
  number_in_part (leaf q) (i ∷ a) c u e = cc
  number_in_part (inner q ts) [] c u e = let m : number_of (inner q ts) c ≡ number_of u c = ap (λ (z : Topology). number_of z c) (some_same (inner q ts) u e) in omega arith
  number_in_part (inner q ts) (i ∷ a) c u e = let m = number_below_part ts i a c u e in omega arith

  number_below_part : (ts : Trees (Unit {0})) (i : ℕ) (a c : Address) (u : Topology) → subtree_in ts i a ≡ Some u → number_below ts i (a ++ c) ≡ number_below ts i a + number_of u c
  number_below_part none i a c u e = cc
  number_below_part (more t ts) zero a c u e = number_in_part t a c u e
  number_below_part (more t ts) (suc i) a c u e = let m = number_below_part ts i a c u e in omega arith

-- a subtree has at most as many nodes as the whole
pub span_low : (t : Topology) (n : ℕ) → n < nodes t → span_at t n ≤ nodes t
span_low t n l =
    let d = at_number t n l in
    let m : span_at t n ≡ nodes d.1 = ap (span_at t) (sym d.3) ∙ span_is t d.0 d.1 d.2 in
    let p = part_inside t d.0 d.1 d.2 in
    omega arith
