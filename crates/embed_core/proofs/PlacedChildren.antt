-- Facts about the children of a node that has room for them.
use Rattle.embed_core.proofs.Prelude.{◌≡◌, length, arith, sym, ◌∙◌, ap, List, ◌+◌, subst, ℕ, ◌<◌, [], ◌≤◌, get_or, ◌∷◌, suc, zero, inl, inr, lower-more, ArePositive, leaves-le, children, IsAmong, Arities, FitsBelow, needs_at, HasHeight, AreLower, HoldNeeds, HoldsNeeds, branch, trees_of, Tree, root_of, nodes, inner, leaf, nodes_below}

module _ (a : Arities) (m : Tree ℕ) (n h : ℕ) (p : ArePositive a) (d : HoldsNeeds a m) (r : HasHeight h m) where
  pub children-fit : (ks : List (Tree ℕ)) → branch n (trees_of ks) ≡ m → 0 < length ks → FitsBelow a (needs_at (trees_of ks)) h
  children-fit [] e l = absurd (omega arith)
  children-fit (k ∷ ks) e l = fit (subst (HoldsNeeds a) (sym e) d) (subst (HasHeight h) (sym e) r)
    where
      fit : HoldsNeeds a (inner n (trees_of (k ∷ ks))) → HasHeight h (inner n (trees_of (k ∷ ks))) → FitsBelow a (needs_at (trees_of (k ∷ ks))) h
      fit d r = record {
        below = lower-more n h (needs_at (trees_of (k ∷ ks))) r d.0.holds.below;
        room = omega (arith, d.0.holds.room, leaves-le a n h p r);
      }

  pub children-hold : (ks : List (Tree ℕ)) → branch n (trees_of ks) ≡ m → HoldNeeds a (trees_of ks)
  children-hold [] e = tt
  children-hold (k ∷ ks) e = (subst (HoldsNeeds a) (sym e) d).1

pub child-holds : (a : Arities) (ks : List (Tree ℕ)) (i : ℕ) (k : Tree ℕ) → HoldNeeds a (trees_of ks) → i < length ks → k ≡ get_or ks i k → HoldsNeeds a k
child-holds a [] i k h l e = absurd (omega arith)
child-holds a (j ∷ ks) zero k h l e = subst (HoldsNeeds a) (sym e) h.0
child-holds a (j ∷ ks) (suc i) k h l e = child-holds a ks i k h.1 (omega arith) e

child-nodes : (ks : List (Tree ℕ)) (i : ℕ) (k : Tree ℕ) → i < length ks → k ≡ get_or ks i k → nodes k ≤ nodes_below (trees_of ks)
child-nodes [] i k l e = absurd (omega arith)
child-nodes (j ∷ ks) zero k l e = let m : nodes k ≡ nodes j = ap nodes e in omega (arith, m)
child-nodes (j ∷ ks) (suc i) k l e = omega (arith, child-nodes ks i k (omega arith) e)

each-positive : (t : Tree ℕ) → 1 ≤ nodes t
each-positive (leaf n) = omega arith
each-positive (inner n ts) = omega arith

pub child-count : (m : Tree ℕ) (n : ℕ) (ks : List (Tree ℕ)) → branch n (trees_of ks) ≡ m → length ks ≤ nodes m
child-count m n [] p = omega arith
child-count m n (j ∷ ks) p = let q : nodes (branch n (trees_of (j ∷ ks))) ≡ nodes m = ap nodes p in omega (arith, q, most (j ∷ ks))
  where
    most : (ks : List (Tree ℕ)) → length ks ≤ nodes_below (trees_of ks)
    most [] = omega arith
    most (k ∷ ks) = omega (arith, each-positive k, most ks)

pub child-smaller : (m : Tree ℕ) (n : ℕ) (ks : List (Tree ℕ)) (i : ℕ) (k : Tree ℕ) → branch n (trees_of ks) ≡ m → i < length ks → k ≡ get_or ks i k → nodes k < nodes m
child-smaller m n [] i k p l e = absurd (omega arith)
child-smaller m n (j ∷ ks) i k p l e = let q : nodes (branch n (trees_of (j ∷ ks))) ≡ nodes m = ap nodes p in omega (arith, q, child-nodes (j ∷ ks) i k l e)

pub child-lower : (h : ℕ) (ks : List (Tree ℕ)) (i : ℕ) (k : Tree ℕ) → AreLower h (needs_at (trees_of ks)) → i < length ks → k ≡ get_or ks i k → root_of k < h
child-lower h [] i k w l e = absurd (omega arith)
child-lower h (j ∷ ks) zero k w l e = let m : root_of k ≡ root_of j = ap root_of e in omega (arith, m, w.0)
child-lower h (j ∷ ks) (suc i) k w l e = child-lower h ks i k w.1 (omega arith) e

among-later : (ks : List (Tree ℕ)) (i j : ℕ) (k : Tree ℕ) (n : ℕ) → i < length ks → k ≡ get_or ks i k → n ≡ root_of k → IsAmong (j + i, n) (children (trees_of ks) j)
among-later [] i j k n l e f = absurd (omega arith)
among-later (m ∷ ks) zero j k n l e f =
    let x : j ≡ j + 0 = omega arith in
    let y : root_of m ≡ n = ap root_of (sym e) ∙ sym f in
    let z : (j, root_of m) ≡ (j + 0, n) = cc in inl z
among-later (m ∷ ks) (suc i) j k n l e f =
    let x : suc j + i ≡ j + suc i = omega arith in
    inr (subst (λ (z : ℕ). IsAmong (z, n) (children (trees_of ks) (suc j))) x (among-later ks i (suc j) k n (omega arith) e f))

pub child-among : (ks : List (Tree ℕ)) (i : ℕ) (k : Tree ℕ) (n : ℕ) → i < length ks → k ≡ get_or ks i k → n ≡ root_of k → IsAmong (i, n) (children (trees_of ks) 0)
child-among ks i k n l e f = let x : 0 + i ≡ i = omega arith in subst (λ (z : ℕ). IsAmong (z, n) (children (trees_of ks) 0)) x (among-later ks i 0 k n l e f)
