-- The start of a block, computed sibling by sibling.
use Rattle.embed_core.proofs.Prelude.{◌≡◌, length, arith, sym, ◌∙◌, ap, List, ◌+◌, ℕ, ◌<◌, [], refl, ◌≤◌, get_or, ◌∷◌, drop, suc, zero, false, true, cond, drop_all, ArePositive, children, Child, IsAmong, start_of, comes_before, digits, value, Arities, down_from, FitsBelow, needs_at, leaves_below, IsWithin, trees_of, Tree, root_of, Trees}
use Rattle.embed_defs.proofs.Blocks.{start-below}
use Rattle.embed_defs.proofs.CanonicalPlaced.{all-leaves}
use Rattle.embed_defs.proofs.LeafNumbers.{digits-value}

-- the remaining children, from the next one on
rest-children : (ks : List (Tree ℕ)) (i j : ℕ) (k : Tree ℕ) → i < length ks → k ≡ get_or ks i k → children (trees_of (drop i ks)) j ≡ (j, root_of k) ∷ children (trees_of (drop (i + 1) ks)) (suc j)
rest-children [] i j k l e = absurd (omega arith)
rest-children (m ∷ ks) zero j k l e =
    let x : (j, root_of m) ≡ (j, root_of k) = ap (λ (z : Tree ℕ). (j, root_of z)) (sym e) in
    (ap (λ (z : Child). z ∷ children (trees_of ks) (suc j)) x)
rest-children (m ∷ ks) (suc i) j k l e =
    let y : suc i + 1 ≡ suc (i + 1) = omega arith in
    rw y (rest-children ks i j k (omega arith) e)

pub start-fits : (a : Arities) (h : ℕ) (ts : Trees ℕ) (y : Child) → ArePositive a → FitsBelow a (needs_at ts) h → IsAmong y (children ts 0) → start_of a (children ts 0) y < leaves_below a h
start-fits a h ts y p f m = start-below a h (children ts 0) y p m (omega (arith, all-leaves a ts 0, f.room))

-- the start so far, and one more child that comes before
module _ (a : Arities) (h i n : ℕ) (ks : List (Tree ℕ)) (y : Child) (k : Tree ℕ) (l : i < length ks) (e : k ≡ get_or ks i k) (f : n ≡ root_of k) (v t : ℕ) (s : v + start_of a (children (trees_of (drop i ks)) i) y ≡ t) where
  step : start_of a (children (trees_of (drop i ks)) i) y ≡ cond (comes_before (i, n) y) (leaves_below a n) 0 + start_of a (children (trees_of (drop (i + 1) ks)) (i + 1)) y
  step =
      let p : i + 1 ≡ suc i = omega arith in
      rw (rest-children ks i i k l e, f, p) refl

  pub earlier-below : true ≡ comes_before (i, n) y → t < leaves_below a h → v + leaves_below a n < leaves_below a h
  earlier-below b m = let q : start_of a (children (trees_of (drop i ks)) i) y ≡ leaves_below a n + start_of a (children (trees_of (drop (i + 1) ks)) (i + 1)) y = step ∙ rw (← b) refl in omega (arith, s, q)

  pub earlier-counted : (w : ℕ) → true ≡ comes_before (i, n) y → w ≡ v + leaves_below a n → w + start_of a (children (trees_of (drop (i + 1) ks)) (i + 1)) y ≡ t
  earlier-counted w b m = let q : start_of a (children (trees_of (drop i ks)) i) y ≡ leaves_below a n + start_of a (children (trees_of (drop (i + 1) ks)) (i + 1)) y = step ∙ rw (← b) refl in omega (arith, s, q, m)

  pub later-counted : false ≡ comes_before (i, n) y → v + start_of a (children (trees_of (drop (i + 1) ks)) (i + 1)) y ≡ t
  later-counted b = let q : start_of a (children (trees_of (drop i ks)) i) y ≡ 0 + start_of a (children (trees_of (drop (i + 1) ks)) (i + 1)) y = step ∙ rw (← b) refl in omega (arith, s, q)

pub start-done : (a : Arities) (h i : ℕ) (ks : List (Tree ℕ)) (y : Child) (ds : List ℕ) (t : ℕ) → length ds ≡ h → IsWithin (down_from a (length ds)) ds → length ks ≤ i → value a ds + start_of a (children (trees_of (drop i ks)) i) y ≡ t → ds ≡ digits a h t
start-done a h i ks y ds t n w l s =
    let d : drop i ks ≡ [] = drop_all i ks l in
    let z : start_of a (children (trees_of (drop i ks)) i) y ≡ 0 = ap (λ (z : List (Tree ℕ)). start_of a (children (trees_of z) i) y) d in
    let q : value a ds ≡ t = omega (arith, s, z) in
    rw (← n, ← q) (sym (digits-value a ds w))
