-- A tree is well formed if each inner node is.
use Rattle.tree_defs.proofs.Prelude.{◌≡◌, Some, [], ap, arith, refl, subst, ℕ, ◌∙◌, ◌∷◌, suc, zero, ◌+◌, Queue, AreWellFormed, IsWellFormed, size, times, SourceTree, leaf, Address, Trees, inner, more, none, subtree, subtree_in, child}
use Rattle.tree_defs.specs.Laws.{IsWellFormedAt}

times_of_child : (ts : Trees Queue) (q : Queue) (k i v : ℕ) (u : SourceTree) → v ≡ i + k → AreWellFormed ts q k → child ts i ≡ Some u → times v q ≡ size u
times_of_child none q k i v u e w p = cc
times_of_child (more t ts) q k zero v u e w p =
    let n : v ≡ k = omega arith in
    let same : t ≡ u = cc in
    ap (λ (z : ℕ). times z q) n ∙ w.1 ∙ ap size same
times_of_child (more t ts) q k (suc i) v u e w p = times_of_child ts q (suc k) i v u (omega arith) w.2 p

mutual
  pub well_formed_at : (t : SourceTree) → IsWellFormed t → (a : Address) (q : Queue) (ts : Trees Queue) → subtree t a ≡ Some (inner q ts) → IsWellFormedAt q ts
  well_formed_at (leaf r) w [] q ts p = cc
  well_formed_at (leaf r) w (i ∷ a) q ts p = cc
  well_formed_at (inner r us) w [] q ts p =
      let here : IsWellFormedAt r us = record { names = w.0; counts = λ i u c. times_of_child us r 0 i i u (omega arith) w.1 c } in
      let queue : r ≡ q = cc in
      let children : us ≡ ts = cc in
      subst (λ (z : Trees Queue). IsWellFormedAt q z) children (subst (λ (z : Queue). IsWellFormedAt z us) queue here)
  well_formed_at (inner r us) w (i ∷ a) q ts p = well_formed_in us r 0 w.1 i a q ts p

  pub well_formed_in : (us : Trees Queue) (r : Queue) (k : ℕ) → AreWellFormed us r k → (i : ℕ) (a : Address) (q : Queue) (ts : Trees Queue) → subtree_in us i a ≡ Some (inner q ts) → IsWellFormedAt q ts
  well_formed_in none r k w i a q ts p = cc
  well_formed_in (more u us) r k w zero a q ts p = well_formed_at u w.0 a q ts p
  well_formed_in (more u us) r k w (suc i) a q ts p = well_formed_in us r (suc k) w.2 i a q ts p

mutual
  pub well_formed_of : (t : SourceTree) → ((a : Address) (q : Queue) (ts : Trees Queue) → subtree t a ≡ Some (inner q ts) → IsWellFormedAt q ts) → IsWellFormed t
  well_formed_of (leaf r) h = tt
  well_formed_of (inner r us) h =
      let here : IsWellFormedAt r us = h [] r us refl in
      (here.names, are_well_formed us r 0 (λ i v u e c. ap (λ (z : ℕ). times z r) (omega arith) ∙ here.counts i u c) (λ i a. h (i ∷ a)))

  pub are_well_formed : (us : Trees Queue) (r : Queue) (k : ℕ) → ((i v : ℕ) (u : SourceTree) → v ≡ i + k → child us i ≡ Some u → times v r ≡ size u)
      → ((i : ℕ) (a : Address) (q : Queue) (ts : Trees Queue) → subtree_in us i a ≡ Some (inner q ts) → IsWellFormedAt q ts) → AreWellFormed us r k
  are_well_formed none r k c h = tt
  are_well_formed (more u us) r k c h =
      (well_formed_of u (h zero), c zero k u (omega arith) refl, are_well_formed us r (suc k) (λ i v t e p. c (suc i) v t (omega arith) p) (λ i. h (suc i)))
