-- Each topology has exactly one tree of needs.
use Rattle.embed_defs.proofs.Prelude.{[], ℕ, ◌≡◌, refl, ◌∷◌, ap, ◌∙◌, arith, suc, sym, List, ◌≤◌, zero, ◌+◌, subst, inl, inr, ◌⊎◌, cases_lt, sum_by, Topology, inner, leaf, more, none, Tree, Trees, SameShape, SameShapes, AreWide, Arities, leaves_below, AreLower, AreNeedsOf, HoldNeeds, HoldsNeeds, needs_at, FitsBelow, IsLeast, enough}
use Rattle.embed_defs.proofs.EnoughHeights.{enough-fits}

-- two different heights can't both be the least
one_least : (P : ℕ → Type 0) (m n : ℕ) → IsLeast P m → IsLeast P n → m ≡ n
one_least P m n l k = omega (arith, l.least n k.holds, k.least m l.holds)

-- the needs of a shape are determined
module _ {Q : Type 0} (a : Arities) where
  mutual
    pub one_needs : (t : Tree Q) (m n : Tree ℕ) → SameShape t m → SameShape t n → HoldsNeeds a m → HoldsNeeds a n → m ≡ n
    one_needs (leaf q) (leaf m) (leaf n) s r d e = ap leaf (d ∙ sym e)
    one_needs (leaf q) (leaf m) (inner n us) s r d e = absurd r
    one_needs (leaf q) (inner m ts) n s r d e = absurd s
    one_needs (inner q ks) (leaf m) n s r d e = absurd s
    one_needs (inner q ks) (inner m ts) (leaf n) s r d e = absurd r
    one_needs (inner q ks) (inner m ts) (inner n us) s r d e =
        let below : ts ≡ us = one_needs_below ks ts us s r d.1 e.1 in
        let here : IsLeast (FitsBelow a (needs_at us)) m = subst (λ (z : Trees ℕ). IsLeast (FitsBelow a (needs_at z)) m) below d.0 in
        ap (λ (z : ℕ). inner z ts) (one_least (FitsBelow a (needs_at us)) m n here e.0) ∙ ap (inner n) below

    one_needs_below : (ks : Trees Q) (ts us : Trees ℕ) → SameShapes ks ts → SameShapes ks us → HoldNeeds a ts → HoldNeeds a us → ts ≡ us
    one_needs_below none none none s r d e = refl
    one_needs_below none none (more u us) s r d e = absurd r
    one_needs_below none (more t ts) us s r d e = absurd s
    one_needs_below (more k ks) none us s r d e = absurd s
    one_needs_below (more k ks) (more t ts) none s r d e = absurd r
    one_needs_below (more k ks) (more t ts) (more u us) s r d e =
        ap (λ (z : Tree ℕ). more z ts) (one_needs k t u s.0 r.0 d.0 e.0) ∙ ap (more u) (one_needs_below ks ts us s.1 r.1 d.1 e.1)

-- the least height is found by trying each from k on
least_from : (P : ℕ → Type 0) → ((n : ℕ) → P n ⊎ (P n → ⊥)) → (tries k : ℕ) → ((m : ℕ) → P m → k ≤ m) → P (tries + k) → (n : ℕ) × IsLeast P n
least_from P decide zero k f p = (k, record { holds = subst P (omega arith) p; least = f })
least_from P decide (suc tries) k f p = elim (decide k) [
  | inl here ↦ (k, record { holds = here; least = f })
  | inr not ↦ least_from P decide tries (suc k) (λ m q. let n : k ≡ m → ⊥ = λ e. not (subst P (sym e) q) in omega (arith, f m q, n)) (subst P (omega arith) p)
]

lower? : (h : ℕ) (ns : List ℕ) → AreLower h ns ⊎ (AreLower h ns → ⊥)
lower? h [] = inl tt
lower? h (n ∷ ns) = elim (cases_lt n h) [
  | inl l ↦ elim (lower? h ns) [ inl k ↦ inl (omega (arith, l), k) | inr k ↦ inr (λ w. k w.1) ]
  | inr l ↦ inr (λ w. omega (arith, l, w.0))
]

fits? : (a : Arities) (ns : List ℕ) (h : ℕ) → FitsBelow a ns h ⊎ (FitsBelow a ns h → ⊥)
fits? a ns h = elim (lower? h ns) [
  | inr k ↦ inr (λ f. k f.below)
  | inl k ↦ elim (cases_lt (leaves_below a h) (sum_by (leaves_below a) ns)) [
    | inl l ↦ inr (λ f. omega (arith, l, f.room))
    | inr l ↦ inl (record { below = k; room = l })
  ]
]

least_fit : (a : Arities) (ns : List ℕ) → AreWide a → (n : ℕ) × IsLeast (FitsBelow a ns) n
least_fit a ns w = least_from (FitsBelow a ns) (fits? a ns) (enough ns) 0 (λ m f. omega arith) (subst (FitsBelow a ns) (omega arith) (enough-fits a ns w))

-- each topology has needs
mutual
  pub some_needs : (a : Arities) (t : Topology) → AreWide a → (m : Tree ℕ) × AreNeedsOf a t m
  some_needs a (leaf u) w = (leaf 0, record { shape = tt; needs = refl })
  some_needs a (inner u ts) w =
      let below : (ms : Trees ℕ) × SameShapes ts ms × HoldNeeds a ms = some_needs_below a ts w in
      let n : (n : ℕ) × IsLeast (FitsBelow a (needs_at below.0)) n = least_fit a (needs_at below.0) w in
      (inner n.0 below.0, record { shape = below.1; needs = (n.1, below.2) })

  some_needs_below : (a : Arities) (ts : Trees (Unit {0})) → AreWide a → (ms : Trees ℕ) × SameShapes ts ms × HoldNeeds a ms
  some_needs_below a none w = (none, tt, tt)
  some_needs_below a (more t ts) w =
      let first : (m : Tree ℕ) × AreNeedsOf a t m = some_needs a t w in
      let rest : (ms : Trees ℕ) × SameShapes ts ms × HoldNeeds a ms = some_needs_below a ts w in
      (more first.0 rest.0, (first.1.shape, rest.1), (first.1.needs, rest.2))
