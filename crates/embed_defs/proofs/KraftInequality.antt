-- If no address is a prefix of another, the subtrees below the addresses fit side by side.
use Rattle.embed_defs.proofs.Prelude.{[], ℕ, ◌≡◌, refl, ◌∷◌, ap, arith, suc, sym, length, List, ◌≤◌, zero, ◌+◌, ◌-◌, ◌<◌, subst, inl, inr, eqb, eq-eqb, ◌*◌, cases_Bool, cases_lt, ne_eqb, IsWithin, Arities, down_from, leaves_below}
use Rattle.tree_defs.specs.Tree.{Address}
use Rattle.embed_defs.proofs.PrefixFree.{AreApart, AreNonempty, alone, branch, branch-apart}

-- the number of leaves below the addresses
abbrev pub weight : Arities → ℕ → List Address → ℕ
weight a h [] = 0
weight a h (e ∷ es) = leaves_below a (h - length e) + weight a h es

abbrev pub AreAddressesIn : Arities → ℕ → List Address → Type 0
AreAddressesIn a h [] = Unit {0}
AreAddressesIn a h (e ∷ es) = IsWithin (down_from a h) e × AreAddressesIn a h es

branch-within : (a : Arities) (h x : ℕ) (es : List Address) → AreAddressesIn a (suc h) es → AreAddressesIn a h (branch x es)
branch-within a h x [] w = tt
branch-within a h x ([] ∷ es) w = branch-within a h x es w.1
branch-within a h x ((y ∷ e) ∷ es) w = elim (cases_Bool (eqb x y)) [
  | inl t ↦ rw t (w.0.1, branch-within a h x es w.1)
  | inr t ↦ rw t (branch-within a h x es w.1)
]

-- the number of leaves below those that begin with one of the first k digits
abbrev weights : Arities → ℕ → ℕ → List Address → ℕ
weights a h zero es = 0
weights a h (suc k) es = weights a h k es + weight a h (branch k es)

weights-nil : (a : Arities) (h k : ℕ) → weights a h k [] ≡ 0
weights-nil a h zero = refl
weights-nil a h (suc k) = omega (arith, weights-nil a h k)

weights-above : (a : Arities) (h k y : ℕ) (e : Address) (es : List Address) → k ≤ y → weights a h k ((y ∷ e) ∷ es) ≡ weights a h k es
weights-above a h zero y e es l = refl
weights-above a h (suc k) y e es l =
    let n : k ≡ y → ⊥ = omega arith in
    rw (ne_eqb k y n) (omega (arith, weights-above a h k y e es (omega arith)))

weights-cons : (a : Arities) (h k y : ℕ) (e : Address) (es : List Address) → y < k → weights a h k ((y ∷ e) ∷ es) ≡ weights a h k es + leaves_below a (h - length e)
weights-cons a h zero y e es l = absurd (omega arith)
weights-cons a h (suc k) y e es l = elim (cases_lt y k) [
  | inl m ↦ let n : k ≡ y → ⊥ = omega arith in rw (ne_eqb k y n) (omega (arith, weights-cons a h k y e es m))
  | inr m ↦ let n : k ≡ y = omega arith in rw (eq-eqb k y n) (omega (arith, weights-above a h k y e es m))
]

weight-branches : (a : Arities) (h : ℕ) (es : List Address) → AreAddressesIn a (suc h) es → AreNonempty es → weight a (suc h) es ≡ weights a h (a h) es
weight-branches a h [] w n = sym (weights-nil a h (a h))
weight-branches a h ([] ∷ es) w n = absurd (n.0 refl)
weight-branches a h ((y ∷ e) ∷ es) w n =
    let k : suc h - length (y ∷ e) ≡ h - length e = omega arith in
    let p : leaves_below a (suc h - length (y ∷ e)) ≡ leaves_below a (h - length e) = ap (leaves_below a) k in
    omega (arith, p, weights-cons a h (a h) y e es w.0.0, weight-branches a h es w.1 n.1)

weights-le : (a : Arities) (h k m : ℕ) (es : List Address) → ((x : ℕ) → weight a h (branch x es) ≤ m) → weights a h k es ≤ k * m
weights-le a h zero m es f = omega arith
weights-le a h (suc k) m es f = let e : suc k * m ≡ k * m + m = omega arith in omega (arith, weights-le a h k m es f, f k, e)

weight-alone : (a : Arities) (h : ℕ) (es : List Address) → es ≡ [] ∷ [] → weight a h es ≤ leaves_below a h
weight-alone a h es p =
    let k : h - length {A = ℕ} [] ≡ h = omega arith in
    let q : leaves_below a (h - length {A = ℕ} []) ≡ leaves_below a h = ap (leaves_below a) k in
    subst (λ (z : List Address). weight a h z ≤ leaves_below a h) (sym p) (omega (arith, q))

none_short : (a : Arities) (es : List Address) → AreAddressesIn a 0 es → AreNonempty es → weight a 0 es ≤ leaves_below a 0
none_short a [] w n = omega arith
none_short a ([] ∷ es) w n = absurd (n.0 refl)
none_short a ((x ∷ e) ∷ es) w n = absurd w.0

-- the subtrees below the addresses fit side by side
pub kraft : (h : ℕ) (a : Arities) (es : List Address) → AreAddressesIn a h es → AreApart es → weight a h es ≤ leaves_below a h
kraft zero a es w s = elim (alone es s) [ inl p ↦ weight-alone a 0 es p | inr n ↦ none_short a es w n ]
kraft (suc h) a es w s = elim (alone es s) [
  | inl p ↦ weight-alone a (suc h) es p
  | inr n ↦ let l : weights a h (a h) es ≤ a h * leaves_below a h = weights-le a h (a h) (leaves_below a h) es (λ x. kraft h a (branch x es) (branch-within a h x es w) (branch-apart x es s)) in
      omega (arith, l, weight-branches a h es w n)
]
