-- Addresses of which none is a prefix of another, and those among them that begin with a given
-- digit.
use Rattle.embed_defs.proofs.Prelude.{[], ℕ, ◌≡◌, refl, ◌∷◌, sym, List, None, subst, inl, inr, ◌≢◌, eqb, eq-eqb, true, ◌⊎◌, cond, cases_Bool, eqb-true, after}
use Rattle.tree_defs.specs.Tree.{Address}

abbrev pub IsApart : Address → List Address → Type 0
IsApart e [] = Unit {0}
IsApart e (f ∷ es) = (after e f ≡ None) × (after f e ≡ None) × IsApart e es

abbrev pub AreApart : List Address → Type 0
AreApart [] = Unit {0}
AreApart (e ∷ es) = IsApart e es × AreApart es

abbrev pub AreNonempty : List Address → Type 0
AreNonempty [] = Unit {0}
AreNonempty (e ∷ es) = (e ≢ []) × AreNonempty es

-- if the empty address is among them, it is the only one
pub alone : (es : List Address) → AreApart es → (es ≡ [] ∷ []) ⊎ AreNonempty es
alone [] h = inr tt
alone ([] ∷ []) h = inl refl
alone ([] ∷ f ∷ es) h = cc
alone ((x ∷ e) ∷ es) h = elim (alone es h.1) [
  | inl p ↦ absurd (beside es p h.0)
  | inr n ↦ inr (λ (q : x ∷ e ≡ []). cc, n)
]
  where
    beside : (es : List Address) → es ≡ [] ∷ [] → IsApart (x ∷ e) es → ⊥
    beside [] p h = cc
    beside ([] ∷ es) p h = cc
    beside ((y ∷ f) ∷ es) p h = cc

-- the remainders of the addresses that begin with a given digit
abbrev pub branch : ℕ → List Address → List Address
branch x [] = []
branch x ([] ∷ es) = branch x es
branch x ((y ∷ e) ∷ es) = cond (eqb x y) (e ∷ branch x es) (branch x es)

branch-apart_from : (x : ℕ) (e : Address) (es : List Address) → IsApart (x ∷ e) es → IsApart e (branch x es)
branch-apart_from x e [] h = tt
branch-apart_from x e ([] ∷ es) h = branch-apart_from x e es h.2
branch-apart_from x e ((y ∷ f) ∷ es) h = elim (cases_Bool (eqb x y)) [
  | inl t ↦ let u : eqb y x ≡ true = eq-eqb y x (sym (eqb-true x y t)) in
      rw t (rw t at h.0, rw u at h.1, branch-apart_from x e es h.2)
  | inr t ↦ rw t (branch-apart_from x e es h.2)
]

pub branch-apart : (x : ℕ) (es : List Address) → AreApart es → AreApart (branch x es)
branch-apart x [] h = tt
branch-apart x ([] ∷ es) h = branch-apart x es h.1
branch-apart x ((y ∷ e) ∷ es) h = elim (cases_Bool (eqb x y)) [
  | inl t ↦ let p : IsApart (x ∷ e) es = subst (λ (z : ℕ). IsApart (z ∷ e) es) (sym (eqb-true x y t)) h.0 in
      rw t (branch-apart_from x e es p, branch-apart x es h.1)
  | inr t ↦ rw t (branch-apart x es h.1)
]
