-- The order in which children are placed.
use Rattle.embed_defs.proofs.Prelude.{◌≡◌, refl, arith, sym, ◌≤◌, ◌<◌, inl, inr, ◌≢◌, eqb, eq-eqb, true, ◌⊎◌, ltb, ◌&&◌, eqb-true, cases_order, le-ltb, lt-ltb, ltb-true, and_parts, or_cases, Child, comes_before}

abbrev pub Comes : Child → Child → Type 0
Comes x y = (y.1 < x.1) ⊎ ((x.1 ≡ y.1) × (x.0 < y.0))

pub comes : (x y : Child) → comes_before x y ≡ true → Comes x y
comes x y p = elim (or_cases (ltb y.1 x.1) (eqb x.1 y.1 && ltb x.0 y.0) p) [
  | inl l ↦ inl (ltb-true y.1 x.1 l)
  | inr b ↦ let c : (eqb x.1 y.1 ≡ true) × (ltb x.0 y.0 ≡ true) = and_parts (eqb x.1 y.1) (ltb x.0 y.0) b in inr (eqb-true x.1 y.1 c.0, ltb-true x.0 y.0 c.1)
]

pub before : (x y : Child) → Comes x y → comes_before x y ≡ true
before x y c = elim c [
  | inl l ↦ rw (lt-ltb y.1 x.1 l) refl
  | inr e ↦ rw (le-ltb y.1 x.1 (omega arith), eq-eqb x.1 y.1 e.0, lt-ltb x.0 y.0 e.1) refl
]

pub Comes-trans : (x y z : Child) → Comes x y → Comes y z → Comes x z
Comes-trans x y z p q = elim p [
  | inl l ↦ elim q [ inl m ↦ inl (omega arith) | inr m ↦ inl (omega arith) ]
  | inr l ↦ elim q [ inl m ↦ inl (omega arith) | inr m ↦ inr (omega arith, omega arith) ]
]

pub Comes-le : (x y : Child) → Comes x y → y.1 ≤ x.1
Comes-le x y p = elim p [ inl l ↦ omega arith | inr l ↦ omega arith ]

pub Comes-irrefl : (x : Child) → Comes x x → ⊥
Comes-irrefl x p = elim p [ inl l ↦ omega arith | inr l ↦ omega arith ]

pub Comes-either : (x y : Child) → x.0 ≢ y.0 → Comes x y ⊎ Comes y x
Comes-either x y n = elim (cases_order x.1 y.1) [
  | inl e ↦ elim (cases_order x.0 y.0) [ inl f ↦ absurd (n f) | inr o ↦ elim o [ inl l ↦ inl (inr (e, l)) | inr l ↦ inr (inr (sym e, l)) ] ]
  | inr o ↦ elim o [ inl l ↦ inr (inl l) | inr l ↦ inl (inl l) ]
]
