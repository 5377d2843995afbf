-- Counts carried level by level decide whether subtrees fit side by side.
use Rattle.embed_defs.proofs.Prelude.{[], ℕ, ◌≡◌, refl, ◌∷◌, ap, ◌∙◌, arith, suc, length, List, ◌≤◌, zero, ◌+◌, ◌-◌, ◌<◌, inl, inr, eqb, eq-eqb, ◌*◌, cond, ◌%◌, ◌/◌, ◌↔◌, ltb, min, mul-le-mul_left, le_of_mul-le-mul_right, cases_Bool, cases_lt, cases_order, le-ltb, lt-ltb, ne_eqb, sum_by-cons, count_by, sum_by, Arities, leaves_below, AreLower, FitsBelow}
use Rattle.std.proofs.lemmas.Grind.{div_ceil_times}
use Rattle.std.proofs.lemmas.List.Recursion.{is_count_by}
use Rattle.embed_defs.proofs.Levels.{ArePositive, leaves-positive}

-- a count divided by an arity, rounded up
abbrev pub up : ℕ → ℕ → ℕ
up d n = n / d + min 1 (n % d)

-- the number of times that n occurs in a list
abbrev pub times : ℕ → List ℕ → ℕ
times n [] = 0
times n (m ∷ ms) = cond (eqb m n) 1 0 + times n ms

-- the number of nodes of height h that hold the subtrees lower than h
abbrev pub carried : Arities → List ℕ → ℕ → ℕ
carried a ns zero = 0
carried a ns (suc h) = up (a h) (carried a ns h + times h ns)

pub times-count : (n : ℕ) (ms : List ℕ) → times n ms ≡ count_by (λ m. eqb m n) ms
times-count n = is_count_by (times n) (λ m. eqb m n) refl (λ m ms. elim (cases_Bool (eqb m n)) [ inl t ↦ rw t refl | inr t ↦ rw t (omega arith) ])

up-le : (d n k : ℕ) → 0 < d → n ≤ d * k → up d n ≤ k
up-le d n k p l =
    let b : up d n * d < n + d = (div_ceil_times n d p).1 in
    elim (cases_lt k (up d n)) [
      | inl m ↦ let c : d * (k + 1) ≤ d * up d n = mul-le-mul_left d (omega arith) in
          let e : d * (k + 1) ≡ d * k + d = omega arith in
          let f : d * up d n ≡ up d n * d = omega arith in absurd (omega (arith, b, c, e, f))
      | inr m ↦ m
    ]

le-up : (d n k : ℕ) → 0 < d → up d n ≤ k → n ≤ d * k
le-up d n k p l =
    let b : n ≤ up d n * d = (div_ceil_times n d p).0 in
    let c : d * up d n ≤ d * k = mul-le-mul_left d l in
    let f : d * up d n ≡ up d n * d = omega arith in omega (arith, b, c, f)

-- the leaves of the subtrees that are lower than h
abbrev lower : Arities → ℕ → List ℕ → ℕ
lower a h [] = 0
lower a h (n ∷ ns) = cond (ltb n h) (leaves_below a n) 0 + lower a h ns

lower-zero : (a : Arities) (ns : List ℕ) → lower a 0 ns ≡ 0
lower-zero a [] = refl
lower-zero a (n ∷ ns) = rw (le-ltb n 0 (omega arith)) (omega (arith, lower-zero a ns))

lower-step : (a : Arities) (h : ℕ) (ns : List ℕ) → lower a (suc h) ns ≡ lower a h ns + times h ns * leaves_below a h
lower-step a h [] = let e : 0 * leaves_below a h ≡ 0 = omega arith in omega (arith, e)
lower-step a h (n ∷ ns) = elim (cases_order n h) [
  | inl e ↦
      let b : leaves_below a n ≡ leaves_below a h = ap (leaves_below a) e in
      let f : (1 + times h ns) * leaves_below a h ≡ leaves_below a h + times h ns * leaves_below a h = omega arith in
      rw (lt-ltb n (suc h) (omega arith), le-ltb n h (omega arith), eq-eqb n h e) (omega (arith, b, f, lower-step a h ns))
  | inr o ↦ elim o [
    | inl l ↦ let d : n ≡ h → ⊥ = omega arith in
        let f : (0 + times h ns) * leaves_below a h ≡ times h ns * leaves_below a h = ap (λ (z : ℕ). z * leaves_below a h) (omega arith) in
        rw (lt-ltb n (suc h) (omega arith), lt-ltb n h l, ne_eqb n h d) (omega (arith, f, lower-step a h ns))
    | inr l ↦ let d : n ≡ h → ⊥ = omega arith in
        let f : (0 + times h ns) * leaves_below a h ≡ times h ns * leaves_below a h = ap (λ (z : ℕ). z * leaves_below a h) (omega arith) in
        rw (le-ltb n (suc h) (omega arith), le-ltb n h (omega arith), ne_eqb n h d) (omega (arith, f, lower-step a h ns))
  ]
]

lower-all : (a : Arities) (h : ℕ) (ns : List ℕ) → AreLower h ns → lower a h ns ≡ sum_by (leaves_below a) ns
lower-all a h [] l = refl
lower-all a h (n ∷ ns) l = rw (lt-ltb n h (omega (arith, l.0))) (omega (arith, lower-all a h ns l.1, sum_by-cons (leaves_below a) n ns))

split : (b t k : ℕ) → t ≤ k → k * b ≡ (k - t) * b + t * b
split b t k l = let e : ((k - t) + t) * b ≡ (k - t) * b + t * b = omega arith in ap (λ (z : ℕ). z * b) (omega arith) ∙ e

lower-carried : (a : Arities) (ns : List ℕ) (h m : ℕ) → ArePositive a → lower a h ns ≤ m * leaves_below a h → carried a ns h ≤ m
lower-carried a ns zero m p l = omega arith
lower-carried a ns (suc h) m p l =
    let s : lower a h ns + times h ns * leaves_below a h ≤ m * (a h * leaves_below a h) = omega (arith, l, lower-step a h ns) in
    let e : m * (a h * leaves_below a h) ≡ (a h * m) * leaves_below a h = omega arith in
    let few : times h ns ≤ a h * m = le_of_mul-le-mul_right (omega (arith, s, e)) (leaves-positive a h p) in
    let rest : lower a h ns ≤ ((a h * m) - times h ns) * leaves_below a h = omega (arith, s, e, split (leaves_below a h) (times h ns) (a h * m) few) in
    let ih : carried a ns h ≤ (a h * m) - times h ns = lower-carried a ns h ((a h * m) - times h ns) p rest in
    up-le (a h) (carried a ns h + times h ns) m (p h) (omega (arith, ih, few))

carried-lower : (a : Arities) (ns : List ℕ) (h m : ℕ) → ArePositive a → carried a ns h ≤ m → lower a h ns ≤ m * leaves_below a h
carried-lower a ns zero m p l = omega (arith, lower-zero a ns)
carried-lower a ns (suc h) m p l =
    let s : carried a ns h + times h ns ≤ a h * m = le-up (a h) (carried a ns h + times h ns) m (p h) l in
    let ih : lower a h ns ≤ ((a h * m) - times h ns) * leaves_below a h = carried-lower a ns h ((a h * m) - times h ns) p (omega (arith, s)) in
    let e : m * (a h * leaves_below a h) ≡ (a h * m) * leaves_below a h = omega arith in
    omega (arith, ih, e, split (leaves_below a h) (times h ns) (a h * m) (omega (arith, s)), lower-step a h ns)

-- subtrees fit below a node of height h exactly if they are lower and at most one node of that
-- height is carried
pub carried-fits : (a : Arities) (ns : List ℕ) (h : ℕ) → ArePositive a → FitsBelow a ns h ↔ (AreLower h ns × (carried a ns h ≤ 1))
carried-fits a ns h p = (
  λ f. (f.below, lower-carried a ns h 1 p (let e : 1 * leaves_below a h ≡ leaves_below a h = omega arith in omega (arith, e, f.room, lower-all a h ns f.below))),
  λ c. record { below = c.0; room = let e : 1 * leaves_below a h ≡ leaves_below a h = omega arith in omega (arith, e, carried-lower a ns h 1 p c.1, lower-all a h ns c.0) },
)

-- ---- bounds on the count carried
up-small : (d n : ℕ) → 0 < d → up d n ≤ n
up-small d n p = up-le d n n p (let l : n * 1 ≤ n * d = mul-le-mul_left n (omega arith) in let e : n * d ≡ d * n = omega arith in omega (arith, l, e))

-- the number of subtrees lower than h
abbrev count_lower : ℕ → List ℕ → ℕ
count_lower h [] = 0
count_lower h (n ∷ ns) = cond (ltb n h) 1 0 + count_lower h ns

count-step : (h : ℕ) (ns : List ℕ) → count_lower (suc h) ns ≡ count_lower h ns + times h ns
count-step h [] = refl
count-step h (n ∷ ns) = elim (cases_order n h) [
  | inl e ↦ rw (lt-ltb n (suc h) (omega arith), le-ltb n h (omega arith), eq-eqb n h e) (omega (arith, count-step h ns))
  | inr o ↦ elim o [
    | inl l ↦ let d : n ≡ h → ⊥ = omega arith in rw (lt-ltb n (suc h) (omega arith), lt-ltb n h l, ne_eqb n h d) (omega (arith, count-step h ns))
    | inr l ↦ let d : n ≡ h → ⊥ = omega arith in rw (le-ltb n (suc h) (omega arith), le-ltb n h (omega arith), ne_eqb n h d) (omega (arith, count-step h ns))
  ]
]

count-all : (h : ℕ) (ns : List ℕ) → count_lower h ns ≤ length ns
count-all h [] = omega arith
count-all h (n ∷ ns) = elim (cases_order n h) [
  | inl e ↦ rw (le-ltb n h (omega arith)) (omega (arith, count-all h ns))
  | inr o ↦ elim o [ inl l ↦ rw (lt-ltb n h l) (omega (arith, count-all h ns)) | inr l ↦ rw (le-ltb n h (omega arith)) (omega (arith, count-all h ns)) ]
]

carried-few : (a : Arities) (ns : List ℕ) (h : ℕ) → ArePositive a → carried a ns h ≤ count_lower h ns
carried-few a ns zero p = omega arith
carried-few a ns (suc h) p = omega (arith, up-small (a h) (carried a ns h + times h ns) (p h), carried-few a ns h p, count-step h ns)

-- the count carried, plus the subtrees that begin at this level, is at most the number of subtrees
pub carried-bound : (a : Arities) (ns : List ℕ) (h : ℕ) → ArePositive a → carried a ns h + times h ns ≤ length ns
carried-bound a ns h p = omega (arith, carried-few a ns h p, count-step h ns, count-all (suc h) ns)
