-- Numbers inside the spans of a transaction.
use Rattle.rank_defs.proofs.Prelude.{refl, ℕ, arith, ◌≡◌, [], ◌∷◌, List, ◌≤◌, ap, suc, zero, length, ints, clamps, int_max, int_min, AllByRecursion, pos, ℤ, ◌≤ℤ◌, negsuc, slice_index, slice_set, unsigned_abs, Program, max_rank, target, span_at, declared, AreOrdered, IsShaped, AreWithin, IsEnvInRange, IsSpan, IsMemoryInRange, Memory, variable_in, firsts, clamped, AreInside, nothing, truth, Value, num, Env, Len, Now, Prio, Slack, Weight, Aim}
use Rattle.rank_defs.specs.declared.expression.Var.TheVariants.{Rank, Keep, Each}
use Rattle.rank_defs.specs.declared.transaction.Aim.TheVariants.{Rank as AimRank, Keep as AimKeep, Each as AimEach}
use Rattle.rank_defs.specs.declared.transaction.Span.{Span}

-- a span whose low end is at most its high end, which is at most the greatest rank
pub record IsProperSpan (s : Span) : Type 0 where
  pub ordered : s.low ≤ s.high
  pub most : s.high ≤ max_rank

pub span_at-proper : (spans : List Span) (i : ℕ) → AllByRecursion IsSpan spans → IsProperSpan (span_at spans i)
span_at-proper [] i h = record { ordered = omega arith; most = omega arith }
span_at-proper (s ∷ spans) zero h = let here = h.0 in record { ordered = omega (arith, here.low, here.high); most = here.most }
span_at-proper (s ∷ spans) (suc i) h = span_at-proper spans i h.1

-- a number in a list within spans lies in its span
pub within-at : (spans : List Span) (values : List ℕ) (i : ℕ) → AreWithin spans values → ((span_at spans i).low ≤ slice_index values i) × (slice_index values i ≤ (span_at spans i).high)
within-at [] [] i h = (omega arith, omega arith)
within-at (s ∷ spans) (v ∷ values) zero h = (h.0, h.1)
within-at (s ∷ spans) (v ∷ values) (suc i) h = within-at spans values i h.2
within-at [] (v ∷ values) i h = absurd h
within-at (s ∷ spans) [] i h = absurd h

-- replacing it by a number from its span keeps the list within the spans
pub within-set : (spans : List Span) (values : List ℕ) (i v : ℕ) → AreWithin spans values → (span_at spans i).low ≤ v → v ≤ (span_at spans i).high → AreWithin spans (slice_set values i v)
within-set [] [] i v h l k = tt
within-set (s ∷ spans) (x ∷ values) zero v h l k = (l, k, h.2)
within-set (s ∷ spans) (x ∷ values) (suc i) v h l k = (h.0, h.1, within-set spans values i v h.2 l k)
within-set [] (x ∷ values) i v h l k = absurd h
within-set (s ∷ spans) [] i v h l k = absurd h

-- there are as many numbers as spans
pub length-within : (spans : List Span) (values : List ℕ) → AreWithin spans values → length values ≡ length spans
length-within [] [] h = refl
length-within (s ∷ spans) (v ∷ values) h = ap suc (length-within spans values h.2)
length-within [] (v ∷ values) h = absurd h
length-within (s ∷ spans) [] h = absurd h

-- the first values lie in their spans
pub within-firsts : (spans : List Span) → AllByRecursion IsSpan spans → AreWithin spans (firsts spans)
within-firsts [] h = tt
within-firsts (s ∷ spans) h = (h.0.low, h.0.high, within-firsts spans h.1)

abs-above : (l : ℕ) (z : ℤ) → pos l ≤ℤ z → l ≤ unsigned_abs z
abs-above l (pos n) h = omega (arith, ints)
abs-above l (negsuc n) h = absurd (omega (arith, ints))

abs-below : (k : ℕ) (z : ℤ) → pos 0 ≤ℤ z → z ≤ℤ pos k → unsigned_abs z ≤ k
abs-below k (pos n) l h = omega (arith, ints)
abs-below k (negsuc n) l h = absurd (omega (arith, ints))

-- a clamped number lies in its span
pub clamped-within : (s : Span) (v : Value) → s.low ≤ s.high → (s.low ≤ clamped s v) × (clamped s v ≤ s.high)
clamped-within s (num v) h =
    (abs-above s.low (int_max (pos s.low) (int_min v (pos s.high))) (omega (arith, ints, clamps)), abs-below s.high (int_max (pos s.low) (int_min v (pos s.high))) (omega (arith, ints, clamps)) (omega (arith, ints, clamps)))
clamped-within s (truth t) h = (omega arith, h)
clamped-within s nothing h = (omega arith, h)

-- the span of an assignment's target is proper
pub target-proper : (p : Program) → IsShaped p → (a : Aim) → IsProperSpan (target p a)
target-proper p shaped AimRank = record { ordered = omega arith; most = omega arith }
target-proper p shaped (AimKeep i) = span_at-proper p.keeps i shaped.keeps
target-proper p shaped (AimEach i) = span_at-proper p.eaches i shaped.eaches

-- each variable lies in its declared range
pub variables-inside : (p : Program) (env : Env) (m : Memory) → IsEnvInRange env → IsMemoryInRange p m → AreInside (declared p) (variable_in env m)
variables-inside p env m e h Len = (omega (arith, ints), omega (arith, ints, e.len))
variables-inside p env m e h Now = (omega (arith, ints), omega (arith, ints, e.now))
variables-inside p env m e h Prio = (omega (arith, ints), omega (arith, ints, e.prio))
variables-inside p env m e h Weight = (omega (arith, ints, e.weight_low), omega (arith, ints, e.weight_high))
variables-inside p env m e h Slack = (omega (arith, ints), omega (arith, ints, e.slack))
variables-inside p env m e h Rank = (omega (arith, ints), omega (arith, ints, h.rank))
variables-inside p env m e h (Keep i) =
    let k = within-at p.keeps m.keeps i h.keeps in (omega (arith, ints, k.0), omega (arith, ints, k.1))
variables-inside p env m e h (Each i) =
    let k = within-at p.eaches m.eaches i h.eaches in (omega (arith, ints, k.0), omega (arith, ints, k.1))

-- each declared range has its low end at most its high end
pub declared-ordered : (p : Program) → IsShaped p → AreOrdered (declared p)
declared-ordered p shaped Len = omega (arith, ints)
declared-ordered p shaped Now = omega (arith, ints)
declared-ordered p shaped Prio = omega (arith, ints)
declared-ordered p shaped Weight = omega (arith, ints)
declared-ordered p shaped Slack = omega (arith, ints)
declared-ordered p shaped Rank = omega (arith, ints)
declared-ordered p shaped (Keep i) =
    let k = span_at-proper p.keeps i shaped.keeps in omega (arith, ints, k.ordered)
declared-ordered p shaped (Each i) =
    let k = span_at-proper p.eaches i shaped.eaches in omega (arith, ints, k.ordered)
