-- Narrow intervals.
use Rattle.rank_defs.proofs.Prelude.{arith, false, true, ◌^◌, cond, Option, of_z, to_z, ints, clamps, to_z-of_z, int_max, int_min, w128, pos, ℤ, ◌≤ℤ◌, int_div, neg_ℤ, FitsSigned, Formula, two, choice, number, variable, negation, ArePartsNarrow, range, IsNarrow, range_of, holds_zero, AreOrdered, range_of_two, IsProper, corners, hull_of, reach, Op, Add, Mul, Div, Max, Min, Sub, Range}
use Rattle.std.specs.Option.{SomeIff}
use Rattle.rank_defs.specs.declared.expression.Var.{Var as Name}
use Rattle.rank_defs.proofs.ValueIntervals.{narrow_fits}

-- the four results at the ends fit if their hull is narrow
pub record CornersFit (f : ℤ → ℤ → ℤ) (r s : Range) : Type 0 where
  pub low_low : FitsSigned w128 (f r.low s.low)
  pub low_high : FitsSigned w128 (f r.low s.high)
  pub high_low : FitsSigned w128 (f r.high s.low)
  pub high_high : FitsSigned w128 (f r.high s.high)

four_fit : (a b c d : ℤ) → neg_ℤ (pos (2 ^ 100)) ≤ℤ int_min (int_min a b) (int_min c d) → int_max (int_max a b) (int_max c d) ≤ℤ pos (2 ^ 100) → FitsSigned w128 a × FitsSigned w128 b × FitsSigned w128 c × FitsSigned w128 d
four_fit a b c d h k =
    (narrow_fits a (omega (arith, ints, clamps)) (omega (arith, ints, clamps)), narrow_fits b (omega (arith, ints, clamps)) (omega (arith, ints, clamps)), narrow_fits c (omega (arith, ints, clamps)) (omega (arith, ints, clamps)), narrow_fits d (omega (arith, ints, clamps)) (omega (arith, ints, clamps)))

pub corners_fit : (f : ℤ → ℤ → ℤ) (r s : Range) → IsNarrow (corners f r s) → CornersFit f r s
corners_fit f r s n =
    let all = four_fit (f r.low s.low) (f r.low s.high) (f r.high s.low) (f r.high s.high) n.low n.high
    in record { low_low = all.0; low_high = all.1; high_low = all.2; high_high = all.3 }

-- a clause about two numbers that fit, which the code passes as bits
pub at_numbers : (r : Option Range) (l h : ℤ) → FitsSigned w128 l → FitsSigned w128 h → SomeIff r (IsNarrow (range (to_z w128 (of_z w128 l)) (to_z w128 (of_z w128 h)))) (range (to_z w128 (of_z w128 l)) (to_z w128 (of_z w128 h))) → SomeIff r (IsNarrow (range l h)) (range l h)
at_numbers r l h f g s = simp to_z-of_z at s

pub at_four : (r : Option Range) (a b c d : ℤ) → FitsSigned w128 a → FitsSigned w128 b → FitsSigned w128 c → FitsSigned w128 d → SomeIff r (IsNarrow (hull_of (to_z w128 (of_z w128 a)) (to_z w128 (of_z w128 b)) (to_z w128 (of_z w128 c)) (to_z w128 (of_z w128 d)))) (hull_of (to_z w128 (of_z w128 a)) (to_z w128 (of_z w128 b)) (to_z w128 (of_z w128 c)) (to_z w128 (of_z w128 d))) → SomeIff r (IsNarrow (hull_of a b c d)) (hull_of a b c d)
at_four r a b c d f g h k s = simp to_z-of_z at s

ordered_two : (op : Op) (r s : Range) → r.low ≤ℤ r.high → s.low ≤ℤ s.high → (range_of_two op r s).low ≤ℤ (range_of_two op r s).high
ordered_two Add r s h k = omega (arith, ints)
ordered_two Sub r s h k = omega (arith, ints)
ordered_two Mul r s h k = omega (arith, ints, clamps)
ordered_two Div r s h k =
    elim (holds_zero s) as (λ b. (cond b (range (neg_ℤ (reach r)) (reach r)) (corners int_div r s)).low ≤ℤ (cond b (range (neg_ℤ (reach r)) (reach r)) (corners int_div r s)).high) [
      | true ↦ omega (arith, ints)
      | false ↦ omega (arith, ints, clamps)
    ]
ordered_two Min r s h k = omega (arith, ints, clamps)
ordered_two Max r s h k = omega (arith, ints, clamps)
ordered_two op r s h k = omega (arith, ints)

-- an expression's interval has its low end at most its high end
pub ordered_of : (ranges : Name → Range) → AreOrdered ranges → (f : Formula) → (range_of ranges f).low ≤ℤ (range_of ranges f).high
ordered_of ranges o (number n) = omega (arith, ints)
ordered_of ranges o (variable v) = o v
ordered_of ranges o (two op a b) =
    ordered_two op (range_of ranges a) (range_of ranges b) (ordered_of ranges o a) (ordered_of ranges o b)
ordered_of ranges o (negation a) = omega (arith, ints)
ordered_of ranges o (choice c a b) =
    let h = ordered_of ranges o a in let k = ordered_of ranges o b in omega (arith, ints, clamps)

-- if all parts' intervals are narrow, the interval of the whole is
pub narrow_of : (ranges : Name → Range) (f : Formula) → ArePartsNarrow ranges f → IsNarrow (range_of ranges f)
narrow_of ranges (number n) h = h
narrow_of ranges (variable v) h = h
narrow_of ranges (two op a b) h = h.2
narrow_of ranges (negation a) h = record { low = omega (arith, ints); high = omega (arith, ints) }
narrow_of ranges (choice c a b) h = h.3

-- the interval of an expression whose parts are narrow
pub whole_proper : (ranges : Name → Range) → AreOrdered ranges → (f : Formula) → ArePartsNarrow ranges f → IsProper (range_of ranges f)
whole_proper ranges o f h =
    let n = narrow_of ranges f h in record { low = n.low; high = n.high; ordered = ordered_of ranges o f }
