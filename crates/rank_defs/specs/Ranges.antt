-- Types and intervals of expressions, computed from the declared ranges alone.
use Rattle.std.specs.Prelude.{◌^◌, ℤ, pos, neg_ℤ, ◌+ℤ◌, ◌-ℤ◌, ◌*ℤ◌, ◌≤ℤ◌, int_div, unsigned_abs, int_le, max, Bool, true, not, ◌&&◌, if◌then◌else◌}
use Rattle.std.specs.Int.{int_min, int_max}
use Rattle.rank_defs.specs.declared.expression.Op.{Op}
use Rattle.rank_defs.specs.declared.expression.Op.TheVariants.{Add, Sub, Mul, Div, Min, Max}
use Rattle.rank_defs.specs.declared.expression.Var.{Var as Name}
use Rattle.rank_defs.specs.declared.expression.Var.TheVariants.{Len, Now, Prio, Weight, Slack, Rank, Keep, Each}
use Rattle.rank_defs.specs.declared.range.Range.{Range}
use Rattle.rank_defs.specs.declared.transaction.Span.{Span}
use Rattle.rank_defs.specs.Formulas.{Formula, number, variable, two, negation, choice, Group, computes, compares, joins, group}
use Rattle.rank_defs.specs.Programs.{Program, span_at, max_rank}
use Rattle.rank_defs.specs.Shapes.{max_len, max_prio, max_weight, max_slack}

-- the type of an expression: a number (`counts`), a truth value (`tells`), or a type clash
pub data Sort : Type 0 where
  counts : Sort
  tells : Sort
  clash : Sort

-- the type of a binary operation
abbrev pub sort_of_two : Sort → Sort → Group → Sort
sort_of_two counts counts computes = counts
sort_of_two counts counts compares = tells
sort_of_two tells tells joins = tells
sort_of_two s t g = clash

-- the type of a negation
abbrev pub sort_of_negation : Sort → Sort
sort_of_negation tells = tells
sort_of_negation s = clash

-- the type of a choice between two numbers by a truth value
abbrev pub sort_of_choice : Sort → Sort → Sort → Sort
sort_of_choice tells counts counts = counts
sort_of_choice c s t = clash

-- the type of an expression
abbrev pub sort_of : Formula → Sort
sort_of (number n) = counts
sort_of (variable v) = counts
sort_of (two op a b) = sort_of_two (sort_of a) (sort_of b) (group op)
sort_of (negation a) = sort_of_negation (sort_of a)
sort_of (choice c a b) = sort_of_choice (sort_of c) (sort_of a) (sort_of b)

abbrev pub range : ℤ → ℤ → Range
range l h = record { low = l; high = h }

-- the interval from the least to the greatest of four numbers
abbrev pub hull_of : ℤ → ℤ → ℤ → ℤ → Range
hull_of a b c d = range (int_min (int_min a b) (int_min c d)) (int_max (int_max a b) (int_max c d))

-- the interval from the least to the greatest result at the operands' ends
abbrev pub corners : (ℤ → ℤ → ℤ) → Range → Range → Range
corners f r s = hull_of (f r.low s.low) (f r.low s.high) (f r.high s.low) (f r.high s.high)

-- whether an interval contains 0
abbrev pub holds_zero : Range → Bool
holds_zero r = int_le r.low (pos 0) && int_le (pos 0) r.high

-- the greatest absolute value of the ends
abbrev pub reach : Range → ℤ
reach r = pos (max (unsigned_abs r.low) (unsigned_abs r.high))

-- the interval of a quotient; if the divisor may be 0, it spans the dividend's greatest absolute
-- value and its negation
abbrev pub quotient_range : Range → Range → Range
quotient_range r s = if holds_zero s then range (neg_ℤ (reach r)) (reach r) else corners int_div r s

-- the smallest interval that contains both
abbrev pub joined_range : Range → Range → Range
joined_range r s = range (int_min r.low s.low) (int_max r.high s.high)

-- the interval of an operation; only 0 if the result isn't a number
abbrev pub range_of_two : Op → Range → Range → Range
range_of_two Add r s = range (r.low +ℤ s.low) (r.high +ℤ s.high)
range_of_two Sub r s = range (r.low -ℤ s.high) (r.high -ℤ s.low)
range_of_two Mul r s = corners (λ x y. x *ℤ y) r s
range_of_two Div r s = quotient_range r s
range_of_two Min r s = range (int_min r.low s.low) (int_min r.high s.high)
range_of_two Max r s = range (int_max r.low s.low) (int_max r.high s.high)
range_of_two op r s = range (pos 0) (pos 0)

-- the interval of an expression, given those of the variables; only 0 if it isn't a number
abbrev pub range_of : (Name → Range) → Formula → Range
range_of ranges (number n) = range (pos n) (pos n)
range_of ranges (variable v) = ranges v
range_of ranges (two op a b) = range_of_two op (range_of ranges a) (range_of ranges b)
range_of ranges (negation a) = range (pos 0) (pos 0)
range_of ranges (choice c a b) = joined_range (range_of ranges a) (range_of ranges b)

-- the interval of a variable with a given span
abbrev pub range_of_span : Span → Range
range_of_span s = range (pos s.low) (pos s.high)

-- the ranges of the variables of a transaction
abbrev pub declared : Program → Name → Range
declared p Len = range (pos 0) (pos max_len)
declared p Now = range (pos 0) (pos max_rank)
declared p Prio = range (pos 0) (pos max_prio)
declared p Weight = range (pos 1) (pos max_weight)
declared p Slack = range (pos 0) (pos max_slack)
declared p Rank = range (pos 0) (pos max_rank)
declared p (Keep i) = range_of_span (span_at p.keeps i)
declared p (Each i) = range_of_span (span_at p.eaches i)

-- the widest interval that a part may have
abbrev pub widest : Range
widest = range (neg_ℤ (pos (2 ^ 100))) (pos (2 ^ 100))

-- the interval lies between -2^100 and 2^100, ends included
pub record IsNarrow (r : Range) : Type 0 where
  pub low : neg_ℤ (pos (2 ^ 100)) ≤ℤ r.low
  pub high : r.high ≤ℤ pos (2 ^ 100)

-- the interval of each numeric part is narrow
abbrev pub ArePartsNarrow : (Name → Range) → Formula → Type 0
ArePartsNarrow ranges (number n) = IsNarrow (range_of ranges (number n))
ArePartsNarrow ranges (variable v) = IsNarrow (range_of ranges (variable v))
ArePartsNarrow ranges (two op a b) =
    ArePartsNarrow ranges a × ArePartsNarrow ranges b × IsNarrow (range_of ranges (two op a b))
ArePartsNarrow ranges (negation a) = ArePartsNarrow ranges a
ArePartsNarrow ranges (choice c a b) =
    ArePartsNarrow ranges c × ArePartsNarrow ranges a × ArePartsNarrow ranges b × IsNarrow (range_of ranges (choice c a b))

-- an operation that isn't a division, or one whose divisor's interval doesn't contain 0
abbrev pub may_divide : Op → Range → Bool
may_divide Div s = not (holds_zero s)
may_divide op s = true

-- whether no divisor's interval contains 0
abbrev pub parts_divide : (Name → Range) → Formula → Bool
parts_divide ranges (number n) = true
parts_divide ranges (variable v) = true
parts_divide ranges (two op a b) =
    parts_divide ranges a && (parts_divide ranges b && may_divide op (range_of ranges b))
parts_divide ranges (negation a) = parts_divide ranges a
parts_divide ranges (choice c a b) =
    parts_divide ranges c && (parts_divide ranges a && parts_divide ranges b)

-- narrow, and the low end is at most the high end
pub record IsProper (r : Range) : Type 0 where
  pub low : neg_ℤ (pos (2 ^ 100)) ≤ℤ r.low
  pub high : r.high ≤ℤ pos (2 ^ 100)
  pub ordered : r.low ≤ℤ r.high

-- each variable's interval has its low end at most its high end
abbrev pub AreOrdered : (Name → Range) → Type 0
AreOrdered ranges = (v : Name) → (ranges v).low ≤ℤ (ranges v).high
