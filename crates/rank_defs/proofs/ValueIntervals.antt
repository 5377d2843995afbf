-- The value of an expression lies in its interval.
use Rattle.rank_defs.proofs.Prelude.{refl, ℕ, arith, ◌≡◌, false, true, Bool, subst, ◌≢◌, suc, zero, ◌^◌, rules, ◌&&◌, ints, clamps, w128, pos, ℤ, ◌≤ℤ◌, negsuc, int_div, neg_ℤ, FitsSigned, Formula, two, choice, number, variable, negation, group, ArePartsNarrow, range, IsNarrow, counts, range_of, sort_of, holds_zero, parts_divide, tells, Sort, clash, range_of_two, joined_range, may_divide, sort_of_choice, sort_of_negation, sort_of_two, widest, AreInside, IsInside, ArePartsIn, HasValueIn, nothing, truth, FitsWide, Value, num, value_of, apply, chosen, negated, quotient, Op, Add, Mul, Div, Max, Min, Sub, Range}
use Rattle.rank_defs.specs.declared.expression.Var.{Var as Name}
use Rattle.rank_defs.proofs.IntervalEnds.{Between-mul_left, Between-mul_right, Between-div_left, Between-div_right, within_corners}

-- a value of this type, inside the interval if it is a number
abbrev pub Agrees : Sort → Range → Value → Type 0
Agrees counts r (num x) = IsInside r x
Agrees tells r (truth t) = Unit {0}
Agrees clash r w = Unit {0}
Agrees s r w = ⊥

-- a non-zero divisor has a quotient
quotient-is : (x y : ℤ) → y ≢ pos 0 → quotient x y ≡ num (int_div x y)
quotient-is x (pos zero) n = absurd (n refl)
quotient-is x (pos (suc y)) n = refl
quotient-is x (negsuc y) n = refl

-- a number in an interval without 0 isn't 0
not_zero : (r : Range) (x : ℤ) → holds_zero r ≡ false → r.low ≤ℤ x → x ≤ℤ r.high → x ≢ pos 0
not_zero r x n h k = λ e. let a : r.low ≤ℤ pos 0 = subst (λ (v : ℤ). r.low ≤ℤ v) e h in let b : pos 0 ≤ℤ r.high = subst (λ (v : ℤ). v ≤ℤ r.high) e k in grind (arith, ints)

two_numbers : (op : Op) (r q : Range) (x y : ℤ) → Agrees counts r (num x) → Agrees counts q (num y) → may_divide op q ≡ true → Agrees (sort_of_two counts counts (group op)) (range_of_two op r q) (apply op (num x) (num y))
two_numbers Add r q x y h k d = (omega (arith, ints), omega (arith, ints))
two_numbers Sub r q x y h k d = (omega (arith, ints), omega (arith, ints))
two_numbers Mul r q x y h k d =
    within_corners _ _ _ _ _ _ _ (Between-mul_left y x r.low r.high h.0 h.1) (Between-mul_right r.low y q.low q.high k.0 k.1) (Between-mul_right r.high y q.low q.high k.0 k.1)
two_numbers Div r q x y h k d =
    let n : holds_zero q ≡ false = grind arith
    in rw (n, quotient-is x y (not_zero q y n k.0 k.1))
    (within_corners _ _ _ _ _ _ _ (Between-div_left y x r.low r.high (not_zero q y n k.0 k.1) h.0 h.1) (Between-div_right r.low y q.low q.high n k.0 k.1) (Between-div_right r.high y q.low q.high n k.0 k.1))
two_numbers Min r q x y h k d = (omega (arith, ints, clamps), omega (arith, ints, clamps))
two_numbers Max r q x y h k d = (omega (arith, ints, clamps), omega (arith, ints, clamps))
two_numbers op r q x y h k d = tt

two_truths : (op : Op) (r q : Range) (x y : Bool) → Agrees (sort_of_two tells tells (group op)) (range_of_two op r q) (apply op (truth x) (truth y))
two_truths Add r q x y = tt
two_truths op r q x y = tt

two_values : (op : Op) (s t : Sort) (r q : Range) (x y : Value) → Agrees s r x → Agrees t q y → may_divide op q ≡ true → Agrees (sort_of_two s t (group op)) (range_of_two op r q) (apply op x y)
two_values op counts counts r q (num x) (num y) h k d = two_numbers op r q x y h k d
two_values op tells tells r q (truth x) (truth y) h k d = two_truths op r q x y
two_values op s t r q x y h k d = search rules

both : (a b : Bool) → (a && b) ≡ true → (a ≡ true) × (b ≡ true)
both true b h = (refl, h)
both false b h = cc

one_negated : (s : Sort) (r : Range) (x : Value) → Agrees s r x → Agrees (sort_of_negation s) (range (pos 0) (pos 0)) (negated x)
one_negated tells r (truth x) h = tt
one_negated s r x h = search rules

one_chosen : (s t u : Sort) (o r q : Range) (c x y : Value) → Agrees s o c → Agrees t r x → Agrees u q y → Agrees (sort_of_choice s t u) (joined_range r q) (chosen c x y)
one_chosen tells counts counts o r q (truth true) (num x) (num y) l h k = (omega (arith, ints, clamps), omega (arith, ints, clamps))
one_chosen tells counts counts o r q (truth false) (num x) (num y) l h k = (omega (arith, ints, clamps), omega (arith, ints, clamps))
one_chosen s t u o r q c x y l h k = search rules

-- if no divisor's interval contains 0, the value of an expression lies in its interval
pub sound : (ranges : Name → Range) (values : Name → ℕ) → AreInside ranges values → (f : Formula) → parts_divide ranges f ≡ true → Agrees (sort_of f) (range_of ranges f) (value_of values f)
sound ranges values inside (number n) d = (omega (arith, ints), omega (arith, ints))
sound ranges values inside (variable v) d = inside v
sound ranges values inside (two op a b) d =
    let left = both (parts_divide ranges a) _ d
    in let right = both (parts_divide ranges b) _ left.1
    in two_values op (sort_of a) (sort_of b) (range_of ranges a) (range_of ranges b) (value_of values a) (value_of values b) (sound ranges values inside a left.0) (sound ranges values inside b right.0) right.1
sound ranges values inside (negation a) d =
    one_negated (sort_of a) (range_of ranges a) (value_of values a) (sound ranges values inside a d)
sound ranges values inside (choice c a b) d =
    let test = both (parts_divide ranges c) _ d
    in let sides = both (parts_divide ranges a) _ test.1
    in one_chosen (sort_of c) (sort_of a) (sort_of b) (range_of ranges c) (range_of ranges a) (range_of ranges b) (value_of values c) (value_of values a) (value_of values b) (sound ranges values inside c test.0) (sound ranges values inside a sides.0) (sound ranges values inside b sides.1)

number_from : (r : Range) (w : Value) → Agrees counts r w → (v : ℤ) × (w ≡ num v) × IsInside r v
number_from r (num v) h = (v, refl, h)
number_from r (truth t) h = absurd h
number_from r nothing h = absurd h

truth_from : (r : Range) (w : Value) → Agrees tells r w → (t : Bool) × (w ≡ truth t)
truth_from r (truth t) h = (t, refl)
truth_from r (num v) h = absurd h
truth_from r nothing h = absurd h

-- a numeric expression has a value, inside its interval
pub number_in : (ranges : Name → Range) (values : Name → ℕ) → AreInside ranges values → (f : Formula) → parts_divide ranges f ≡ true → HasValueIn (range_of ranges f) values f
number_in ranges values inside f d s =
    number_from (range_of ranges f) (value_of values f) (subst (λ (k : Sort). Agrees k (range_of ranges f) (value_of values f)) s (sound ranges values inside f d))

-- a truth-valued expression has a truth value
pub truth_in : (ranges : Name → Range) (values : Name → ℕ) → AreInside ranges values → (f : Formula) → parts_divide ranges f ≡ true → sort_of f ≡ tells → (t : Bool) × (value_of values f ≡ truth t)
truth_in ranges values inside f d s =
    truth_from (range_of ranges f) (value_of values f) (subst (λ (k : Sort). Agrees k (range_of ranges f) (value_of values f)) s (sound ranges values inside f d))

-- each numeric part has a value, inside its interval
pub parts_in : (ranges : Name → Range) (values : Name → ℕ) → AreInside ranges values → (f : Formula) → parts_divide ranges f ≡ true → ArePartsIn (range_of ranges) values f
parts_in ranges values inside (number n) d = number_in ranges values inside (number n) d
parts_in ranges values inside (variable v) d = number_in ranges values inside (variable v) d
parts_in ranges values inside (two op a b) d =
    let left = both (parts_divide ranges a) _ d
    in let right = both (parts_divide ranges b) _ left.1
    in (parts_in ranges values inside a left.0, parts_in ranges values inside b right.0, number_in ranges values inside (two op a b) d)
parts_in ranges values inside (negation a) d = parts_in ranges values inside a d
parts_in ranges values inside (choice c a b) d =
    let test = both (parts_divide ranges c) _ d
    in let sides = both (parts_divide ranges a) _ test.1
    in (parts_in ranges values inside c test.0, parts_in ranges values inside a sides.0, parts_in ranges values inside b sides.1, number_in ranges values inside (choice c a b) d)

not_counts : (s : Sort) → sort_of_negation s ≡ counts → ⊥
not_counts counts h = cc
not_counts tells h = cc
not_counts clash h = cc

-- if all parts' intervals are narrow, the interval of the whole is
pub narrow_whole : (ranges : Name → Range) (f : Formula) → ArePartsNarrow ranges f → sort_of f ≡ counts → IsNarrow (range_of ranges f)
narrow_whole ranges (number n) h s = h
narrow_whole ranges (variable v) h s = h
narrow_whole ranges (two op a b) h s = h.2
narrow_whole ranges (negation a) h s = absurd (not_counts (sort_of a) s)
narrow_whole ranges (choice c a b) h s = h.3

-- a number between -2^100 and 2^100 fits in 128 bits
pub narrow_fits : (v : ℤ) → neg_ℤ (pos (2 ^ 100)) ≤ℤ v → v ≤ℤ pos (2 ^ 100) → FitsSigned w128 v
narrow_fits v h k = omega (arith, ints)

-- a number in a narrow interval fits in 128 bits
pub inside_fits : (r : Range) (v : ℤ) → IsNarrow r → IsInside r v → FitsSigned w128 v
inside_fits r v n h = narrow_fits v (omega (arith, ints)) (omega (arith, ints))

-- an expression's value fits in 128 bits
pub value_fits : (ranges : Name → Range) (values : Name → ℕ) → AreInside ranges values → (f : Formula) → ArePartsNarrow ranges f → parts_divide ranges f ≡ true → sort_of f ≡ counts → FitsWide (value_of values f)
value_fits ranges values inside f n d s =
    let v = number_in ranges values inside f d s
    in rw v.1 (inside_fits (range_of ranges f) v.0 (narrow_whole ranges f n s) v.2)

widened : (r : Range) (values : Name → ℕ) (f : Formula) → IsNarrow r → HasValueIn r values f → HasValueIn widest values f
widened r values f n h s =
    let v = h s
    in (v.0, v.1, let l = v.2.0 in let k = v.2.1 in (omega (arith, ints, n.low), omega (arith, ints, n.high)))

-- if the parts' intervals are narrow, their values are between -2^100 and 2^100
pub parts_narrow : (ranges : Name → Range) (values : Name → ℕ) (f : Formula) → ArePartsNarrow ranges f → ArePartsIn (range_of ranges) values f → ArePartsIn (λ part. widest) values f
parts_narrow ranges values (number n) h k = widened (range_of ranges (number n)) values (number n) h k
parts_narrow ranges values (variable v) h k = widened (range_of ranges (variable v)) values (variable v) h k
parts_narrow ranges values (two op a b) h k =
    (parts_narrow ranges values a h.0 k.0, parts_narrow ranges values b h.1 k.1, widened (range_of ranges (two op a b)) values (two op a b) h.2 k.2)
parts_narrow ranges values (negation a) h k = parts_narrow ranges values a h k
parts_narrow ranges values (choice c a b) h k =
    (parts_narrow ranges values c h.0 k.0, parts_narrow ranges values a h.1 k.1, parts_narrow ranges values b h.2 k.2, widened (range_of ranges (choice c a b)) values (choice c a b) h.3 k.3)
