-- Lemmas for an evaluator, for operands that Rust skips and the definition reads.
use Rattle.rank_defs.proofs.Prelude.{refl, ℕ, ◌≡◌, false, true, Bool, subst, ap, ◌∙◌, sym, ℤ, IsSafe, Formula, two, choice, counts, range_of, sort_of, tells, AreInside, IsInside, nothing, truth, FitsWide, Value, num, value_of, apply, chosen, Op, And, Or, Range}
use Rattle.rank_defs.specs.declared.expression.Var.{Var as Name}
use Rattle.rank_defs.proofs.ValueIntervals.{number_in, truth_in, value_fits}

-- a safe number's value lies in its interval
pub value-inside : (ranges : Name → Range) (values : Name → ℕ) (f : Formula) (v : ℤ) → AreInside ranges values → IsSafe ranges f → sort_of f ≡ counts → value_of values f ≡ num v → IsInside (range_of ranges f) v
value-inside ranges values f v inside safe s is =
    let n = number_in ranges values inside f safe.divides s
    in let same : n.0 ≡ v = cc
    in subst (λ (k : ℤ). IsInside (range_of ranges f) k) same n.2

-- the result of an operation fits
pub operation-fits : (ranges : Name → Range) (values : Name → ℕ) (e : Formula) (op : Op) (a b : Formula) (x y : ℤ) → e ≡ two op a b → AreInside ranges values → IsSafe ranges e → sort_of e ≡ counts → value_of values a ≡ num x → value_of values b ≡ num y → FitsWide (apply op (num x) (num y))
operation-fits ranges values e op a b x y is inside safe s f g =
    let here : value_of values e ≡ apply op (num x) (num y) = ap (value_of values) is ∙ rw (f, g) refl
    in subst (λ (w : Value). FitsWide w) here (value_fits ranges values inside e safe.narrow safe.divides s)

chosen-true : (y : Value) (v w : ℤ) → chosen (truth true) (num v) y ≡ num w → chosen (truth true) (num v) y ≡ num v
chosen-true (num y) v w h = refl
chosen-true (truth y) v w h = cc
chosen-true nothing v w h = cc

chosen-false : (x : Value) (v w : ℤ) → chosen (truth false) x (num v) ≡ num w → chosen (truth false) x (num v) ≡ num v
chosen-false (num x) v w h = refl
chosen-false (truth x) v w h = cc
chosen-false nothing v w h = cc

-- the branch that a condition selects gives the value, since the other branch has a value too
pub choice-true : (ranges : Name → Range) (values : Name → ℕ) (e c a b : Formula) (v : ℤ) → e ≡ choice c a b → AreInside ranges values → IsSafe ranges e → sort_of e ≡ counts → value_of values c ≡ truth true → value_of values a ≡ num v → value_of values e ≡ num v
choice-true ranges values e c a b v is inside safe s f g =
    let n = number_in ranges values inside e safe.divides s
    in let here : value_of values e ≡ chosen (truth true) (num v) (value_of values b) = ap (value_of values) is ∙ rw (f, g) refl
    in here ∙ chosen-true (value_of values b) v n.0 (sym here ∙ n.1)

pub choice-false : (ranges : Name → Range) (values : Name → ℕ) (e c a b : Formula) (v : ℤ) → e ≡ choice c a b → AreInside ranges values → IsSafe ranges e → sort_of e ≡ counts → value_of values c ≡ truth false → value_of values b ≡ num v → value_of values e ≡ num v
choice-false ranges values e c a b v is inside safe s f g =
    let n = number_in ranges values inside e safe.divides s
    in let here : value_of values e ≡ chosen (truth false) (value_of values a) (num v) = ap (value_of values) is ∙ rw (f, g) refl
    in here ∙ chosen-false (value_of values a) v n.0 (sym here ∙ n.1)

and-is : (y : Value) (t : Bool) → apply And (truth false) y ≡ truth t → apply And (truth false) y ≡ truth false
and-is (truth y) t h = refl
and-is (num y) t h = cc
and-is nothing t h = cc

or-is : (y : Value) (t : Bool) → apply Or (truth true) y ≡ truth t → apply Or (truth true) y ≡ truth true
or-is (truth y) t h = refl
or-is (num y) t h = cc
or-is nothing t h = cc

-- the right operand of `and` isn't evaluated if the left one is false
pub and-false : (ranges : Name → Range) (values : Name → ℕ) (e a b : Formula) → e ≡ two And a b → AreInside ranges values → IsSafe ranges e → sort_of e ≡ tells → value_of values a ≡ truth false → value_of values e ≡ truth false
and-false ranges values e a b is inside safe s f =
    let n = truth_in ranges values inside e safe.divides s
    in let here : value_of values e ≡ apply And (truth false) (value_of values b) = ap (value_of values) is ∙ rw f refl
    in here ∙ and-is (value_of values b) n.0 (sym here ∙ n.1)

-- the right operand of `or` isn't evaluated if the left one is true
pub or-true : (ranges : Name → Range) (values : Name → ℕ) (e a b : Formula) → e ≡ two Or a b → AreInside ranges values → IsSafe ranges e → sort_of e ≡ tells → value_of values a ≡ truth true → value_of values e ≡ truth true
or-true ranges values e a b is inside safe s f =
    let n = truth_in ranges values inside e safe.divides s
    in let here : value_of values e ≡ apply Or (truth true) (value_of values b) = ap (value_of values) is ∙ rw f refl
    in here ∙ or-is (value_of values b) n.0 (sym here ∙ n.1)
