-- The value of an expression, over exact integers.
use Rattle.std.specs.Prelude.{ℕ, zero, suc, ℤ, pos, negsuc, ◌+ℤ◌, ◌-ℤ◌, ◌*ℤ◌, int_div, int_lt, int_le, FitsSigned, Bool, not, ◌&&◌, ◌||◌, if◌then◌else◌}
use Rattle.std.specs.Int.{int_min, int_max, w128}
use Rattle.rank_defs.specs.declared.expression.Op.{Op}
use Rattle.rank_defs.specs.declared.expression.Op.TheVariants.{Add, Sub, Mul, Div, Less, LessEq, Equal, NotEqual, MoreEq, More, Min, Max, And, Or}
use Rattle.rank_defs.specs.declared.expression.Var.{Var as Name}
use Rattle.rank_defs.specs.Formulas.{Formula, number, variable, two, negation, choice}

-- a number, a truth value, or no value
pub data Value : Type 0 where
  num : ℤ → Value
  truth : Bool → Value
  nothing : Value

-- applies a function to two numbers; no value if either isn't a number
abbrev pub on_numbers : (ℤ → ℤ → Value) → Value → Value → Value
on_numbers f (num x) (num y) = f x y
on_numbers f x y = nothing

-- applies a function to two truth values; no value if either isn't a truth value
abbrev pub on_truths : (Bool → Bool → Bool) → Value → Value → Value
on_truths f (truth x) (truth y) = truth (f x y)
on_truths f x y = nothing

-- truncated toward zero; no value if the divisor is 0
abbrev pub quotient : ℤ → ℤ → Value
quotient x (pos zero) = nothing
quotient x (pos (suc n)) = num (int_div x (pos (suc n)))
quotient x (negsuc n) = num (int_div x (negsuc n))

-- whether two numbers are equal
abbrev pub int_equal : ℤ → ℤ → Bool
int_equal x y = int_le x y && int_le y x

-- the result of an operation on two values
abbrev pub apply : Op → Value → Value → Value
apply Add = on_numbers (λ x y. num (x +ℤ y))
apply Sub = on_numbers (λ x y. num (x -ℤ y))
apply Mul = on_numbers (λ x y. num (x *ℤ y))
apply Div = on_numbers quotient
apply Less = on_numbers (λ x y. truth (int_lt x y))
apply LessEq = on_numbers (λ x y. truth (int_le x y))
apply Equal = on_numbers (λ x y. truth (int_equal x y))
apply NotEqual = on_numbers (λ x y. truth (not (int_equal x y)))
apply MoreEq = on_numbers (λ x y. truth (int_le y x))
apply More = on_numbers (λ x y. truth (int_lt y x))
apply Min = on_numbers (λ x y. num (int_min x y))
apply Max = on_numbers (λ x y. num (int_max x y))
apply And = on_truths (λ x y. x && y)
apply Or = on_truths (λ x y. x || y)

-- the negation of a truth value
abbrev pub negated : Value → Value
negated (truth x) = truth (not x)
negated x = nothing

-- one of two numbers, selected by a truth value
abbrev pub chosen : Value → Value → Value → Value
chosen (truth t) (num x) (num y) = num (if t then x else y)
chosen t x y = nothing

-- the value of an expression, given the value of each variable
abbrev pub value_of : (Name → ℕ) → Formula → Value
value_of variables (number n) = num (pos n)
value_of variables (variable v) = num (pos (variables v))
value_of variables (two op a b) = apply op (value_of variables a) (value_of variables b)
value_of variables (negation a) = negated (value_of variables a)
value_of variables (choice c a b) =
    chosen (value_of variables c) (value_of variables a) (value_of variables b)

-- a number that fits in 128 bits
abbrev pub FitsWide : Value → Type 0
FitsWide (num x) = FitsSigned w128 x
FitsWide w = ⊥
