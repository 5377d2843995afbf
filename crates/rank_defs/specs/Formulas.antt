-- The meaning of an expression, independent of its memory layout.
use Rattle.std.specs.Prelude.{ℕ, suc, max}
use Rattle.rank_defs.specs.declared.expression.Expr.{Expr}
use Rattle.rank_defs.specs.declared.expression.Expr.TheVariants.{Number, Var, Two', Not', If'}
use Rattle.rank_defs.specs.declared.expression.Op.{Op}
use Rattle.rank_defs.specs.declared.expression.Op.TheVariants.{Add, Sub, Mul, Div, Less, LessEq, Equal, NotEqual, MoreEq, More, Min, Max, And, Or}
use Rattle.rank_defs.specs.declared.expression.Var.{Var as Name}

-- an expression
pub data Formula : Type 0 where
  number : ℕ → Formula
  variable : Name → Formula
  two : Op → Formula → Formula → Formula
  negation : Formula → Formula
  choice : Formula → Formula → Formula → Formula

-- the formula of an expression in the code
abbrev pub formula_of : Expr → Formula
formula_of (Number n) = number n
formula_of (Var v) = variable v
formula_of (Two' op p a q b) = two op (formula_of a) (formula_of b)
formula_of (Not' p a) = negation (formula_of a)
formula_of (If' p c q a r b) = choice (formula_of c) (formula_of a) (formula_of b)

-- 1 for a number or a variable, otherwise 1 more than the deepest part
abbrev pub depth_of : Formula → ℕ
depth_of (number n) = 1
depth_of (variable v) = 1
depth_of (two op a b) = suc (max (depth_of a) (depth_of b))
depth_of (negation a) = suc (depth_of a)
depth_of (choice c a b) = suc (max (depth_of c) (max (depth_of a) (depth_of b)))

-- the operand and result types of an operation
pub data Group : Type 0 where
  computes : Group
  compares : Group
  joins : Group

-- `computes`: numbers to a number; `compares`: numbers to a truth value; `joins`: truth values to a
-- truth value
abbrev pub group : Op → Group
group Add = computes
group Sub = computes
group Mul = computes
group Div = computes
group Less = compares
group LessEq = compares
group Equal = compares
group NotEqual = compares
group MoreEq = compares
group More = compares
group Min = computes
group Max = computes
group And = joins
group Or = joins
