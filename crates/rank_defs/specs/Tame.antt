-- Steps in which every computed number lies in its interval.
use Rattle.std.specs.Prelude.{◌≡◌, ◌≤◌, ◌≤ℤ◌, ℕ, ℤ, pos, List, [], ◌∷◌}
use Rattle.std.specs.List.{AllByRecursion}
use Rattle.rank_defs.specs.declared.environment.Env.{Env}
use Rattle.rank_defs.specs.declared.environment.Who.{Who}
use Rattle.rank_defs.specs.declared.expression.Var.{Var as Name}
use Rattle.rank_defs.specs.declared.range.Range.{Range}
use Rattle.rank_defs.specs.Formulas.{Formula, number, variable, two, negation, choice}
use Rattle.rank_defs.specs.Programs.{Assignment, Program, assignments, max_rank}
use Rattle.rank_defs.specs.Values.{num, value_of}
use Rattle.rank_defs.specs.States.{State, Memory, memory_for, variable_in}
use Rattle.rank_defs.specs.Steps.{assigned, push_rank, after_push, after_pop}
use Rattle.rank_defs.specs.Shapes.{IsStateInRange, IsMemoryInRange, IsEnvInRange}
use Rattle.rank_defs.specs.Ranges.{counts, sort_of, range_of, declared, widest}

-- a number inside an interval
abbrev pub IsInside : Range → ℤ → Type 0
IsInside r v = (r.low ≤ℤ v) × (v ≤ℤ r.high)

-- each variable lies in its interval
abbrev pub AreInside : (Name → Range) → (Name → ℕ) → Type 0
AreInside ranges variables = (v : Name) → IsInside (ranges v) (pos (variables v))

-- if the expression is a number, it has a value inside the interval
abbrev pub HasValueIn : Range → (Name → ℕ) → Formula → Type 0
HasValueIn r values f = sort_of f ≡ counts → (v : ℤ) × (value_of values f ≡ num v) × IsInside r v

-- each numeric part has a value inside its given interval, even in a branch that isn't taken
abbrev pub ArePartsIn : (Formula → Range) → (Name → ℕ) → Formula → Type 0
ArePartsIn bound values (number n) = HasValueIn (bound (number n)) values (number n)
ArePartsIn bound values (variable v) = HasValueIn (bound (variable v)) values (variable v)
ArePartsIn bound values (two op a b) =
    ArePartsIn bound values a × ArePartsIn bound values b × HasValueIn (bound (two op a b)) values (two op a b)
ArePartsIn bound values (negation a) = ArePartsIn bound values a
ArePartsIn bound values (choice c a b) =
    ArePartsIn bound values c × ArePartsIn bound values a × ArePartsIn bound values b × HasValueIn (bound (choice c a b)) values (choice c a b)

-- types agree, and each numeric part has a value inside its interval and between -2^100 and 2^100
pub record IsTameAssignment (p : Program) (env : Env) (m : Memory) (a : Assignment) : Type 0 where
  pub typed : sort_of a.formula ≡ counts
  pub inside : ArePartsIn (range_of (declared p)) (variable_in env m) a.formula
  pub narrow : ArePartsIn (λ f. widest) (variable_in env m) a.formula

-- each assignment is tame when they run in sequence
abbrev pub IsTame : Program → Env → List Assignment → Memory → Type 0
IsTame p env [] m = Unit {0}
IsTame p env (a ∷ rest) m = IsTameAssignment p env m a × IsTame p env rest (assigned p env m a)

-- each assignment is tame for all values of the variables in their ranges
abbrev pub IsAlwaysTame : Program → Type 0
IsAlwaysTame p =
    (env : Env) → IsEnvInRange env → (m : Memory) → IsMemoryInRange p m → AllByRecursion (IsTameAssignment p env m) (assignments p)

-- a tame push step whose rank is at most the greatest rank, and after which each variable is in its
-- range
pub record IsSafePush (p : Program) (who : Who) (env : Env) (s : State) : Type 0 where
  pub tame : IsTame p env p.push (memory_for who 0 s)
  pub rank : push_rank p who env s ≤ max_rank
  pub after : IsStateInRange p (after_push p who env s)

-- a tame pop step after which each variable is in its range
pub record IsSafePop (p : Program) (who : Who) (env : Env) (taken : ℕ) (s : State) : Type 0 where
  pub tame : IsTame p env p.pop (memory_for who taken s)
  pub after : IsStateInRange p (after_pop p who env taken s)
