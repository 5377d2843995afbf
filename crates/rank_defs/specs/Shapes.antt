-- Well-shaped transactions, and states and environments in range.
use Rattle.std.specs.Prelude.{◌≤◌, ◌<◌, ◌≢◌, ℕ, List, [], ◌∷◌, length}
use Rattle.std.specs.List.{AllByRecursion}
use Rattle.rank_defs.specs.declared.environment.Env.{Env}
use Rattle.rank_defs.specs.declared.environment.Who.{Who}
use Rattle.rank_defs.specs.declared.expression.Var.{Var as Name}
use Rattle.rank_defs.specs.declared.expression.Var.TheVariants.{Keep, Each}
use Rattle.rank_defs.specs.declared.transaction.Aim.{Aim}
use Rattle.rank_defs.specs.declared.transaction.Aim.TheVariants.{Rank as AimRank, Keep as AimKeep, Each as AimEach}
use Rattle.rank_defs.specs.declared.transaction.Span.{Span}
use Rattle.rank_defs.specs.Formulas.{Formula, number, variable, two, negation, choice, depth_of}
use Rattle.rank_defs.specs.Programs.{Assignment, Program, max_rank}
use Rattle.rank_defs.specs.States.{State, Memory}

-- low end, first value and high end are in order
pub record IsSpan (s : Span) : Type 0 where
  pub low : s.low ≤ s.first
  pub high : s.first ≤ s.high
  pub most : s.high ≤ max_rank

-- the variable is declared
abbrev pub IsDeclared : Program → Name → Type 0
IsDeclared p (Keep i) = i < length p.keeps
IsDeclared p (Each i) = i < length p.eaches
IsDeclared p v = Unit {0}

-- each variable in an expression is declared
abbrev pub AreDeclared : Program → Formula → Type 0
AreDeclared p (number n) = Unit {0}
AreDeclared p (variable v) = IsDeclared p v
AreDeclared p (two op a b) = AreDeclared p a × AreDeclared p b
AreDeclared p (negation a) = AreDeclared p a
AreDeclared p (choice c a b) = AreDeclared p c × AreDeclared p a × AreDeclared p b

-- a valid target: the rank, or a declared variable
abbrev pub IsAim : Program → Aim → Type 0
IsAim p AimRank = Unit {0}
IsAim p (AimKeep i) = i < length p.keeps
IsAim p (AimEach i) = i < length p.eaches

-- the greatest depth of an expression
abbrev pub max_depth : ℕ
max_depth = 64

-- it reads and writes only declared variables, and isn't too deep
pub record IsShapedAssignment (p : Program) (a : Assignment) : Type 0 where
  pub aim : IsAim p a.aim
  pub variables : AreDeclared p a.formula
  pub depth : depth_of a.formula ≤ max_depth

-- spans are in order, all variables are declared, no expression is too deep, and no pop writes the
-- rank
pub record IsShaped (p : Program) : Type 0 where
  pub keeps : AllByRecursion IsSpan p.keeps
  pub eaches : AllByRecursion IsSpan p.eaches
  pub push : AllByRecursion (IsShapedAssignment p) p.push
  pub pop : AllByRecursion (IsShapedAssignment p) p.pop
  pub leaves_rank : AllByRecursion (λ a. a.aim ≢ AimRank) p.pop

-- one number for each span, inside that span
abbrev pub AreWithin : List Span → List ℕ → Type 0
AreWithin [] [] = Unit {0}
AreWithin (s ∷ spans) (v ∷ values) = (s.low ≤ v) × (v ≤ s.high) × AreWithin spans values
AreWithin spans values = ⊥

-- each variable lies in its range
pub record IsStateInRange (p : Program) (s : State) : Type 0 where
  pub keeps : AreWithin p.keeps s.keeps
  pub eaches : (who : Who) → AreWithin p.eaches (s.eaches who)

-- each number that a step reads and writes lies in its range
pub record IsMemoryInRange (p : Program) (m : Memory) : Type 0 where
  pub rank : m.rank ≤ max_rank
  pub keeps : AreWithin p.keeps m.keeps
  pub eaches : AreWithin p.eaches m.eaches

-- the greatest value of `len`, in bytes
abbrev pub max_len : ℕ
max_len = 4294967295

-- the greatest value of `prio`
abbrev pub max_prio : ℕ
max_prio = 65535

-- the greatest value of `weight`; the least is 1
abbrev pub max_weight : ℕ
max_weight = 65535

-- the greatest value of `slack`, in nanoseconds
abbrev pub max_slack : ℕ
max_slack = 1000000000000

-- each number in the environment of a step lies in its range
pub record IsEnvInRange (env : Env) : Type 0 where
  pub len : env.len ≤ max_len
  pub now : env.now ≤ max_rank
  pub prio : env.prio ≤ max_prio
  pub weight_low : 1 ≤ env.weight
  pub weight_high : env.weight ≤ max_weight
  pub slack : env.slack ≤ max_slack
