-- The built-in transactions: first in first out, strict priority, shortest packet first, least
-- slack time first, round robin, and start-time fair queueing.
use Rattle.std.specs.Prelude.{ℕ, Bool, true, false, ◌&&◌, ◌==◌, List, [], ◌∷◌, Option, codes, find}
use Rattle.std.specs.Option.{option_map}
use Rattle.rank_defs.specs.declared.expression.Op.TheVariants.{Add, Mul, Div, Max}
use Rattle.rank_defs.specs.declared.expression.Var.TheVariants.{Len, Now, Prio, Weight, Slack, Rank, Keep, Each}
use Rattle.rank_defs.specs.declared.transaction.Aim.{Aim}
use Rattle.rank_defs.specs.declared.transaction.Aim.TheVariants.{Rank as AimRank, Keep as AimKeep, Each as AimEach}
use Rattle.rank_defs.specs.declared.transaction.Span.{Span}
use Rattle.rank_defs.specs.Formulas.{Formula, number, variable, two}
use Rattle.rank_defs.specs.Programs.{Assignment, Program, span, max_rank}

-- a built-in transaction, with its name
pub record Builtin : Type 0 where
  pub name : List ℕ
  pub program : Program

-- an assignment without a line in the policy text
abbrev pub set : Aim → Formula → Assignment
set a f = record { line = 0; aim = a; formula = f }

-- a variable from 0 to the greatest rank, with first value 0
abbrev pub counter : Span
counter = span 0 max_rank 0

-- a transaction that ranks by one expression and has no variables
abbrev pub ranked_by : Formula → Program
ranked_by f = record { keeps = []; eaches = []; push = set AimRank f ∷ []; pop = [] }

-- first in first out: every rank is 0
abbrev pub fifo : Program
fifo = record { keeps = []; eaches = []; push = []; pop = [] }

-- strict priority
abbrev pub strict : Program
strict = ranked_by (variable Prio)

-- shortest packet first
abbrev pub shortest : Program
shortest = ranked_by (variable Len)

-- least slack time first
abbrev pub lstf : Program
lstf = ranked_by (two Add (variable Now) (variable Slack))

-- round robin: `cur` belongs to the node, `next` to each child or flow
abbrev pub rr : Program
rr =
    record { keeps = counter ∷ []; eaches = counter ∷ []; push = set AimRank (two Max (variable (Keep 0)) (variable (Each 0))) ∷ set (AimEach 0) (two Add (variable Rank) (number 1)) ∷ []; pop = set (AimKeep 0) (variable Rank) ∷ [] }

-- start-time fair queueing: `vt` belongs to the node, `last` to each child or flow
abbrev pub stfq : Program
stfq =
    record { keeps = counter ∷ []; eaches = counter ∷ []; push = set AimRank (two Max (variable (Keep 0)) (variable (Each 0))) ∷ set (AimEach 0) (two Add (variable Rank) (two Div (two Mul (variable Len) (number 1000)) (variable Weight))) ∷ []; pop = set (AimKeep 0) (variable Rank) ∷ [] }

-- a row of the table
abbrev pub named : List ℕ → Program → Builtin
named n p = record { name = n; program = p }

-- the six built-in transactions
abbrev pub builtins : List Builtin
builtins =
    named (codes "fifo") fifo ∷ named (codes "strict") strict ∷ named (codes "shortest") shortest ∷ named (codes "lstf") lstf ∷ named (codes "rr") rr ∷ named (codes "stfq") stfq ∷ []

-- whether two names have the same bytes
abbrev pub same_name : List ℕ → List ℕ → Bool
same_name [] [] = true
same_name (a ∷ xs) (b ∷ ys) = a == b && same_name xs ys
same_name xs ys = false

-- the built-in transaction with a given name
abbrev pub builtin : List ℕ → Option Program
builtin name = option_map (λ b. b.program) (find (λ b. same_name name b.name) builtins)
