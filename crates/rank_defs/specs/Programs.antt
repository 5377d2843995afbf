-- The meaning of a transaction, independent of its memory layout.
use Rattle.std.specs.Prelude.{ℕ, List, map, ◌++◌, slice_index_or}
use Rattle.rank_defs.specs.declared.transaction.Aim.{Aim}
use Rattle.rank_defs.specs.declared.transaction.Aim.TheVariants.{Rank, Keep, Each}
use Rattle.rank_defs.specs.declared.transaction.Span.{Span}
use Rattle.rank_defs.specs.declared.transaction.Assign.{Assign}
use Rattle.rank_defs.specs.declared.transaction.Transaction.{Transaction}
use Rattle.rank_defs.specs.Formulas.{Formula, formula_of}

-- an assignment, with its line number
pub record Assignment : Type 0 where
  pub line : ℕ
  pub aim : Aim
  pub formula : Formula

-- the variables of a node, and its assignments at a push and at a pop
pub record Program : Type 0 where
  pub keeps : List Span
  pub eaches : List Span
  pub push : List Assignment
  pub pop : List Assignment

-- the meaning of an assignment in the code
abbrev pub assignment_of : Assign → Assignment
assignment_of a = record { line = a.line; aim = a.aim; formula = formula_of a.value }

-- the meaning of a transaction in the code
abbrev pub program_of : Transaction → Program
program_of t =
    record { keeps = t.keeps; eaches = t.eaches; push = map assignment_of t.push; pop = map assignment_of t.pop }

-- all assignments: first those at a push, then those at a pop
abbrev pub assignments : Program → List Assignment
assignments p = p.push ++ p.pop

abbrev pub span : ℕ → ℕ → ℕ → Span
span l h f = record { low = l; high = h; first = f }

-- the greatest rank, 2^62 - 1
abbrev pub max_rank : ℕ
max_rank = 4611686018427387903

-- the span at an index; only 0 if there is none
abbrev pub span_at : List Span → ℕ → Span
span_at spans i = slice_index_or spans i (span 0 0 0)

-- the span of an assignment's target
abbrev pub target : Program → Aim → Span
target p Rank = span 0 max_rank 0
target p (Keep i) = span_at p.keeps i
target p (Each i) = span_at p.eaches i
