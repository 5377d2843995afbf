-- Transactions for the tests.
use Rattle.std.specs.Prelude.{ℕ, [], ◌∷◌, ◌≤◌}
use Rattle.rank_defs.specs.declared.transaction.Aim.TheVariants.{Rank}
use Rattle.rank_defs.specs.Formulas.{Formula, depth_of}
use Rattle.rank_defs.specs.Programs.{Program, span, max_rank}
use Rattle.rank_defs.specs.Shapes.{AreDeclared, max_depth}

-- a rank computed from two variables: one from 0 to the greatest rank, one from 0 to a given number
abbrev pub ranked : ℕ → ℕ → Formula → Program
ranked line most f =
    record { keeps = span 0 max_rank 0 ∷ span 0 most 0 ∷ []; eaches = []; push = record { line = line; aim = Rank; formula = f } ∷ []; pop = [] }

-- an expression over these variables that isn't too deep
pub record IsSample (f : Formula) : Type 0 where
  pub variables : AreDeclared (ranked 0 0 f) f
  pub depth : depth_of f ≤ max_depth
