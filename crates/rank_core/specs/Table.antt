-- The meaning of the code's table of built-in transactions.
use Rattle.std.specs.Prelude.{ℕ, List, map, Option, option_map, find}
use Rattle.rank_defs.specs.Formulas.{Formula, number, variable, two}
use Rattle.rank_defs.specs.Programs.{Assignment, Program}
use Rattle.rank_defs.specs.Builtins.{Builtin, set, named, same_name}
use Rattle.rank_core.specs.declared.builtins.Line.{Line}
use Rattle.rank_core.specs.declared.builtins.Row.{Row}
use Rattle.rank_core.specs.declared.builtins.Term.{Term}
use Rattle.rank_core.specs.declared.builtins.Term.TheVariants.{Number, Var, Two'}

-- an expression
abbrev pub formula : Term → Formula
formula (Number n) = number n
formula (Var v) = variable v
formula (Two' op p a q b) = two op (formula a) (formula b)

-- an assignment
abbrev pub assignment : Line → Assignment
assignment l = set l.aim (formula l.value)

-- the transaction of a row
abbrev pub program : Row → Program
program r =
    record { keeps = r.keeps.now; eaches = r.eaches.now; push = map assignment r.push.now; pop = map assignment r.pop.now }

-- a row, with its name
abbrev pub row : Row → Builtin
row r = named r.name.now (program r)

-- the transaction with a given name in a list
abbrev pub program_named : List ℕ → List Builtin → Option Program
program_named name bs = option_map (λ b. b.program) (find (λ b. same_name name b.name) bs)
