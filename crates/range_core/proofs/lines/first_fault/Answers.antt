use Rattle.range_core.proofs.Prelude.{map, subst, ℕ, Option, entries, IsWide, MayDivideByZero, Clashes, IsLeastLine, program_of}
use Rattle.rank_defs.proofs.Faults.{faultless-checked}
use Rattle.range_core.proofs.lines.first_fault.Goals as goal

pub returns-clause-checked : goal.returns-clause-checked
returns-clause-checked c = λ _.
    let ps = map program_of c.args.transactions.now
    in let least = c.lines_of_all-lines.ensures
    in let wide = subst (λ (line : Option ℕ). IsLeastLine IsWide (entries ps) line) c.in_default-wide.is least.wide
    in faultless-checked ps (record { typed = subst (λ (line : Option ℕ). IsLeastLine Clashes (entries ps) line) c.in_default.is least.clash; narrow = wide; divides = subst (λ (line : Option ℕ). IsLeastLine MayDivideByZero (entries ps) line) c.in_default-zero.is (least.zero wide) })
