use Rattle.range_core.proofs.Prelude.{map, rules, ◌≡◌, subst, List, ℕ, Some, ◌↔◌, ClashesFirstAt, DividesByZeroFirstAt, IsWideFirstAt, program_of, Transaction}
use Rattle.range_core.specs.declared.fault.RangeFault.TheVariants.{TypeClash, Wide, DivZero}
use Rattle.range_core.proofs.LeastLines.{all-tame}
use Rattle.range_core.proofs.ErrorLemmas.{as-error}
use Rattle.range_core.proofs.checked.check.Goals as goal

pub returns-in-Some-clause-clash : goal.returns-in-Some-clause-clash
returns-in-Some-clause-clash c =
    let fault = c.in-Some.fault
    in let h = subst (λ (ts : List Transaction). (line : ℕ) → (Some fault ≡ Some (TypeClash line)) ↔ ClashesFirstAt (map program_of ts) line) c.as_slice.ensures c.in-Some.ensures.clash
    in λ line. as-error fault (TypeClash line) (ClashesFirstAt (map program_of c.args.transactions) line) (h line)

pub returns-in-Some-clause-wide : goal.returns-in-Some-clause-wide
returns-in-Some-clause-wide c =
    let fault = c.in-Some.fault
    in let h = subst (λ (ts : List Transaction). (line : ℕ) → (Some fault ≡ Some (Wide line)) ↔ IsWideFirstAt (map program_of ts) line) c.as_slice.ensures c.in-Some.ensures.wide
    in λ line. as-error fault (Wide line) (IsWideFirstAt (map program_of c.args.transactions) line) (h line)

pub returns-in-Some-clause-zero : goal.returns-in-Some-clause-zero
returns-in-Some-clause-zero c =
    let fault = c.in-Some.fault
    in let h = subst (λ (ts : List Transaction). (line : ℕ) → (Some fault ≡ Some (DivZero line)) ↔ DividesByZeroFirstAt (map program_of ts) line) c.as_slice.ensures c.in-Some.ensures.zero
    in λ line. as-error fault (DivZero line) (DividesByZeroFirstAt (map program_of c.args.transactions) line) (h line)

pub returns-clause-tame : goal.returns-clause-tame
returns-clause-tame c = all-tame (map program_of c.args.transactions) (search rules)
