-- All programs that names denote.
use Rattle.std.specs.Prelude.{◌≡◌, ℕ, Option, option_and_then, slice_get, List, map, ◌++◌, All}
use Rattle.std.specs.List.{AllByRecursion}
use Rattle.rank_defs.specs.Shapes.{IsShaped}
use Rattle.rank_defs.specs.Checks.{AreChecked}
use Rattle.policy_text_defs.specs.Valid.{IsValid}
use Rattle.policy_rules.specs.Accepted.{AreFew, AreComputable}
use Rattle.policy_rules.specs.Entries.{AreRising}
use Rattle.rank_defs.specs.Programs.{Program}
use Rattle.rank_defs.specs.Builtins.{builtins}
use Rattle.range_core.specs.declared.fault.RangeFault.{RangeFault}
use Rattle.range_core.specs.declared.fault.RangeFault.TheVariants as range
use Rattle.policy_text_defs.specs.Sense.{Entry}
use Rattle.policy_rules.specs.declared.fault.PolicyFault.{PolicyFault}
use Rattle.policy_rules.specs.declared.fault.PolicyFault.TheVariants.{TypeClash, Wide, DivZero, NoMemory}
use Rattle.policy_rules.specs.Names.{Name, declared, transaction_name}
use Rattle.policy_rules.specs.Programs.{programs}

-- the built-in programs, followed by those that are written
abbrev pub known_programs : List Entry → List Program
known_programs entries = map (λ b. b.program) builtins ++ programs entries

-- the program at an index, if there is one
abbrev pub program_at : List Entry → Option ℕ → Option Program
program_at entries place = option_and_then (λ i. slice_get (known_programs entries) i) place

-- a property of all statements that declare these transactions in order, if no clause up to the
-- limits fails
abbrev pub WhereDeclared : List Name → (List Entry → Type 0) → Type 0
WhereDeclared transactions Holds = (es : List Entry) → AreRising es → AreFew es → transactions ≡ declared transaction_name es → Holds es

-- an error of transactions, as an error of the policy
abbrev pub fault_of : RangeFault → PolicyFault
fault_of (range.TypeClash n) = TypeClash n
fault_of (range.Wide n) = Wide n
fault_of (range.DivZero n) = DivZero n
fault_of range.NoMemory = NoMemory

-- if no clause up to the limits fails, all programs are shaped
abbrev pub KnownAreShaped : Type 0
KnownAreShaped =
    (entries : List Entry) → AreRising entries → AreFew entries → All (λ e. IsValid e.1) entries → AllByRecursion IsShaped (known_programs entries)

-- if the written programs are checked, all programs are
abbrev pub ComputableAreChecked : Type 0
ComputableAreChecked = (entries : List Entry) → AreComputable entries → AreChecked (known_programs entries)
