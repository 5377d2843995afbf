-- The numbers that report an error.
use Rattle.std.specs.Prelude.{ℕ}
use Rattle.policy_rules.specs.declared.fault.PolicyFault.{PolicyFault}
use Rattle.policy_rules.specs.declared.fault.PolicyFault.TheVariants.{Misplaced, Twice, Unknown, TooMany, TypeClash, Wide, DivZero, Parents, NoRoot, Cycle, Deep, ClassLeaf, NoCatchAll, OldVersion, NoMemory}

-- the number of the clause that fails
abbrev pub code_of : PolicyFault → ℕ
code_of (Misplaced n) = 1
code_of (Twice n) = 2
code_of (Unknown n) = 3
code_of (TooMany n) = 4
code_of (TypeClash n) = 5
code_of (Wide n) = 6
code_of (DivZero n) = 7
code_of (Parents n) = 8
code_of NoRoot = 9
code_of (Cycle n) = 10
code_of (Deep n) = 11
code_of (ClassLeaf n) = 12
code_of NoCatchAll = 13
code_of (OldVersion n) = 14
code_of NoMemory = 0

-- its first line, and 0 if no single line is in error
abbrev pub line_of : PolicyFault → ℕ
line_of (Misplaced n) = n
line_of (Twice n) = n
line_of (Unknown n) = n
line_of (TooMany n) = n
line_of (TypeClash n) = n
line_of (Wide n) = n
line_of (DivZero n) = n
line_of (Parents n) = n
line_of NoRoot = 0
line_of (Cycle n) = n
line_of (Deep n) = n
line_of (ClassLeaf n) = n
line_of NoCatchAll = 0
line_of (OldVersion n) = n
line_of NoMemory = 0
