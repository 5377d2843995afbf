-- The numbers that report the error of a text.
use Rattle.std.specs.Prelude.{ℕ}
use Rattle.policy_text.specs.declared.fault.TextFault.{TextFault}
use Rattle.policy_text.specs.declared.fault.TextFault.TheVariants.{TooLong, NotText, Syntax, Shaping, NoMemory}

-- the code; the codes of texts come after those of the clauses that statements can fail
abbrev pub code_of : TextFault → ℕ
code_of TooLong = 21
code_of (NotText n) = 22
code_of (Syntax n) = 23
code_of (Shaping n) = 24
code_of NoMemory = 0

-- the line in error, counted from 1, and 0 if no single line is
abbrev pub line_of : TextFault → ℕ
line_of TooLong = 0
line_of (NotText n) = n
line_of (Syntax n) = n
line_of (Shaping n) = n
line_of NoMemory = 0
