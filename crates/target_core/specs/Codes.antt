-- The numbers that the report shows for a rejected target.
use Rattle.std.specs.Prelude.{ℕ}
use Rattle.target_core.specs.declared.fault.TargetFault.{TargetFault}
use Rattle.target_core.specs.declared.fault.TargetFault.TheVariants.{NotToml, Key, Large, TooLong, NoMemory}

abbrev pub code_of : TargetFault → ℕ
code_of NotToml = 1
code_of Key = 2
code_of Large = 3
code_of TooLong = 4
code_of NoMemory = 0
