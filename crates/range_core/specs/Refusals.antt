-- Rejected transactions and the lines of their errors.
use Rattle.std.specs.Prelude.{◌≡◌, ◌↔◌, ℕ, Option, Some, Result, Err}
use Rattle.range_core.specs.declared.fault.RangeFault.{RangeFault}

-- a fault is found with a line exactly if the fact holds for that line
abbrev pub Finds : Option RangeFault → (ℕ → RangeFault) → (ℕ → Type 0) → Type 0
Finds found fault P = (line : ℕ) → (found ≡ Some (fault line)) ↔ P line

-- a fault is returned as an error with a line exactly if the fact holds for that line
abbrev pub Refuses : {A : Type 0} → Result A RangeFault → (ℕ → RangeFault) → (ℕ → Type 0) → Type 0
Refuses result fault P = (line : ℕ) → (result ≡ Err (fault line)) ↔ P line
