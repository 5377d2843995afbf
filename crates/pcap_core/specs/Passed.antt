-- Skipped bytes.
use Rattle.std.specs.Prelude.{◌≡◌, ◌≤◌, ℕ, Option, Some, None, List, length, drop, IfSome, ⊤}

-- this many bytes at the front of the remaining bytes were skipped
abbrev pub Passes : ℕ → Option (List ℕ) → Option (List ℕ) → Type 0
Passes n None new = ⊤
Passes n (Some old) None = ⊥
Passes n (Some old) (Some new) = (n ≤ length old) × (new ≡ drop n old)

-- this many bytes were left
abbrev pub IsAll : ℕ → Option (List ℕ) → Type 0
IsAll n old = IfSome old (λ left. length left ≡ n)
