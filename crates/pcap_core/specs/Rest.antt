-- The remaining bytes of a capture: those of the window, and those left of the file.
use Rattle.std.specs.Prelude.{◌≡◌, ◌<◌, ℕ, Bool, Option, Some, None, List, [], ◌++◌, length, IfSome, IsTrue, ⊤}
use Rattle.outside_core.specs.Kept.{KeepsShelf}

-- the remaining bytes, if those left of the file are known to the contract
abbrev pub rest_of : List ℕ → Option (List ℕ) → Option (List ℕ)
rest_of held None = None
rest_of held (Some left) = Some (held ++ left)

-- these bytes were taken from the front of the remaining bytes
abbrev pub TakesFront : Option (List ℕ) → Option (List ℕ) → List ℕ → Type 0
TakesFront None new bytes = ⊤
TakesFront (Some old) None bytes = ⊥
TakesFront (Some old) (Some new) bytes = old ≡ bytes ++ new

-- nothing is left
abbrev pub IsWhole : Option (List ℕ) → Type 0
IsWhole rest = IfSome rest (λ bytes. bytes ≡ [])

-- nothing is left now, if the remaining bytes before were known to the contract
abbrev pub LeavesNothing : Option (List ℕ) → Option (List ℕ) → Type 0
LeavesNothing old new = IfSome old (λ bytes. new ≡ Some [])

-- nothing was left, and nothing is left now
pub record HasEnded (old new : Option (List ℕ)) : Type 0 where
  pub ended : IsWhole old
  pub over : LeavesNothing old new

-- the shelf has the same files, one of them is open, and the number of faults didn't decrease
pub record Serves {S : Type 0} (lends : S → List ℕ → Bool) (content : S → List ℕ → Option (List ℕ)) (begun : S → Bool) (faults : S → ℕ) (old new : S) : Type 0 where
  pub still : IsTrue (begun new)
  pub kept : KeepsShelf lends content faults old new

-- fewer bytes than asked for were taken only if they were all of the remaining bytes
abbrev pub IsShort : Option (List ℕ) → List ℕ → ℕ → Type 0
IsShort old bytes most = length bytes < most → IfSome old (λ left. left ≡ bytes)
