-- Errors of a given map, as numbers in a report.
use Rattle.std.specs.Prelude.{◌≡◌, refl, ℕ, [], ◌∷◌, map}
use Rattle.mapcheck_core.specs.declared.fault.MapFault.{MapFault}
use Rattle.mapcheck_core.specs.declared.fault.MapFault.TheVariants as fault

abbrev pub code_of : MapFault → ℕ
code_of fault.TooLong = 1
code_of (fault.Line n) = 2
code_of (fault.Unknown n) = 3
code_of (fault.Twice n) = 4
code_of (fault.Missing n) = 5
code_of (fault.NoAddress n) = 6
code_of (fault.Root n) = 7
code_of (fault.Leaf n) = 8
code_of (fault.Prefix a b) = 9
code_of fault.NoMemory = 0

-- the line or node number that the error holds, or 0 if it holds neither
abbrev pub place_of : MapFault → ℕ
place_of (fault.Line n) = n
place_of (fault.Unknown n) = n
place_of (fault.Twice n) = n
place_of (fault.Missing n) = n
place_of (fault.NoAddress n) = n
place_of (fault.Root n) = n
place_of (fault.Leaf n) = n
place_of _ = 0

codes_of_texts : map code_of (fault.TooLong ∷ fault.Line 4 ∷ fault.Unknown 4 ∷ fault.Twice 4 ∷ fault.Missing 4 ∷ []) ≡ 1 ∷ 2 ∷ 3 ∷ 4 ∷ 5 ∷ []
codes_of_texts = refl

codes_of_clauses : map code_of (fault.NoAddress 4 ∷ fault.Root 4 ∷ fault.Leaf 4 ∷ fault.Prefix 1 2 ∷ []) ≡ 6 ∷ 7 ∷ 8 ∷ 9 ∷ []
codes_of_clauses = refl

-- an error about two nodes has no single number; an error about a missing node has the node's
-- number
places : map place_of (fault.TooLong ∷ fault.Missing 3 ∷ fault.Root 4 ∷ fault.Prefix 1 2 ∷ []) ≡ 0 ∷ 3 ∷ 4 ∷ 0 ∷ []
places = refl
