-- Worked examples of the bytes that were taken from a window.
use Rattle.std.specs.Prelude.{◌≡◌, Some, None, [], ◌∷◌, refl}
use Rattle.pcap_core.specs.Held.{last_of}

-- the last two of the first three bytes
pub last_of-window : last_of (Some 2) 3 (10 ∷ 11 ∷ 12 ∷ 13 ∷ []) [] ≡ 11 ∷ 12 ∷ []
last_of-window = refl

-- copied bytes, and none of the window
pub last_of-copied : last_of None 3 (10 ∷ 11 ∷ 12 ∷ 13 ∷ []) (7 ∷ []) ≡ 7 ∷ []
last_of-copied = refl
