-- The stored timestamps of queued packets.
use Rattle.std.specs.Prelude.{◌≡◌, refl, ℕ, ◌-◌, ◌==◌, nat_lt, if◌then◌else◌, Option, None, Some, List, [], ◌∷◌, map, slice_get}
use Rattle.summary_core.specs.declared.timestamps.Timestamps.{Timestamps}

-- stands in the slot of a packet that isn't queued
abbrev pub absent : ℕ
absent = 18446744073709551615

-- the timestamp in a slot, if there is one
abbrev pub in_slot : Option ℕ → Option ℕ
in_slot None = None
in_slot (Some moment) = if moment == absent then None else Some moment

-- the timestamp of the packet with this number, if it is stored; the first slot's packet has the
-- number `first`
abbrev pub stamp_at : ℕ → List ℕ → ℕ → Option ℕ
stamp_at first slots n = if nat_lt n first then None else in_slot (slice_get slots (n - first))

abbrev pub stamp_in : Timestamps → ℕ → Option ℕ
stamp_in t n = stamp_at t.first t.slots.items n

-- of the packets 5 to 7, the second isn't queued
packets_around_five : map (stamp_at 5 (100 ∷ absent ∷ 300 ∷ [])) (4 ∷ 5 ∷ 6 ∷ 7 ∷ 8 ∷ []) ≡ None ∷ Some 100 ∷ None ∷ Some 300 ∷ None ∷ []
packets_around_five = refl
