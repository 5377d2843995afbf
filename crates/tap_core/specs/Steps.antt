-- The state of a tap of each kind, and how a departure and a drop change it.
use Rattle.std.specs.Prelude.{ℕ, ◌+◌, min, Bool, false, nat_lt, nat_le, if◌then◌else◌, List, [], ◌∷◌, ◌++◌, length}
use Rattle.rank_defs.specs.Programs.{max_rank}
use Rattle.packet_defs.specs.declared.packet.Departed.{Departed}
use Rattle.tap_core.specs.declared.kinds.TapKind.{TapKind}
use Rattle.tap_core.specs.declared.kinds.TapKind.TheVariants.{Bytes, Order, First, Drops}
use Rattle.tap_core.specs.declared.kinds.Dropped.{Dropped}

-- the greatest number of packet numbers that a tap of the kind `First` stores
abbrev pub max_limit : ℕ
max_limit = 64

-- a sum, or the greatest rank if the sum is greater
abbrev pub sum_up_to_max : ℕ → ℕ → ℕ
sum_up_to_max a b = min (a + b) max_rank

-- a count of packets and of their bytes, with one more packet of this length
abbrev pub counted : ℕ → List ℕ → List ℕ
counted len (packets ∷ bytes ∷ []) = sum_up_to_max packets 1 ∷ sum_up_to_max bytes len ∷ []
counted len state = state

-- the greatest packet number that departed, and how many packets departed after one with the same
-- or a greater number, with one more packet
abbrev pub put_in_order : ℕ → List ℕ → List ℕ
put_in_order packet (greatest ∷ late ∷ []) =
    if nat_lt greatest packet then packet ∷ late ∷ [] else greatest ∷ sum_up_to_max late 1 ∷ []
put_in_order packet state = state

-- the numbers of the first packets to depart, with one more if there are fewer than the limit
abbrev pub kept_first : ℕ → ℕ → List ℕ → List ℕ
kept_first limit packet state = if nat_lt (length state) limit then state ++ packet ∷ [] else state

-- the state of a tap that observed no event
abbrev pub first_state : TapKind → List ℕ
first_state Bytes = 0 ∷ 0 ∷ []
first_state Order = 0 ∷ 0 ∷ []
first_state (First limit) = []
first_state Drops = 0 ∷ 0 ∷ []

-- the state after a packet departed
abbrev pub departure_step : TapKind → Departed → List ℕ → List ℕ
departure_step Bytes d state = counted d.len state
departure_step Order d state = put_in_order d.packet state
departure_step (First limit) d state = kept_first limit d.packet state
departure_step Drops d state = state

-- the state after a packet was dropped
abbrev pub drop_step : TapKind → Dropped → List ℕ → List ℕ
drop_step Bytes d state = state
drop_step Order d state = state
drop_step (First limit) d state = state
drop_step Drops d state = counted d.len state

-- whether a tap in this state needs no more departures: only a tap of the kind `First`, once it has
-- as many numbers as its limit
abbrev pub is_full : TapKind → List ℕ → Bool
is_full Bytes state = false
is_full Order state = false
is_full (First limit) state = nat_le limit (length state)
is_full Drops state = false
