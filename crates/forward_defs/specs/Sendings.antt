-- The departures that a capture can record: each with the timestamp at which it starts, as long as
-- 32 bits count its seconds.
use Rattle.std.specs.Prelude.{◌≡◌, ℕ, ◌*◌, ◌^◌, Bool, true, false, not, nat_lt, if◌then◌else◌, Option, None, Some, List, [], ◌∷◌, ◌++◌, map, refl}
use Rattle.packet_defs.specs.declared.packet.Packet.{Packet}
use Rattle.sched_defs.specs.Events.{Event, Arrive, Depart, Outcome, Departed}

-- a departing packet, and the timestamp in nanoseconds at which it starts
pub record Sending : Type 0 where
  pub start : ℕ
  pub packet : Packet

-- the first timestamp in nanoseconds whose seconds need more than 32 bits
abbrev pub late : ℕ
late = 2 ^ 32 * 10 ^ 9

-- whether a departure starts at this timestamp or later
abbrev pub is_late : Option ℕ → Bool
is_late None = false
is_late (Some start) = not (nat_lt start late)

-- a departure with a start that isn't late
abbrev pub sending_at : Option ℕ → Packet → List Sending
sending_at None p = []
sending_at (Some start) p = if nat_lt start late then record { start = start; packet = p } ∷ [] else []

-- the departures among outcomes that have such a start, in order
abbrev pub sendings : List Outcome → List Sending
sendings [] = []
sendings (Departed p a ranks start ∷ os) = sending_at start p ++ sendings os
sendings (o ∷ os) = sendings os

-- the events of a run that ends with its first late departure
abbrev pub up_to_late : List Event → List Event
up_to_late [] = []
up_to_late (Arrive p ∷ es) = Arrive p ∷ up_to_late es
up_to_late (Depart start ∷ es) = Depart start ∷ (if is_late start then [] else up_to_late es)

-- whether one of the departures is late
abbrev pub has_late : List Event → Bool
has_late [] = false
has_late (Arrive p ∷ es) = has_late es
has_late (Depart start ∷ es) = if is_late start then true else has_late es

is_late-last_on_time : is_late (Some 4294967295999999999) ≡ false
is_late-last_on_time = refl

is_late-first : is_late (Some 4294967296000000000) ≡ true
is_late-first = refl

-- the run ends with the second departure; no event follows it
up_to_late-second : up_to_late (Depart (Some 5) ∷ Depart (Some 4294967296000000000) ∷ Depart (Some 4294967297000000000) ∷ [])
    ≡ Depart (Some 5) ∷ Depart (Some 4294967296000000000) ∷ []
up_to_late-second = refl

up_to_late-none : up_to_late (Depart (Some 5) ∷ Depart (Some 6) ∷ []) ≡ Depart (Some 5) ∷ Depart (Some 6) ∷ []
up_to_late-none = refl

is_late-without_a_start : is_late None ≡ false
is_late-without_a_start = refl

-- a late departure counts wherever it is, and arrivals never do
has_late-second : map has_late ((Depart (Some 5) ∷ Depart (Some 4294967296000000000) ∷ []) ∷ (Depart (Some 4294967296000000000) ∷ Depart (Some 5) ∷ []) ∷ (Depart None ∷ Depart (Some 5) ∷ []) ∷ [] ∷ [])
    ≡ true ∷ true ∷ false ∷ false ∷ []
has_late-second = refl
