-- Events in a row, and their outcomes.
use Rattle.std.specs.Prelude.{◌≡◌, ◌≤◌, ℕ, ◌+◌, if◌then◌else◌, Option, None, Some, List, [], ◌∷◌}
use Rattle.tree_defs.specs.Tree.{Address}
use Rattle.rank_defs.specs.Programs.{max_rank}
use Rattle.packet_defs.specs.declared.packet.Packet.{Packet}
use Rattle.policy_defs.specs.Policy.{Policy}
use Rattle.sched_defs.specs.SourceState.{SourceState, Leaver, class_of, arrival_ranks, is_full, arrived, departed, leaver}
use Rattle.sched_defs.specs.Sound.{IsKnown}

-- An arrival or a departure. A departure on a link has the timestamp at which it starts, in
-- nanoseconds. Each event is atomic.
pub data Event : Type 0 where
  Arrive : Packet → Event
  Depart : Option ℕ → Event

-- A packet arrived at a leaf, with the ranks from the root down. Or a packet departed from a leaf,
-- with the ranks and the start of the departure. Or a packet was dropped at its leaf. Or there was
-- none to depart.
pub data Outcome : Type 0 where
  Arrived : Packet → Address → List ℕ → Outcome
  Departed : Packet → Address → List ℕ → Option ℕ → Outcome
  Dropped : Packet → Address → Outcome
  Empty : Outcome

abbrev pub step : Policy → Event → SourceState → SourceState
step policy (Arrive p) s = arrived policy p s
step policy (Depart start) s = departed policy s

-- the state after all of these events
abbrev pub after : Policy → List Event → SourceState → SourceState
after policy [] s = s
after policy (e ∷ es) s = after policy es (step policy e s)

abbrev pub departure : Option ℕ → Option Leaver → Outcome
departure start None = Empty
departure start (Some l) = Departed l.packet l.digits l.ranks start

abbrev pub outcome : Policy → Event → SourceState → Outcome
outcome policy (Arrive p) s =
    if is_full policy p s then Dropped p (class_of policy p).leaf else Arrived p (class_of policy p).leaf (arrival_ranks policy p s)
outcome policy (Depart start) s = departure start (leaver s)

abbrev pub outcomes : Policy → List Event → SourceState → List Outcome
outcomes policy [] s = []
outcomes policy (e ∷ es) s = outcome policy e s ∷ outcomes policy es (step policy e s)

-- the number of packets that arrived at their leaves, of packets that departed, of packets dropped,
-- and of departures that found nothing
abbrev pub pushed_in : List Outcome → ℕ
pushed_in [] = 0
pushed_in (Arrived p a ranks ∷ os) = 1 + pushed_in os
pushed_in (o ∷ os) = pushed_in os

abbrev pub popped_in : List Outcome → ℕ
popped_in [] = 0
popped_in (Departed p a ranks start ∷ os) = 1 + popped_in os
popped_in (o ∷ os) = popped_in os

abbrev pub dropped_in : List Outcome → ℕ
dropped_in [] = 0
dropped_in (Dropped p a ∷ os) = 1 + dropped_in os
dropped_in (o ∷ os) = dropped_in os

abbrev pub empty_in : List Outcome → ℕ
empty_in [] = 0
empty_in (Empty ∷ os) = 1 + empty_in os
empty_in (o ∷ os) = empty_in os

-- the departures asked for, including those that found nothing
abbrev pub asked_in : List Outcome → ℕ
asked_in os = popped_in os + empty_in os

-- a packet that may arrive: it isn't queued, and its class, length and timestamp (`moment`) are in
-- range
pub record CanArrive (policy : Policy) (s : SourceState) (p : Packet) : Type 0 where
  pub fresh : s.held p.number ≡ None
  pub known : IsKnown policy p
  pub moment : p.moment ≤ max_rank

-- each arrival is of a packet that may arrive
abbrev pub CanMake : Policy → List Event → SourceState → Type 0
CanMake policy [] s = Unit {0}
CanMake policy (Arrive p ∷ es) s = CanArrive policy s p × CanMake policy es (arrived policy p s)
CanMake policy (Depart start ∷ es) s = CanMake policy es (departed policy s)
