-- The records of outcomes, written one by one. The captured bytes of a packet are kept until it
-- departs.
use Rattle.std.specs.Prelude.{◌≡◌, refl, ℕ, ◌/◌, ◌%◌, ◌^◌, ◌==◌, nat_lt, Bool, true, false, ◌||◌, if◌then◌else◌, Option, None, Some, List, [], ◌∷◌, ◌++◌}
use Rattle.pcap_core.specs.Bytes.{header_bytes, record_bytes}
use Rattle.policy_defs.specs.Policy.{Policy}
use Rattle.policy_defs.specs.Accepted.{IsAccepted}
use Rattle.sched_defs.specs.SourceState.{start}
use Rattle.sched_defs.specs.Events.{Event, Outcome, Arrived, Departed, Dropped, Empty, outcomes, CanMake}
use Rattle.sched_defs.specs.Packets.{Captured}
use Rattle.forward_defs.specs.Sendings.{late, is_late}
use Rattle.forward_defs.specs.Forwarded.{packet_of, two_captured, forward_bytes}

-- the captured bytes kept, by packet number, and whether a departure was late
pub record Keeping : Type 0 where
  pub kept : ℕ → Option (List ℕ)
  pub late : Bool

abbrev pub keeps_nothing : Keeping
keeps_nothing = record { kept = λ _. None; late = false }

abbrev pub with_bytes : (ℕ → Option (List ℕ)) → ℕ → List ℕ → ℕ → Option (List ℕ)
with_bytes kept m bytes n = if n == m then Some bytes else kept n

abbrev pub without_bytes : (ℕ → Option (List ℕ)) → ℕ → ℕ → Option (List ℕ)
without_bytes kept m n = if n == m then None else kept n

-- the captured bytes and the flag kept after an outcome
abbrev pub keeps : Captured → Keeping → Outcome → Keeping
keeps captured k (Arrived p a ranks) = record { kept = with_bytes k.kept p.number (captured p.number); late = k.late }
keeps captured k (Departed p a ranks start) = record { kept = without_bytes k.kept p.number; late = k.late || is_late start }
keeps captured k (Dropped p a) = k
keeps captured k Empty = k

-- the record of a departure that isn't late, if the captured bytes of its packet are kept
abbrev pub record_for : Option ℕ → ℕ → Option (List ℕ) → List ℕ
record_for (Some start) len (Some bytes) = if nat_lt start late then record_bytes (start / 10 ^ 9) (start % 10 ^ 9) len bytes else []
record_for start len bytes = []

abbrev pub record_of : Keeping → Outcome → List ℕ
record_of k (Departed p a ranks start) = record_for start p.len (k.kept p.number)
record_of k o = []

-- after all outcomes, and the records of all of them
abbrev pub kept_behind : Captured → Keeping → List Outcome → Keeping
kept_behind captured k [] = k
kept_behind captured k (o ∷ os) = kept_behind captured (keeps captured k o) os

abbrev pub records_of : Captured → Keeping → List Outcome → List ℕ
records_of captured k [] = []
records_of captured k (o ∷ os) = record_of k o ++ records_of captured (keeps captured k o) os

-- two packets arrive and one departs late: the other's bytes are kept
abbrev two_came : List Outcome
two_came = Arrived (packet_of 1) [] (0 ∷ []) ∷ Arrived (packet_of 2) [] (0 ∷ []) ∷ Departed (packet_of 1) [] (0 ∷ []) (Some 4294967296000000000) ∷ []

kept_behind-first : (kept_behind two_captured keeps_nothing two_came).kept 1 ≡ None
kept_behind-first = refl

kept_behind-second : (kept_behind two_captured keeps_nothing two_came).kept 2 ≡ Some (0 ∷ 0 ∷ 0 ∷ 2 ∷ [])
kept_behind-second = refl

kept_behind-late : (kept_behind two_captured keeps_nothing two_came).late ≡ true
kept_behind-late = refl

records_of-late : records_of two_captured keeps_nothing two_came ≡ []
records_of-late = refl

-- on time, the departure alone gives a record, with the bytes that were kept
abbrev one_leaves : List Outcome
one_leaves = Arrived (packet_of 1) [] (0 ∷ []) ∷ Arrived (packet_of 2) [] (0 ∷ []) ∷ Dropped (packet_of 3) [] ∷ Departed (packet_of 2) [] (0 ∷ []) (Some 1000001000) ∷ Empty ∷ []

records_of-one : records_of two_captured keeps_nothing one_leaves ≡ record_bytes 1 1000 4 (0 ∷ 0 ∷ 0 ∷ 2 ∷ [])
records_of-one = refl

kept_behind-dropped : (kept_behind two_captured keeps_nothing one_leaves).kept 3 ≡ None
kept_behind-dropped = refl

kept_behind-on_time : (kept_behind two_captured keeps_nothing one_leaves).late ≡ false
kept_behind-on_time = refl

-- without kept bytes, or without a start, there is no record
record_for-none : record_for (Some 5) 4 None ++ record_for None 4 (Some (7 ∷ [])) ≡ []
record_for-none = refl

-- for events from the start, the records written one by one are the bytes forwarded from all
-- outcomes
abbrev pub RecordsAreForwarded : Type 0
RecordsAreForwarded =
    (policy : Policy) (link : ℕ) (captured : Captured) (events : List Event) → IsAccepted policy → CanMake policy events (start policy)
    → header_bytes link ++ records_of captured keeps_nothing (outcomes policy events (start policy)) ≡ forward_bytes link captured (outcomes policy events (start policy))
