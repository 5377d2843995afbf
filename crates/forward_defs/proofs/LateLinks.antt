-- The run of a link ends at its first late departure if its events end there. It is whole if no
-- outcome is late.
use Rattle.forward_defs.proofs.Prelude.{List, [], refl, ℕ, ◌∷◌, ◌≡◌, ap, ◌++◌, Bool, Option, false, if◌then◌else◌, sym, true, None, Some, subst, ◌∙◌, arith, true≢false, length, ◌≤◌, Packet, FaultAt, Policy, outcomes-append, empty_in-append, Event, Arrive, Depart, outcomes, empty_in, link_course, Sent, link_turn, Captured, SourceState, size, Keeping, kept_behind, up_to_late, has_late, is_late}
use Rattle.sched_defs.specs.declared.rate.LinkRate.{LinkRate}
use Rattle.sched_defs.proofs.Links.{sending, turn_leads, turn_empty}
use Rattle.forward_defs.proofs.LateOutcomes.{none_empty_in_front, told_late, stops_at_late, none_is_late}

-- each departure on a link finds a packet
pub link_finds : (policy : Policy) (rate : LinkRate) (packets : List Packet) (fault : Option FaultAt) (s : SourceState) (free : ℕ) → empty_in (outcomes policy (link_course policy rate packets fault s free).events s) ≡ 0
link_finds policy rate [] None s free = (sending policy rate None (size s.tree) s free).empty
link_finds policy rate [] (Some fault) s free = refl
link_finds policy rate (p ∷ packets) fault s free =
    let now : Sent = link_turn policy rate p s free in
    let more : List Event = (link_course policy rate packets fault now.state now.free).events in
    let all : outcomes policy (now.events ++ more) s ≡ outcomes policy now.events s ++ outcomes policy more now.state =
    outcomes-append policy now.events more s ∙ ap (λ (z : SourceState). outcomes policy now.events s ++ outcomes policy more z) (turn_leads policy rate p s free) in
    omega (arith, ap empty_in all, empty_in-append (outcomes policy now.events s) (outcomes policy more now.state), turn_empty policy rate p s free, link_finds policy rate packets fault now.state now.free)

-- events have a late departure if a prefix of them has one
has_late-front : (es fs : List Event) → has_late es ≡ true → has_late (es ++ fs) ≡ true
has_late-front [] fs is = cc
has_late-front (Arrive p ∷ es) fs is = has_late-front es fs is
has_late-front (Depart start ∷ es) fs is = late_behind (is_late start) is (has_late-front es fs)
  where
    late_behind : (t : Bool) → (if t then true else has_late es) ≡ true → (has_late es ≡ true → has_late (es ++ fs) ≡ true) → (if t then true else has_late (es ++ fs)) ≡ true
    late_behind true is later = refl
    late_behind false is later = later is

-- ---- a prefix of a run's events
-- after events that aren't late, one more event is still among those up to the first late
-- departure
one_more : (last others : List Event) → length last ≤ 1 → (more : List Event) × (last ++ more ≡ up_to_late (last ++ others))
one_more [] others few = (up_to_late others, refl)
one_more (Arrive p ∷ []) others few = (up_to_late others, refl)
one_more (Depart start ∷ []) others few = ((if is_late start then [] else up_to_late others), refl)
one_more (e ∷ f ∷ last) others few = absurd (omega (arith, few))

behind_early : (t : Bool) (start : Option ℕ) (before last : List Event) (all : List Event) → (if t then true else has_late before) ≡ false
    → (has_late before ≡ false → (more : List Event) × ((before ++ last) ++ more ≡ up_to_late all))
    → (more : List Event) × (Depart start ∷ ((before ++ last) ++ more) ≡ Depart start ∷ (if t then [] else up_to_late all))
behind_early true start before last all none later = absurd (true≢false none)
behind_early false start before last all none later = let rest = later none in (rest.0, ap (λ (es : List Event). Depart start ∷ es) rest.1)

pub first_early : (before last others : List Event) → has_late before ≡ false → length last ≤ 1 → (more : List Event) × ((before ++ last) ++ more ≡ up_to_late ((before ++ last) ++ others))
first_early [] last others none few = one_more last others few
first_early (Arrive p ∷ before) last others none few =
    let rest = first_early before last others none few in
    (rest.0, ap (λ (es : List Event). Arrive p ∷ es) rest.1)
first_early (Depart start ∷ before) last others none few =
    behind_early (is_late start) start before last ((before ++ last) ++ others) none (λ early. first_early before last others early few)

module _ (policy : Policy) (rate : LinkRate) (packets : List Packet) (fault : Option FaultAt) (s : SourceState) (free : ℕ) (captured : Captured) (k : Keeping) (on_time : k.late ≡ false) where
  abbrev all : List Event
  all = (link_course policy rate packets fault s free).events

  -- if the last of the events made is late, they are the events up to the first late departure
  pub ends_late : (events before : List Event) (last : Event) → (others : List Event) × (events ++ others ≡ all) → before ++ last ∷ [] ≡ events
      → (kept_behind captured k (outcomes policy before s)).late ≡ false → (kept_behind captured k (outcomes policy events s)).late ≡ true
      → (up_to_late all ≡ events) × (has_late all ≡ true)
  ends_late events before last first are early late =
      let found : empty_in (outcomes policy all s) ≡ 0 = link_finds policy rate packets fault s free in
      let whole : (before ++ last ∷ []) ++ first.0 ≡ all = ap (λ (es : List Event). es ++ first.0) are ∙ first.1 in
      let late_made : (kept_behind captured k (outcomes policy (before ++ last ∷ []) s)).late ≡ true = subst (λ (es : List Event). (kept_behind captured k (outcomes policy es s)).late ≡ true) (sym are) late in
      let found_first : empty_in (outcomes policy events s) ≡ 0 = none_empty_in_front policy events first.0 s (subst (λ (es : List Event). empty_in (outcomes policy es s) ≡ 0) (sym first.1) found) in (
        stops_at_late policy captured k s on_time all before last first.0 whole found early late_made ∙ are,
        ap has_late (sym first.1) ∙ has_late-front events first.0 (told_late policy captured k s on_time events true found_first late),
      )

  -- if no packet departed late, all events were made
  pub ends_whole : (events : List Event) → events ≡ all → (kept_behind captured k (outcomes policy events s)).late ≡ false → (up_to_late all ≡ all) × (has_late all ≡ false)
  ends_whole events are early =
      let found : empty_in (outcomes policy all s) ≡ 0 = link_finds policy rate packets fault s free in
      let early_all : (kept_behind captured k (outcomes policy all s)).late ≡ false = subst (λ (es : List Event). (kept_behind captured k (outcomes policy es s)).late ≡ false) are early in
      (none_is_late policy captured k s on_time all found early_all, told_late policy captured k s on_time all false found early_all)

  -- if no departure before the last event was late, the events are a prefix of those up to the
  -- first late departure
  pub ends_early : (events before last : List Event) → (others : List Event) × (events ++ others ≡ all) → before ++ last ≡ events → length last ≤ 1
      → (kept_behind captured k (outcomes policy before s)).late ≡ false → (more : List Event) × (events ++ more ≡ up_to_late all)
  ends_early events before last first are few early =
      let found : empty_in (outcomes policy all s) ≡ 0 = link_finds policy rate packets fault s free in
      let whole : (before ++ last) ++ first.0 ≡ all = ap (λ (es : List Event). es ++ first.0) are ∙ first.1 in
      let found_first : empty_in (outcomes policy (before ++ last) s) ≡ 0 = none_empty_in_front policy (before ++ last) first.0 s (subst (λ (es : List Event). empty_in (outcomes policy es s) ≡ 0) (sym whole) found) in
      let found_before : empty_in (outcomes policy before s) ≡ 0 = none_empty_in_front policy before last s found_first in
      let rest = first_early before last first.0 (told_late policy captured k s on_time before false found_before early) few in
      (rest.0, ap (λ (es : List Event). es ++ rest.0) (sym are) ∙ rest.1 ∙ ap up_to_late whole)
