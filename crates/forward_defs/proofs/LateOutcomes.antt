-- Take a run whose departures all find a packet. If its events end at a late departure, it ends at
-- the first one. If no outcome is late, it is whole.
use Rattle.forward_defs.proofs.Prelude.{List, [], refl, ℕ, ◌∷◌, ◌≡◌, ap, ◌++◌, Bool, Option, false, if◌then◌else◌, sym, true, None, Some, subst, ◌∙◌, arith, true≢false, ◌+◌, append_assoc, ◌||◌, Packet, Policy, outcomes-append, empty_in-append, Event, Arrive, Depart, outcomes, Outcome, Arrived, Departed, Dropped, departure, Empty, after, empty_in, Captured, SourceState, Leaver, arrival_ranks, arrived, class_of, departed, is_full, leaver, Address, Keeping, keeps, kept_behind, up_to_late, has_late, is_late}
use Rattle.std.proofs.Math.Bool.{or_assoc}
use Rattle.forward_defs.proofs.LateEvents.{up_to_late-whole}

-- whether one of the departed packets was late
abbrev late_in : List Outcome → Bool
late_in [] = false
late_in (Departed p a ranks start ∷ os) = is_late start || late_in os
late_in (o ∷ os) = late_in os

or-false : (t : Bool) → (t || false) ≡ t
or-false true = refl
or-false false = refl

-- the flag kept after outcomes is set if it was set before or if one of them was late
late_behind : (captured : Captured) (k : Keeping) (os : List Outcome) → (kept_behind captured k os).late ≡ (k.late || late_in os)
late_behind captured k [] = sym (or-false k.late)
late_behind captured k (Arrived p a ranks ∷ os) = late_behind captured (keeps captured k (Arrived p a ranks)) os
late_behind captured k (Departed p a ranks start ∷ os) =
    late_behind captured (keeps captured k (Departed p a ranks start)) os ∙ or_assoc k.late (is_late start) (late_in os)
late_behind captured k (Dropped p a ∷ os) = late_behind captured k os
late_behind captured k (Empty ∷ os) = late_behind captured k os

-- ---- events
arrival_behind : (t : Bool) (p : Packet) (a : Address) (ranks : List ℕ) (os : List Outcome) (es : List Event)
    → (empty_in os ≡ 0 → late_in os ≡ has_late es) → empty_in ((if t then Dropped p a else Arrived p a ranks) ∷ os) ≡ 0
    → late_in ((if t then Dropped p a else Arrived p a ranks) ∷ os) ≡ has_late es
arrival_behind true p a ranks os es later none = later none
arrival_behind false p a ranks os es later none = later none

departure_behind : (o : Option Leaver) (start : Option ℕ) (os : List Outcome) (es : List Event)
    → (empty_in os ≡ 0 → late_in os ≡ has_late es) → empty_in (departure start o ∷ os) ≡ 0
    → late_in (departure start o ∷ os) ≡ (if is_late start then true else has_late es)
departure_behind None start os es later none = absurd (omega (arith, none))
departure_behind (Some l) start os es later none = by_test (is_late start)
  where
    by_test : (t : Bool) → (t || late_in os) ≡ (if t then true else has_late es)
    by_test true = refl
    by_test false = later none

-- if each departure finds a packet, a departed packet is late exactly if a departure is
late_events : (policy : Policy) (es : List Event) (s : SourceState) → empty_in (outcomes policy es s) ≡ 0 → late_in (outcomes policy es s) ≡ has_late es
late_events policy [] s none = refl
late_events policy (Arrive p ∷ es) s none =
    arrival_behind (is_full policy p s) p (class_of policy p).leaf (arrival_ranks policy p s) (outcomes policy es (arrived policy p s)) es (late_events policy es (arrived policy p s)) none
late_events policy (Depart start ∷ es) s none =
    departure_behind (leaver s) start (outcomes policy es (departed policy s)) es (late_events policy es (departed policy s)) none

-- a prefix of such a run is such a run
pub none_empty_in_front : (policy : Policy) (es fs : List Event) (s : SourceState) → empty_in (outcomes policy (es ++ fs) s) ≡ 0 → empty_in (outcomes policy es s) ≡ 0
none_empty_in_front policy es fs s none =
    let both : empty_in (outcomes policy (es ++ fs) s) ≡ empty_in (outcomes policy es s) + empty_in (outcomes policy fs (after policy es s)) =
    ap empty_in (outcomes-append policy es fs s) ∙ empty_in-append (outcomes policy es s) (outcomes policy fs (after policy es s)) in
    omega (arith, none, both)

-- ---- the first late departure
last_late : (last : Event) (others : List Event) → has_late (last ∷ []) ≡ true → up_to_late (last ∷ others) ≡ last ∷ []
last_late (Arrive p) others is = absurd (true≢false (sym is))
last_late (Depart start) others is = by_test (is_late start) is
  where
    by_test : (t : Bool) → (if t then true else false) ≡ true → Depart start ∷ (if t then [] else up_to_late others) ≡ Depart start ∷ []
    by_test true is = refl
    by_test false is = absurd (true≢false (sym is))

late_first : (t : Bool) (start : Option ℕ) (before : List Event) (last : Event) (others : List Event)
    → (has_late before ≡ false → has_late (before ++ last ∷ []) ≡ true → up_to_late (before ++ last ∷ others) ≡ before ++ last ∷ [])
    → (if t then true else has_late before) ≡ false → (if t then true else has_late (before ++ last ∷ [])) ≡ true
    → Depart start ∷ (if t then [] else up_to_late (before ++ last ∷ others)) ≡ Depart start ∷ (before ++ last ∷ [])
late_first true start before last others later none is = absurd (true≢false none)
late_first false start before last others later none is = ap (λ (l : List Event). Depart start ∷ l) (later none is)

ends_there : (before : List Event) (last : Event) (others : List Event) → has_late before ≡ false → has_late (before ++ last ∷ []) ≡ true → up_to_late (before ++ last ∷ others) ≡ before ++ last ∷ []
ends_there [] last others none is = last_late last others is
ends_there (Arrive p ∷ before) last others none is = ap (λ (l : List Event). Arrive p ∷ l) (ends_there before last others none is)
ends_there (Depart start ∷ before) last others none is = late_first (is_late start) start before last others (ends_there before last others) none is

module _ (policy : Policy) (captured : Captured) (k : Keeping) (s : SourceState) (on_time : k.late ≡ false) where
  -- the flag kept after their outcomes says whether a departure is late
  pub told_late : (es : List Event) (t : Bool) → empty_in (outcomes policy es s) ≡ 0 → (kept_behind captured k (outcomes policy es s)).late ≡ t → has_late es ≡ t
  told_late es t none is =
      sym (late_events policy es s none) ∙ sym (ap (λ (b : Bool). b || late_in (outcomes policy es s)) on_time)
      ∙ sym (late_behind captured k (outcomes policy es s)) ∙ is

  -- these are the events up to the first late departure
  pub stops_at_late : (all before : List Event) (last : Event) (others : List Event) → (before ++ last ∷ []) ++ others ≡ all → empty_in (outcomes policy all s) ≡ 0
      → (kept_behind captured k (outcomes policy before s)).late ≡ false → (kept_behind captured k (outcomes policy (before ++ last ∷ []) s)).late ≡ true
      → up_to_late all ≡ before ++ last ∷ []
  stops_at_late all before last others whole none early late =
      let none_all : empty_in (outcomes policy ((before ++ last ∷ []) ++ others) s) ≡ 0 = subst (λ (es : List Event). empty_in (outcomes policy es s) ≡ 0) (sym whole) none in
      let none_made : empty_in (outcomes policy (before ++ last ∷ []) s) ≡ 0 = none_empty_in_front policy (before ++ last ∷ []) others s none_all in
      let none_before : empty_in (outcomes policy before s) ≡ 0 = none_empty_in_front policy before (last ∷ []) s none_made in
      ap up_to_late (sym whole ∙ append_assoc before (last ∷ []) others)
      ∙ ends_there before last others (told_late before false none_before early) (told_late (before ++ last ∷ []) true none_made late)

  -- no departure is late, and all events are made
  pub none_is_late : (all : List Event) → empty_in (outcomes policy all s) ≡ 0 → (kept_behind captured k (outcomes policy all s)).late ≡ false → up_to_late all ≡ all
  none_is_late all none early = up_to_late-whole all (told_late all false none early)
