-- Consecutive events, joined, with their records.
use Rattle.sched_run.proofs.Prelude.{ℕ, arith, None, ◌∙◌, ◌≡◌, refl, sym, List, subst, [], ◌+◌, ap, Some, Option, ◌++◌, ◌∷◌, length, append-nil, append_assoc, suc, Ok, Packet, Policy, arrival_of, pushes_of, Arrival, Ghosts, outcomes-append, after-append, departures_count, Depart, Event, outcomes, after, Outcome, step, SourceState, departed, arrived, Address, Tree, StopsIn, HasMade, Plays, HasMadeSome, Recordings, AreJoined}
use Rattle.sched_defs.specs.Events.{Arrive}
use Rattle.sched_core.specs.Origins.{Origin, images_of}
use Rattle.sched_core.specs.Spills.{raised, arrival_spills, spills_in}
use Rattle.sched_run.proofs.EventCounts.{outcomes_of, pushes_are, outcomes_both}

pub length-outcomes : (policy : Policy) (es : List Event) (s : SourceState) → length (outcomes policy es s) ≡ length es
length-outcomes policy [] s = refl
length-outcomes policy (e ∷ es) s = ap (λ n. suc n) (length-outcomes policy es (step policy e s))

-- ---- spills
pub raised_nothing : (told : Option ℕ) → raised told 0 ≡ told
raised_nothing None = refl
raised_nothing (Some n) = let e : n + 0 ≡ n = omega arith in ap (λ (m : ℕ). Some m) e

raised_both : (told : Option ℕ) (a b : ℕ) → raised (raised told a) b ≡ raised told (a + b)
raised_both None a b = refl
raised_both (Some n) a b = let e : (n + a) + b ≡ n + (a + b) = omega arith in ap (λ (m : ℕ). Some m) e

pub spills_in-append : (images : Option (Tree Address)) (policy : Policy) (es fs : List Event) (s : SourceState) →
    spills_in images policy (es ++ fs) s ≡ spills_in images policy es s + spills_in images policy fs (after policy es s)
spills_in-append images policy [] fs s = omega arith
spills_in-append images policy (Arrive p ∷ es) fs s = omega (arith, spills_in-append images policy es fs (arrived policy p s))
spills_in-append images policy (Depart start ∷ es) fs s = spills_in-append images policy es fs (departed policy s)

-- ---- the events made
module _ {C U : Type 0} (S : Ghosts C U) (policy : Policy) where
  pub made_none : (s : SourceState) (c : C) (u : U) → S.stands c u s → HasMade S policy [] s c u c u
  made_none s c u stood = record { state = stood; pushed = omega arith; asked = omega arith; origin = refl; spilled = sym (raised_nothing (S.spilled c u)) }

  pub made_both : (es fs : List Event) (s : SourceState) (c : C) (u : U) (c' : C) (u' : U) (c'' : C) (u'' : U) →
      HasMade S policy es s c u c' u' → HasMade S policy fs (after policy es s) c' u' c'' u'' → HasMade S policy (es ++ fs) s c u c'' u''
  made_both es fs s c u c' u' c'' u'' first second =
      let more : ℕ = spills_in (images_of (S.origin c)) policy fs (after policy es s) in
      let counts = outcomes_both policy es fs s in
      record {
        state = rw (after-append policy es fs s) second.state;
        pushed = omega (arith, first.pushed, second.pushed, counts.pushed);
        asked = omega (arith, first.asked, second.asked, counts.asked);
        origin = second.origin ∙ first.origin;
        spilled = second.spilled
            ∙ ap (λ (o : Option Origin). raised (S.spilled c' u') (spills_in (images_of o) policy fs (after policy es s))) first.origin
            ∙ ap (λ (t : Option ℕ). raised t more) first.spilled
            ∙ raised_both (S.spilled c u) (spills_in (images_of (S.origin c)) policy es s) more
            ∙ ap (raised (S.spilled c u)) (sym (spills_in-append (images_of (S.origin c)) policy es fs s));
      }

  pub made_departure : (start : Option ℕ) {s : SourceState} {c : C} {u : U} {c' : C} {u' : U} →
      S.stands c' u' (departed policy s) → S.pushes c' ≡ S.pushes c → S.departures c' ≡ S.departures c + 1 → S.origin c' ≡ S.origin c → S.spilled c' u' ≡ S.spilled c u →
      HasMade S policy (Depart start ∷ []) s c u c' u'
  made_departure start {s = s} {c = c} {u = u} state pushes departures origin spilled =
      let counts = departures_count policy 1 start s in
      record {
        state = state;
        pushed = omega (arith, pushes, counts.pushed);
        asked = omega (arith, departures, counts.asked);
        origin = origin;
        spilled = spilled ∙ sym (raised_nothing (S.spilled c u));
      }

  pub made_arrival : {p : Packet} {s : SourceState} {c : C} {u : U} {c' : C} {u' : U} (a : Arrival) → a ≡ arrival_of policy p s →
      S.stands c' u' (arrived policy p s) → S.pushes c' ≡ S.pushes c + pushes_of (Ok a) → S.departures c' ≡ S.departures c → S.origin c' ≡ S.origin c →
      S.spilled c' u' ≡ raised (S.spilled c u) (arrival_spills (images_of (S.origin c)) policy p s) → HasMade S policy (Arrive p ∷ []) s c u c' u'
  made_arrival {p = p} {s = s} {c = c} {u = u} a answer state pushes departures origin spilled =
      let n : ℕ = arrival_spills (images_of (S.origin c)) policy p s in
      record {
        state = state;
        pushed = omega (arith, pushes, pushes_are policy p s a answer);
        asked = omega (arith, departures, (outcomes_of policy (Arrive p ∷ []) s).asked);
        origin = origin;
        spilled = spilled ∙ ap (raised (S.spilled c u)) (omega arith);
      }

  -- all of them were made
  pub made_all : (es : List Event) {s : SourceState} {c : C} {u : U} {c' : C} {u' : U} → HasMade S policy es s c u c' u' → HasMadeSome S policy es s c u c' u'
  made_all es leaves = record { made = es; unmade = []; whole = append-nil es; leaves = leaves }

  -- none of them was made
  pub made_some_none : (es : List Event) (s : SourceState) {c : C} {u : U} {c' : C} {u' : U} → S.stands c' u' s → S.pushes c' ≡ S.pushes c → S.departures c' ≡ S.departures c →
      S.origin c' ≡ S.origin c → S.spilled c' u' ≡ S.spilled c u → HasMadeSome S policy es s c u c' u'
  made_some_none es s {c = c} {u = u} stood pushes departures origin spilled = record {
    made = [];
    unmade = es;
    whole = refl;
    leaves = record { state = stood; pushed = omega (arith, pushes); asked = omega (arith, departures); origin = origin; spilled = spilled ∙ sym (raised_nothing (S.spilled c u)) };
  }

  made_first : (es fs : List Event) (s : SourceState) (c : C) (u : U) (c' : C) (u' : U) → HasMadeSome S policy es s c u c' u' → HasMadeSome S policy (es ++ fs) s c u c' u'
  made_first es fs s c u c' u' some = record {
    made = some.made;
    unmade = some.unmade ++ fs;
    whole = sym (append_assoc some.made some.unmade fs) ∙ ap (λ l. l ++ fs) some.whole;
    leaves = some.leaves;
  }

  made_second : (es fs : List Event) (s : SourceState) (c : C) (u : U) (c' : C) (u' : U) (c'' : C) (u'' : U) →
      HasMade S policy es s c u c' u' → HasMadeSome S policy fs (after policy es s) c' u' c'' u'' → HasMadeSome S policy (es ++ fs) s c u c'' u''
  made_second es fs s c u c' u' c'' u'' first some = record {
    made = es ++ some.made;
    unmade = some.unmade;
    whole = append_assoc es some.made some.unmade ∙ ap (λ l. es ++ l) some.whole;
    leaves = made_both es some.made s c u c' u' c'' u'' first some.leaves;
  }

-- ---- with their records
module _ {C U W : Type 0} (S : Ghosts C U) (R : Recordings W) (laws : AreJoined R.records R.cuts) (policy : Policy) where
  -- the outcomes of events, and then of some more
  all_outcomes : (es fs : List Event) (s : SourceState) → outcomes policy es s ++ outcomes policy fs (after policy es s) ≡ outcomes policy (es ++ fs) s
  all_outcomes es fs s = sym (outcomes-append policy es fs s)

  numbered : (event : ℕ) (es : List Event) (s : SourceState) → event + length es ≡ event + length (outcomes policy es s)
  numbered event es s = ap (λ (n : ℕ). event + n) (sym (length-outcomes policy es s))

  pub plays_both : (event : ℕ) (es fs : List Event) (s : SourceState) (c : C) (u : U) (c' : C) (u' : U) (c'' : C) (u'' : U) (w w' w'' : W) (a a' a'' : Option (List ℕ)) →
      Plays S R policy event es s c u w a c' u' w' a' → Plays S R policy (event + length es) fs (after policy es s) c' u' w' a' c'' u'' w'' a'' →
      Plays S R policy event (es ++ fs) s c u w a c'' u'' w'' a''
  plays_both event es fs s c u c' u' c'' u'' w w' w'' a a' a'' first second =
      let then = subst (λ (n : ℕ). R.records w' a' policy n (outcomes policy fs (after policy es s)) w'' a'') (numbered event es s) second.recorded in
      record {
        leaves = made_both S policy es fs s c u c' u' c'' u'' first.leaves second.leaves;
        recorded = subst (λ (os : List Outcome). R.records w a policy event os w'' a'') (all_outcomes es fs s)
            (laws.both policy event (outcomes policy es s) (outcomes policy fs (after policy es s)) w w' w'' a a' a'' first.recorded then);
      }

  pub stops_first : (event : ℕ) (es fs : List Event) (s : SourceState) (c : C) (u : U) (c' : C) (u' : U) (w : W) (a written : Option (List ℕ)) →
      StopsIn S R policy event es s c u w a c' u' written → StopsIn S R policy event (es ++ fs) s c u w a c' u' written
  stops_first event es fs s c u c' u' w a written stop = record {
    leaves = made_first S policy es fs s c u c' u' stop.leaves;
    cut = subst (λ (os : List Outcome). R.cuts w a policy event os written) (all_outcomes es fs s)
        (laws.longer policy event (outcomes policy es s) (outcomes policy fs (after policy es s)) w a written stop.cut);
  }

  pub stops_second : (event : ℕ) (es fs : List Event) (s : SourceState) (c : C) (u : U) (c' : C) (u' : U) (c'' : C) (u'' : U) (w w' : W) (a a' written : Option (List ℕ)) →
      Plays S R policy event es s c u w a c' u' w' a' → StopsIn S R policy (event + length es) fs (after policy es s) c' u' w' a' c'' u'' written →
      StopsIn S R policy event (es ++ fs) s c u w a c'' u'' written
  stops_second event es fs s c u c' u' c'' u'' w w' a a' written first stop =
      let then = subst (λ (n : ℕ). R.cuts w' a' policy n (outcomes policy fs (after policy es s)) written) (numbered event es s) stop.cut in
      record {
        leaves = made_second S policy es fs s c u c' u' c'' u'' first.leaves stop.leaves;
        cut = subst (λ (os : List Outcome). R.cuts w a policy event os written) (all_outcomes es fs s)
            (laws.later policy event (outcomes policy es s) (outcomes policy fs (after policy es s)) w w' a a' written first.recorded then);
      }

  -- none of them was made, and nothing was recorded
  pub cut_none : (event : ℕ) (es : List Event) (s : SourceState) (w : W) (a : Option (List ℕ)) → R.cuts w a policy event (outcomes policy es s) a
  cut_none event es s w a = laws.longer policy event [] (outcomes policy es s) w a a (laws.written policy event [] w w a a (laws.none policy event w a))
