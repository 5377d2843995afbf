-- Consecutive events of a run.
use Rattle.sched_run.proofs.Prelude.{ℕ, arith, None, ◌∙◌, ◌≡◌, refl, sym, List, subst, [], ◌+◌, ap, Option, ◌++◌, ◌∷◌, length, replicate, ◌<◌, Bool, append_assoc, ◌-◌, suc, zero, replicate-append-replicate, sum_by, Packet, IsAccepted, Policy, Ghosts, held_none, held_arrived, held_departed, sound_after, Depart, Event, outcomes, after, CanArrive, CanMake, IsHeldBelow, IsSendable, AreNumberedFrom, IsSound, SourceState, departed, arrived, Held, shows_none, Sight, StopsIn, Plays, Recordings, AreJoined, Makes, Stage, event_of, arrivals_in, Stops, FromEach, stage, AreNext, departures_in, packets_in, MakesLast, StopsLast}
use Rattle.std.specs.List.{AllByRecursion}
use Rattle.std.proofs.lemmas.Grind.{replicate_next}
use Rattle.std.proofs.lemmas.List.Sums.{get_or-le-sum_by}
use Rattle.tree_defs.specs.Packets.{values}
use Rattle.sched_defs.specs.Events.{Arrive}
use Rattle.sched_run.proofs.JoinedEvents.{made_none, made_all, plays_both, stops_first, stops_second}
use Rattle.sched_run.proofs.ShownLaws.{shown_both}
use Rattle.sched_run.proofs.EventCounts.{arrivals_in-append, departures_in-append, arrivals_in-departures, outcomes_both}

-- ---- packets and their numbers
pub held_more : (n : ℕ) (held : Held) → IsHeldBelow n held → IsHeldBelow (n + 1) held
held_more n held below m p e = let l = below m p e in omega arith

-- the numbers of the queued packets have a bound
pub held_bounded : (policy : Policy) (s : SourceState) → IsSound policy s → (n : ℕ) × IsHeldBelow (n + 1) s.held
held_bounded policy s sound =
    (sum_by (λ (m : ℕ). m) (values s.tree), λ m p e. let at = sound.stands m p e in omega (arith, get_or-le-sum_by (λ (m : ℕ). m) (values s.tree) at.0 m at.1, at.2))

-- the next packet can arrive
pub can_arrive : (policy : Policy) (s : SourceState) (p : Packet) (given : ℕ) → p.number ≡ given + 1 → IsSendable policy p → IsHeldBelow (given + 1) s.held → CanArrive policy s p
can_arrive policy s p given number sendable below = record { fresh = ap s.held number ∙ held_none s.held (given + 1) below; known = sendable.known; moment = sendable.moment }

-- events whose packets are the next ones can be made
pub can_make : (policy : Policy) (es : List Event) (n : ℕ) (s : SourceState) → AreNumberedFrom n (packets_in es) → AllByRecursion (IsSendable policy) (packets_in es) → IsHeldBelow n s.held → CanMake policy es s
can_make policy [] n s numbered sendable below = tt
can_make policy (Arrive p ∷ es) n s numbered sendable below = (
  record { fresh = ap s.held numbered.0 ∙ held_none s.held n below; known = sendable.0.known; moment = sendable.0.moment },
  can_make policy es (n + 1) (arrived policy p s) numbered.1 sendable.1 (held_arrived policy p s n numbered.0 below),
)
can_make policy (Depart start ∷ es) n s numbered sendable below = can_make policy es n (departed policy s) numbered sendable (held_departed policy s n below)

-- and no later packet is queued after them
pub held_after : (policy : Policy) (es : List Event) (n : ℕ) (s : SourceState) → AreNumberedFrom n (packets_in es) → IsHeldBelow n s.held → IsHeldBelow (n + arrivals_in es) (after policy es s).held
held_after policy [] n s numbered below = subst (λ (m : ℕ). IsHeldBelow m s.held) (omega arith) below
held_after policy (Arrive p ∷ es) n s numbered below =
    subst (λ (m : ℕ). IsHeldBelow m (after policy es (arrived policy p s)).held) (omega arith) (held_after policy es (n + 1) (arrived policy p s) numbered.1 (held_arrived policy p s n numbered.0 below))
held_after policy (Depart start ∷ es) n s numbered below = held_after policy es n (departed policy s) numbered (held_departed policy s n below)

numbered_both : (es fs : List Event) (n : ℕ) → AreNumberedFrom n (packets_in es) → AreNumberedFrom (n + arrivals_in es) (packets_in fs) → AreNumberedFrom n (packets_in (es ++ fs))
numbered_both [] fs n first second = subst (λ (m : ℕ). AreNumberedFrom m (packets_in fs)) (omega arith) second
numbered_both (Arrive p ∷ es) fs n first second = (first.0, numbered_both es fs (n + 1) first.1 (subst (λ (m : ℕ). AreNumberedFrom m (packets_in fs)) (omega arith) second))
numbered_both (Depart start ∷ es) fs n first second = numbered_both es fs n first second

sendable_both : (policy : Policy) (es fs : List Event) → AllByRecursion (IsSendable policy) (packets_in es) → AllByRecursion (IsSendable policy) (packets_in fs) → AllByRecursion (IsSendable policy) (packets_in (es ++ fs))
sendable_both policy [] fs first second = second
sendable_both policy (Arrive p ∷ es) fs first second = (first.0, sendable_both policy es fs first.1 second)
sendable_both policy (Depart start ∷ es) fs first second = sendable_both policy es fs first second

pub next_both : (policy : Policy) (es fs : List Event) (given mid : ℕ) → mid ≡ given + arrivals_in es → AreNext policy given (packets_in es) → AreNext policy mid (packets_in fs) → AreNext policy given (packets_in (es ++ fs))
next_both policy es fs given mid e first second = record {
  numbered = numbered_both es fs (given + 1) first.numbered (subst (λ (m : ℕ). AreNumberedFrom m (packets_in fs)) (omega arith) second.numbered);
  sendable = sendable_both policy es fs first.sendable second.sendable;
}

pub length-events : (es : List Event) → length es ≡ arrivals_in es + departures_in es
length-events [] = refl
length-events (Arrive p ∷ es) = omega (arith, length-events es)
length-events (Depart start ∷ es) = omega (arith, length-events es)

-- ---- the state after events that were made
pub record Stands {C U : Type 0} (S : Ghosts C U) (policy : Policy) (c : C) (u : U) (given : ℕ) (s : SourceState) : Type 0 where
  pub sound : IsSound policy s
  pub stood : S.stands c u s
  pub below : IsHeldBelow (given + 1) s.held

module _ {C U W : Type 0} (S : Ghosts C U) (R : Recordings W) (laws : AreJoined R.records R.cuts) (policy : Policy) (accepted : IsAccepted policy) where
  pub stands_after : (es : List Event) (old new : Stage C U W) (given : ℕ) (s : SourceState) → Makes S R policy es old new → given ≡ old.given + arrivals_in es →
      Stands S policy old.scheduler old.under old.given s → Stands S policy new.scheduler new.under given (after policy es s)
  stands_after es old new given s made e at = record {
    sound = sound_after policy es s accepted at.sound (can_make policy es (old.given + 1) s made.next.numbered made.next.sendable at.below);
    stood = (made.played s at.sound at.stood at.below).leaves.state;
    below = subst (λ (m : ℕ). IsHeldBelow m (after policy es s).held) (omega arith) (held_after policy es (old.given + 1) s made.next.numbered at.below);
  }

  -- events, and then some more
  pub makes_both : (es fs : List Event) (old mid new : Stage C U W) → mid.given ≡ old.given + arrivals_in es → Makes S R policy es old mid → Makes S R policy fs mid new → Makes S R policy (es ++ fs) old new
  makes_both es fs old mid new e first second = record {
    next = next_both policy es fs old.given mid.given e first.next second.next;
    came = omega (arith, first.came, second.came, arrivals_in-append es fs);
    asked = omega (arith, first.asked, second.asked, departures_in-append es fs);
    dropped = λ s sound stood below.
        let at = stands_after es old mid mid.given s first e (record { sound = sound; stood = stood; below = below }) in
        omega (arith, first.dropped s sound stood below, second.dropped (after policy es s) at.sound at.stood at.below, (outcomes_both policy es fs s).dropped);
    played = λ s sound stood below.
        let at = stands_after es old mid mid.given s first e (record { sound = sound; stood = stood; below = below }) in
        let number : event_of old.tally + length es ≡ event_of mid.tally = omega (arith, first.came, first.asked, length-events es) in
        plays_both S R laws policy (event_of old.tally) es fs s old.scheduler old.under mid.scheduler mid.under new.scheduler new.under
        old.recorder mid.recorder new.recorder old.written mid.written new.written
        (first.played s sound stood below)
        (subst (λ (n : ℕ). Plays S R policy n fs (after policy es s) mid.scheduler mid.under mid.recorder mid.written new.scheduler new.under new.recorder new.written) (sym number) (second.played (after policy es s) at.sound at.stood at.below));
    shown = λ s sound stood below.
        let at = stands_after es old mid mid.given s first e (record { sound = sound; stood = stood; below = below }) in
        shown_both policy es fs s old.sight mid.sight new.sight (first.shown s sound stood below) (second.shown (after policy es s) at.sound at.stood at.below);
  }

  -- all events up to the last
  pub makes_to_last : (over : W → Bool) (es : List Event) (old new : Stage C U W) → MakesLast S R over policy es old new → Makes S R policy es old new
  makes_to_last over es old new to =
      subst (λ (l : List Event). Makes S R policy l old new) to.are (makes_both to.before (to.last ∷ []) old to.amid new to.given to.made to.made_last)

  -- events, and then some up to a last one
  pub makes_then_last : (over : W → Bool) (es fs : List Event) (old mid new : Stage C U W) → mid.given ≡ old.given + arrivals_in es → Makes S R policy es old mid → MakesLast S R over policy fs mid new → MakesLast S R over policy (es ++ fs) old new
  makes_then_last over es fs old mid new e first to = record {
    before = es ++ to.before;
    last = to.last;
    are = append_assoc es to.before (to.last ∷ []) ∙ ap (λ (l : List Event). es ++ l) to.are;
    amid = to.amid;
    made = makes_both es to.before old mid to.amid e first to.made;
    given = omega (arith, to.given, e, arrivals_in-append es to.before);
    going = to.going;
    made_last = to.made_last;
    is_over = to.is_over;
  }

  -- events, and then some that stop
  pub stops_later : (es fs : List Event) (old mid : Stage C U W) (c : C) (u : U) (written : Option (List ℕ)) → mid.given ≡ old.given + arrivals_in es → Makes S R policy es old mid → Stops S R policy fs mid c u written → Stops S R policy (es ++ fs) old c u written
  stops_later es fs old mid c u written e first second = record {
    next = next_both policy es fs old.given mid.given e first.next second.next;
    stopped = λ s sound stood below.
        let at = stands_after es old mid mid.given s first e (record { sound = sound; stood = stood; below = below }) in
        let number : event_of old.tally + length es ≡ event_of mid.tally = omega (arith, first.came, first.asked, length-events es) in
        stops_second S R laws policy (event_of old.tally) es fs s old.scheduler old.under mid.scheduler mid.under c u
        old.recorder mid.recorder old.written mid.written written
        (first.played s sound stood below)
        (subst (λ (n : ℕ). StopsIn S R policy n fs (after policy es s) mid.scheduler mid.under mid.recorder mid.written c u written) (sym number) (second.stopped (after policy es s) at.sound at.stood at.below));
  }

  -- all events up to the one at which they stopped
  pub stops_at_last : (over : W → Bool) (es : List Event) (old : Stage C U W) (c : C) (u : U) (written : Option (List ℕ)) → StopsLast S R over policy es old c u written → Stops S R policy es old c u written
  stops_at_last over es old c u written to =
      subst (λ (l : List Event). Stops S R policy l old c u written) to.are (stops_later to.before to.last old to.amid c u written to.given to.made to.stop)

  -- events, and then some that stop at their last
  pub stops_then_last : (over : W → Bool) (es fs : List Event) (old mid : Stage C U W) (c : C) (u : U) (written : Option (List ℕ)) → mid.given ≡ old.given + arrivals_in es → Makes S R policy es old mid
      → StopsLast S R over policy fs mid c u written → StopsLast S R over policy (es ++ fs) old c u written
  stops_then_last over es fs old mid c u written e first to = record {
    before = es ++ to.before;
    last = to.last;
    are = append_assoc es to.before to.last ∙ ap (λ (l : List Event). es ++ l) to.are;
    few = to.few;
    amid = to.amid;
    made = makes_both es to.before old mid to.amid e first to.made;
    given = omega (arith, to.given, e, arrivals_in-append es to.before);
    going = to.going;
    stop = to.stop;
  }

module _ {C U W : Type 0} (S : Ghosts C U) (R : Recordings W) (laws : AreJoined R.records R.cuts) (policy : Policy) where
  -- no event
  pub makes_none : (c : C) (u : U) (w : W) (written : Option (List ℕ)) (given given' : ℕ) (tally : _) (sight : Sight) → Makes S R policy [] (stage c u w written given tally sight) (stage c u w written given' tally sight)
  makes_none c u w written given given' tally sight = record {
    next = record { numbered = tt; sendable = tt };
    came = omega arith;
    asked = omega arith;
    dropped = λ s sound stood below. omega arith;
    played = λ s sound stood below. record { leaves = made_none S policy s c u stood; recorded = laws.none policy (event_of tally) w written };
    shown = λ s sound stood below. shows_none sight;
  }

  -- all of the events were made, and a prefix of their record is written
  pub stops_here : (es : List Event) (old : Stage C U W) (c : C) (u : U) (w : W) (written : Option (List ℕ)) → AreNext policy old.given (packets_in es)
      → FromEach S policy old (λ s. Plays S R policy (event_of old.tally) es s old.scheduler old.under old.recorder old.written c u w written) → Stops S R policy es old c u written
  stops_here es old c u w written next played = record {
    next = next;
    stopped = λ s sound stood below.
        let plays = played s sound stood below in
        record {
          leaves = made_all S policy es plays.leaves;
          cut = laws.written policy (event_of old.tally) (outcomes policy es s) old.recorder w old.written written plays.recorded;
        };
  }

  pub stops_none : (c : C) (u : U) (w : W) (written : Option (List ℕ)) (given : ℕ) (tally : _) (sight : Sight) → Stops S R policy [] (stage c u w written given tally sight) c u written
  stops_none c u w written given tally sight =
      let none = makes_none c u w written given given tally sight in
      stops_here [] (stage c u w written given tally sight) c u w written none.next none.played

-- ---- consecutive departures
packets_in-departures : (n : ℕ) → packets_in (replicate n (Depart None)) ≡ []
packets_in-departures zero = refl
packets_in-departures (suc n) = packets_in-departures n

next_departures : (policy : Policy) (given n : ℕ) → AreNext policy given (packets_in (replicate n (Depart None)))
next_departures policy given n = subst (AreNext policy given) (sym (packets_in-departures n)) (record { numbered = tt; sendable = tt })

module _ {C U W : Type 0} (S : Ghosts C U) (R : Recordings W) (laws : AreJoined R.records R.cuts) (policy : Policy) (accepted : IsAccepted policy) (n : ℕ) (old mid : Stage C U W) (given : mid.given ≡ old.given) (made : Makes S R policy (replicate n (Depart None)) old mid) where
  same_given : mid.given ≡ old.given + arrivals_in (replicate n (Depart None))
  same_given = omega (arith, given, arrivals_in-departures n)

  -- one more departure
  pub departures_more : (new : Stage C U W) → Makes S R policy (Depart None ∷ []) mid new → Makes S R policy (replicate (n + 1) (Depart None)) old new
  departures_more new one = rw (replicate_next n (Depart None)) (makes_both S R laws policy accepted (replicate n (Depart None)) (Depart None ∷ []) old mid new same_given made one)

  -- one more departure stops, and others were to follow
  pub departures_cut : (count : ℕ) (c : C) (u : U) (written : Option (List ℕ)) → n < count → Stops S R policy (Depart None ∷ []) mid c u written → Stops S R policy (replicate count (Depart None)) old c u written
  departures_cut count c u written below stop =
      let first : List Event = replicate n (Depart None) ++ Depart None ∷ [] in
      let rest : List Event = replicate (count - n - 1) (Depart None) in
      let whole : first ++ rest ≡ replicate count (Depart None) =
      append_assoc (replicate n (Depart None)) (Depart None ∷ []) rest ∙ replicate-append-replicate n (suc (count - n - 1)) (Depart None) ∙ ap (λ (m : ℕ). replicate m (Depart None)) (omega (arith, below)) in
      let one = stops_later S R laws policy accepted (replicate n (Depart None)) (Depart None ∷ []) old mid c u written same_given made stop in
      record {
        next = next_departures policy old.given count;
        stopped = λ s sound stood held. subst (λ (es : List Event). StopsIn S R policy (event_of old.tally) es s old.scheduler old.under old.recorder old.written c u written) whole
            (stops_first S R laws policy (event_of old.tally) first rest s old.scheduler old.under c u old.recorder old.written written (one.stopped s sound stood held));
      }
