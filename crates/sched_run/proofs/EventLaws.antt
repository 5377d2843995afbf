-- One event that was made, recorded and counted, and shown to the taps that watch.
use Rattle.sched_run.proofs.Prelude.{ℕ, arith, None, Some, Option, Depart, departure, leaver, Leaver, outcomes, ◌≡◌, refl, sym, subst, [], ◌+◌, ◌∷◌, false, List, true, Packet, Policy, Ghosts, leaf_number, Outcome, dropped_in, arrival_ranks, is_full, shows_none, Sight, Shows, shown_in, Plays, Recordings, Makes, Stage, event_of, FromEach, AreNext}
use Rattle.sched_defs.specs.Events.{Arrive}
use Rattle.tap_core.specs.Lists.{dropped}
use Rattle.sched_run.proofs.LineLaws.{outcome_pushed, outcome_dropped}

module _ {C U W : Type 0} (S : Ghosts C U) (R : Recordings W) (policy : Policy) (p : Packet) (old new : Stage C U W) where
  pub makes_pushed : AreNext policy old.given (p ∷ []) → FromEach S policy old (λ s. is_full policy p s ≡ false)
      → new.tally.came ≡ old.tally.came + 1 → new.tally.asked ≡ old.tally.asked → new.tally.dropped ≡ old.tally.dropped → new.sight ≡ old.sight
      → FromEach S policy old (λ s. Plays S R policy (event_of old.tally) (Arrive p ∷ []) s old.scheduler old.under old.recorder old.written new.scheduler new.under new.recorder new.written)
      → Makes S R policy (Arrive p ∷ []) old new
  makes_pushed next free came asked same sight played = record {
    next = next;
    came = omega (arith, came);
    asked = omega (arith, asked);
    dropped = λ s sound stood below. subst (λ (os : List Outcome). new.tally.dropped ≡ old.tally.dropped + dropped_in os)
        (outcome_pushed policy p s (arrival_ranks policy p s) (free s sound stood below) refl) (omega (arith, same));
    played = played;
    shown = λ s sound stood below. subst (λ (os : List Outcome). Shows (shown_in policy os) old.sight new.sight)
        (outcome_pushed policy p s (arrival_ranks policy p s) (free s sound stood below) refl)
        (subst (λ (z : Sight). Shows [] old.sight z) (sym sight) (shows_none old.sight));
  }

  pub makes_dropped : (leaf : ℕ) → leaf_number policy p ≡ leaf → AreNext policy old.given (p ∷ []) → FromEach S policy old (λ s. is_full policy p s ≡ true)
      → new.tally.came ≡ old.tally.came + 1 → new.tally.asked ≡ old.tally.asked → new.tally.dropped ≡ old.tally.dropped + 1
      → Shows (dropped (record { packet = p.number; class = p.class; leaf = leaf; len = p.len }) ∷ []) old.sight new.sight
      → FromEach S policy old (λ s. Plays S R policy (event_of old.tally) (Arrive p ∷ []) s old.scheduler old.under old.recorder old.written new.scheduler new.under new.recorder new.written)
      → Makes S R policy (Arrive p ∷ []) old new
  makes_dropped leaf at next full came asked lost shown played = record {
    next = next;
    came = omega (arith, came);
    asked = omega (arith, asked);
    dropped = λ s sound stood below. subst (λ (os : List Outcome). new.tally.dropped ≡ old.tally.dropped + dropped_in os)
        (outcome_dropped policy p s (full s sound stood below)) (omega (arith, lost));
    played = played;
    shown = λ s sound stood below. subst (λ (os : List Outcome). Shows (shown_in policy os) old.sight new.sight)
        (outcome_dropped policy p s (full s sound stood below))
        (subst (λ (n : ℕ). Shows (dropped (record { packet = p.number; class = p.class; leaf = n; len = p.len }) ∷ []) old.sight new.sight) (sym at) shown);
  }

dropped_left : (start : Option ℕ) (o : Option Leaver) → dropped_in (departure start o ∷ []) ≡ 0
dropped_left start None = refl
dropped_left start (Some l) = refl

module _ {C U W : Type 0} (S : Ghosts C U) (R : Recordings W) (policy : Policy) (start : Option ℕ) (old new : Stage C U W) where
  pub makes_departure : new.tally.came ≡ old.tally.came → new.tally.asked ≡ old.tally.asked + 1 → new.tally.dropped ≡ old.tally.dropped
      → FromEach S policy old (λ s. Shows (shown_in policy (outcomes policy (Depart start ∷ []) s)) old.sight new.sight)
      → FromEach S policy old (λ s. Plays S R policy (event_of old.tally) (Depart start ∷ []) s old.scheduler old.under old.recorder old.written new.scheduler new.under new.recorder new.written)
      → Makes S R policy (Depart start ∷ []) old new
  makes_departure came asked same shown played = record {
    next = record { numbered = tt; sendable = tt };
    came = omega (arith, came);
    asked = omega (arith, asked);
    dropped = λ s sound stood below. omega (arith, same, dropped_left start (leaver s));
    played = played;
    shown = shown;
  }
