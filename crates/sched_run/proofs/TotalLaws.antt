-- The totals of a run, from its counts.
use Rattle.sched_run.proofs.Prelude.{ℕ, arith, None, ◌∙◌, ◌≡◌, refl, sym, List, ◌+◌, ap, Some, ◌≤◌, if◌then◌else◌, IsAccepted, Policy, ForEachState, StandForOne, Ghosts, none_lost, Event, outcomes, after, Outcome, empty_in, dropped_in, pushed_in, popped_in, IsHeldBelow, IsSound, SourceState, size, Recordings, AreJoined, Makes, Stage, arrivals_in, CanBegin, IsFresh, AreTotals, HasTotals, Totals}
use Rattle.std.specs.Prelude.{nat_le}
use Rattle.sched_defs.specs.Report.{shown_drops}
use Rattle.sched_run.proofs.MadeEvents.{can_make, stands_after}
use Rattle.sched_run.proofs.EventCounts.{AreOf, outcomes_of}

-- these are the totals of the outcomes, with `held` packets queued after them
pub record IsTallied (policy : Policy) (os : List Outcome) (held : ℕ) (t : Totals) : Type 0 where
  pub same_pushed : pushed_in os ≡ t.pushed
  pub same_popped : popped_in os ≡ t.popped
  pub same_empty : empty_in os ≡ t.empty
  pub same_held : held ≡ t.held
  pub same_dropped : shown_drops policy (dropped_in os) ≡ t.dropped

module _ {C U W : Type 0} (S : Ghosts C U) (R : Recordings W) (laws : AreJoined R.records R.cuts) (policy : Policy) (accepted : IsAccepted policy) where
  pub tallied : (events : List Event) (old new : Stage C U W) (first held version : ℕ) (t : Totals) (s : SourceState) → IsFresh old.tally → Makes S R policy events old new →
      IsSound policy s → S.stands old.scheduler old.under s → IsHeldBelow (old.given + 1) s.held → first ≡ size s.tree → held ≡ size (after policy events s).tree → AreTotals new.tally first held version t → version ≡ policy.version →
      IsTallied policy (outcomes policy events s) (size (after policy events s).tree) t
  tallied events old new first held version t s fresh made sound stood below begun still totals own =
      let os : List Outcome = outcomes policy events s in
      let lost = none_lost policy events s accepted sound (can_make policy events (old.given + 1) s made.next.numbered made.next.sendable below) in
      let counts : AreOf events os = outcomes_of policy events s in
      let dropped : dropped_in os ≡ new.tally.dropped = omega (arith, made.dropped s sound stood below, fresh.none_dropped) in
      let pushed : pushed_in os ≡ t.pushed = omega (arith, counts.pushed_or_dropped, dropped, totals.came, made.came, fresh.none_came) in
      let popped : popped_in os ≡ t.popped = omega (arith, lost, pushed, begun, still, totals.passed) in
      record {
        same_pushed = pushed;
        same_popped = popped;
        same_empty = omega (arith, counts.asked, popped, totals.asked, made.asked, fresh.none_asked);
        same_held = sym still ∙ sym totals.still;
        same_dropped = ap (shown_drops policy) dropped ∙ ap (λ (v : ℕ). if nat_le 2 v then Some new.tally.dropped else None) (sym own) ∙ sym totals.shown;
      }

  -- the number of queued packets in each state
  abbrev pub Held : ℕ → C → U → Type 0
  Held n c u = ForEachState S.stands policy c u (λ s. n ≡ size s.tree)

  pub held_then : (events : List Event) (old new : Stage C U W) (held : ℕ) (s : SourceState) → Makes S R policy events old new → IsSound policy s → S.stands old.scheduler old.under s → IsHeldBelow (old.given + 1) s.held →
      Held held new.scheduler new.under → held ≡ size (after policy events s).tree
  held_then events old new held s made sound stood below still =
      let at = stands_after S R laws policy accepted events old new (old.given + arrivals_in events) s made refl (record { sound = sound; stood = stood; below = below }) in
      still (after policy events s) at.sound at.stood

  pub has_totals : (events : List Event) (old new : Stage C U W) (first held : ℕ) → StandForOne S.stands policy old.scheduler old.under (CanBegin old.given) → IsFresh old.tally → new.tally.came ≤ 4294967295 → Makes S R policy events old new →
      Held first old.scheduler old.under → Held held new.scheduler new.under → HasTotals new.tally first held
  has_totals events old new first held one fresh few made begun still =
      let s = one.state in
      let later = held_then events old new held s made one.sound one.stood one.has.held still in
      let was = begun s one.sound one.stood in
      let lost = none_lost policy events s accepted one.sound (can_make policy events (old.given + 1) s made.next.numbered made.next.sendable one.has.held) in
      let counts : AreOf events (outcomes policy events s) = outcomes_of policy events s in
      let dropped : dropped_in (outcomes policy events s) ≡ new.tally.dropped = omega (arith, made.dropped s one.sound one.stood one.has.held, fresh.none_dropped) in
      let came : pushed_in (outcomes policy events s) + new.tally.dropped ≡ new.tally.came = omega (arith, counts.pushed_or_dropped, dropped, made.came, fresh.none_came) in
      record {
        few = omega (arith, was, one.has.few, few);
        dropped = omega (arith, came);
        holds = omega (arith, was, later, lost, came);
        popped = omega (arith, was, later, lost, came, counts.asked, made.asked, fresh.none_asked);
      }
