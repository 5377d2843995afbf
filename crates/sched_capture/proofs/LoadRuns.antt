-- A generated load from the start of a policy.
use Rattle.sched_capture.proofs.Prelude.{◌≡◌, List, ℕ, Option, subst, IsAccepted, Policy, sound_start, IsHeldBelow, start, start_can_begin, load_run, MakesLoad, StopsIn, Recordings}
use Rattle.sched_core.specs.declared.scheduler.Scheduler.{Ghosts}
use Rattle.sched_core.specs.Standing.{ForEachState}
use Rattle.sched_run.specs.declared.tally.Totals.{Totals}

module _ {C U W : Type 0} {S : Ghosts C U} {R : Recordings W} {own : Policy} {c c' : C} {u u' : U} {w : W} {a written : Option (List ℕ)} (policy : Policy) (seed count : ℕ) where
  -- a load that was made from each state without queued packets was made from the start
  pub made_from_start : {w' : W} {t : Totals} → ForEachState S.stands own c u (λ s. IsHeldBelow 1 s.held → MakesLoad S R own seed count s c u w a c' u' w' written t) → own ≡ policy → IsAccepted policy → S.stands c u (start policy) →
      MakesLoad S R policy seed count (start policy) c u w a c' u' w' written t
  made_from_start {w' = w'} {t = t} each same accepted stood =
      subst (λ (q : Policy). ForEachState S.stands q c u (λ s. IsHeldBelow 1 s.held → MakesLoad S R q seed count s c u w a c' u' w' written t)) same each
      (start policy) (sound_start policy accepted) stood (start_can_begin policy 0).held

  -- and so is one that stopped
  pub stopped_from_start : ForEachState S.stands own c u (λ s. IsHeldBelow 1 s.held → StopsIn S R own 1 (load_run own seed count s) s c u w a c' u' written) → own ≡ policy → IsAccepted policy → S.stands c u (start policy) →
      StopsIn S R policy 1 (load_run policy seed count (start policy)) (start policy) c u w a c' u' written
  stopped_from_start each same accepted stood =
      subst (λ (q : Policy). ForEachState S.stands q c u (λ s. IsHeldBelow 1 s.held → StopsIn S R q 1 (load_run q seed count s) s c u w a c' u' written)) same each
      (start policy) (sound_start policy accepted) stood (start_can_begin policy 0).held
