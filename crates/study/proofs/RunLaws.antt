-- Runs over a capture that may be known to the contract.
use Rattle.study.proofs.Prelude.{ap, ◌≡◌, List, ℕ, Option, None, Some, Err, Ok, Result, IfOk, IfSome, Appended, AppendedPrefix, Stop, Resolved, pace_ends, exactly_told, IsTold, run_status, status_code, IsOneOf, pace_statuses, forward_status, Status, Ending, CanEndSo}
use Rattle.sched_defs.specs.declared.rate.LinkRate.{LinkRate}
use Rattle.sched_run.specs.declared.pace.Pace as code
use Rattle.sched_capture.specs.Forwards.{forward_answer}
use Rattle.sched_capture.specs.declared.departures.ForwardEnding.{ForwardEnding}
use Rattle.study.specs.Studied.{departures}

module _ (policy : Resolved) (old new : Option (List ℕ)) where
  -- ---- departures as a capture
  pub departures_told : (rate : LinkRate) (told : Option (List ℕ)) (e : ForwardEnding) → IfSome told (λ file. e ≡ (forward_answer policy rate file).ending)
      → IfSome told (λ file. Appended old new (forward_answer policy rate file).text) → IfSome told (λ file. IsTold (λ a. a ≡ departures policy rate file) (Ok (forward_status e)) old new)
  departures_told rate None e ends text = tt
  departures_told rate (Some file) e ends text =
      exactly_told (departures policy rate file) (Ok (forward_status e)) old new (ap (λ (x : ForwardEnding). status_code (forward_status x)) ends) text tt

  pub departures_cut : (rate : LinkRate) (told : Option (List ℕ)) (stop : Stop) → IfSome told (λ file. AppendedPrefix old new (forward_answer policy rate file).text)
      → IfSome told (λ file. IsTold (λ a. a ≡ departures policy rate file) (Err stop) old new)
  departures_cut rate None stop part = tt
  departures_cut rate (Some file) stop part = exactly_told (departures policy rate file) (Err stop) old new tt tt part

-- ---- statuses
pub ending_statuses : (pace : code.Pace) (e : Ending) (r : Result Status Stop) → CanEndSo pace e → IfOk r (λ s. s ≡ run_status e) → IfOk r (λ s. IsOneOf (pace_statuses pace) (status_code s))
ending_statuses pace e (Ok s) can is = rw is (pace_ends pace e can)
ending_statuses pace e (Err stop) can is = tt
