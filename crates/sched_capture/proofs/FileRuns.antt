-- A run over the packets left of a capture is the run over its file.
use Rattle.sched_capture.proofs.Prelude.{List, Some, ℕ, None, Option, arith, refl, Result, Err, Ok, ◌≤◌, on_ok_weaker, IfSome, OnOk, IfOk, IfErr, sink-then, Stop, FileContents, holds, no_capture, in_file, Resolved, Left, Ending, CanEndSo, IsNoPastLast, Sight, answer_of, answer_over, IsRefusal, paced_answer, RunAnswer, HaveWatched, shown_by, IsReported, KeepsOutside}
use Rattle.outside_core.specs.Kept.{KeepsSink, HasCause}
use Rattle.outside_core.specs.declared.stop.Stop.TheVariants.{Source, Sink, Memory}
use Rattle.outside_core.proofs.FaultLaws.{rose_after}
use Rattle.sched_defs.specs.Pace.{Pace}
use Rattle.sched_run.specs.declared.pace.Pace as code
use Rattle.sched_run.specs.declared.pace.Pace.TheVariants as code_pace
use Rattle.sched_capture.specs.Arrivals.{Begins}

module _ (policy : Resolved) (pace : Pace) where
  -- a property of the answer over the packets left is one of the answer for the file
  over_contents : (P : RunAnswer → Type 0) (file : FileContents) (left : Option Left) → Begins policy file left
      → IfSome left (λ l. P (answer_of policy.policy pace l.packets l.fault)) → P (answer_over policy pace file)
  over_contents P (no_capture fault) left begins each = absurd begins
  over_contents P (holds contents) left begins each = rw begins at each

  over_file : (P : RunAnswer → Type 0) (told : Option (List ℕ)) (left : Option Left) → IfSome told (λ file. Begins policy (in_file file) left)
      → IfSome left (λ l. P (answer_of policy.policy pace l.packets l.fault)) → IfSome told (λ file. P (paced_answer policy pace file))
  over_file P None left begins each = tt
  over_file P (Some file) left begins each = over_contents P (in_file file) left begins each

  pub report_of_file : (r : Result Ending Stop) (told : Option (List ℕ)) (left : Option Left) (before written : Option (List ℕ)) → IfSome told (λ file. Begins policy (in_file file) left)
      → IfSome left (λ l. IsReported r (answer_of policy.policy pace l.packets l.fault) before written) → IfSome told (λ file. IsReported r (paced_answer policy pace file) before written)
  report_of_file r told left before written = over_file (λ a. IsReported r a before written) told left

  pub watched_of_file : (r : Result Ending Stop) (told : Option (List ℕ)) (left : Option Left) (before after : Sight) → IfSome told (λ file. Begins policy (in_file file) left)
      → OnOk r (IfSome left (λ l. HaveWatched (shown_by policy.policy (answer_of policy.policy pace l.packets l.fault)) before after))
      → OnOk r (IfSome told (λ file. HaveWatched (shown_by policy.policy (paced_answer policy pace file)) before after))
  watched_of_file r told left before after begins each = on_ok_weaker r (over_file (λ a. HaveWatched (shown_by policy.policy a) before after) told left begins) each

  -- if no run begins, the taps are unchanged
  pub unwatched : (answer : Result Ending Stop) (told : Option (List ℕ)) (before written : Option (List ℕ)) (sight : Sight)
      → IfOk answer (λ e. IfSome told (λ file. IsRefusal (in_file file) e before written))
      → OnOk answer (IfSome told (λ file. HaveWatched (shown_by policy.policy (paced_answer policy pace file)) sight sight))
  unwatched (Ok e) None before written sight refused = tt
  unwatched (Ok e) (Some file) before written sight refused = rw (refused.is) refl
  unwatched (Err stop) told before written sight refused = tt

-- ---- what is left outside
-- a call that may write, and then a run
pub outside_after : {S K X : Type 0} (source_faults : S → ℕ) (s s' s'' : S) (written : K → Option (List ℕ)) (sink_faults : K → ℕ) (k k' k'' : K) (r : Result X Stop)
    → source_faults s ≤ source_faults s' → KeepsSink written sink_faults k k' → KeepsOutside r source_faults s' s'' written sink_faults k' k'' → KeepsOutside r source_faults s s'' written sink_faults k k''
outside_after source_faults s s' s'' written sink_faults k k' k'' r later kept o =
    record { kept = sink-then written sink_faults k k' k'' kept o.kept; later = let l : source_faults s' ≤ source_faults s'' = o.later in omega arith; cause = after r o.cause }
  where
    after : {X : Type 0} (r : Result X Stop) → IfErr r (λ stop. HasCause stop source_faults s' s'' sink_faults k' k'') → IfErr r (λ stop. HasCause stop source_faults s s'' sink_faults k k'')
    after (Ok e) cause = tt
    after (Err Source) cause = rose_after (source_faults s) (source_faults s') (source_faults s'') later cause
    after (Err Sink) cause = rose_after (sink_faults k) (sink_faults k') (sink_faults k'') kept.later cause
    after (Err Memory) cause = tt

-- ---- the possible endings of a run
-- an ending that isn't past the last packet is possible at any pace
pub can_end : (p : code.Pace) (e : Ending) → IsNoPastLast e → CanEndSo p e
can_end (code_pace.Script steps) e none = tt
can_end (code_pace.Link rate) e none = none
