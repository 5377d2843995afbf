-- Runs that say how large the target's queues get.
use Rattle.study.proofs.Prelude.{ap, ◌≡◌, List, inl, ℕ, Option, None, Some, ◌∷◌, inr, ◌++◌, Err, Ok, Result, IfOk, OnErr, OnOk, Appended, AppendedPrefix, Stop, IsAccepted, Policy, pace_ends, IsTold, status_code, IsOneOf, pace_statuses, Status, RunAnswer, Ending, CanEndSo, Fits, Overflow, Sizes, IsWholeRun, shown, IsSized, size_status, ending_line, Form}
use Rattle.std.proofs.lemmas.Result.{IfOk-weaker}
use Rattle.sched_defs.specs.declared.ending.Ending.TheVariants.{Whole, BadCapture, PastLast}
use Rattle.sched_run.specs.declared.pace.Pace as code
use Rattle.sched_embedded.specs.Laid.{Laid}
use Rattle.size_core.specs.contracts.recorder.SizingRecorder.TheImpl.{ghosts}
use Rattle.size_core.specs.declared.sizing.Sizing.{Sizing}
use Rattle.size_core.specs.Hops.{Watched}
use Rattle.size_core.specs.Results.{IsUnused, HasSizes}
use Rattle.size_core.specs.Watching.{Watches}
use Rattle.study.specs.declared.parts.Measure.{Measure}
use Rattle.size_core.proofs.OneSizes.{sizes-determined}
use Rattle.size_core.proofs.SizesOfRuns.{sizes_are_of_the_run}
use Rattle.study.proofs.ResultLaws.{result_out}
use Rattle.study.proofs.SizeTexts.{same_shown}

-- the run was recorded, and its sizes are told
pub sizes_closed : (form : Form) (m : Measure) (laid : Laid) (policy : Policy) (answer : RunAnswer) (w : Sizing) → IsAccepted policy → Fits laid policy → IsUnused laid policy m.limits m.stores w
    → (v : Sizing) (e : Ending) (q : Sizes) (r : Result Status Stop) (a b c : Option (List ℕ)) → IsWholeRun ghosts policy answer w a e v b
    → ((s : Watched) → Watches v s → HasSizes v s q)
    → IfOk r (λ s. s ≡ size_status q.overflow e)
    → OnOk r (Appended b c (shown form q m.widths ++ ending_line e))
    → OnErr r (AppendedPrefix b c (shown form q m.widths ++ ending_line e))
    → IsTold (IsSized (shown form) m laid policy answer) r a c
sizes_closed form m laid policy answer w accepted fits unused v e q r a b c run has status text part =
    result_out _ _ _ answer ghosts w policy
    (λ events one other ones others. let same = sizes-determined laid policy _ one other fits ones others in same_shown form one other m.widths same.nodes same.entries same.overflow)
    v e q r a b c run run.recorded.1.unwritten
    (sizes_are_of_the_run laid policy m.limits m.stores 1 run.events w v q accepted run.can fits unused run.recorded.1.uses has)
    (IfOk-weaker r _ _ (λ s is. ap status_code is) status, text, part)

-- ---- statuses
pub size_statuses : (pace : code.Pace) (e : Ending) (o : Option Overflow) (r : Result Status Stop) → CanEndSo pace e → IfOk r (λ s. s ≡ size_status o e) → IfOk r (λ s. IsOneOf (1 ∷ pace_statuses pace) (status_code s))
size_statuses pace e o (Err stop) can is = tt
size_statuses pace e None (Ok s) can is = inr (rw is (pace_ends pace e can))
size_statuses pace (Whole unread) (Some o) (Ok s) can is = inl (ap status_code is)
size_statuses pace (BadCapture code place) (Some o) (Ok s) can is = inr (rw is (pace_ends pace (BadCapture code place) can))
size_statuses pace (PastLast event) (Some o) (Ok s) can is = inr (rw is (pace_ends pace (PastLast event) can))
