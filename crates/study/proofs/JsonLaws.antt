-- Runs whose outcomes are written as JSON lines.
use Rattle.study.proofs.Prelude.{ap, ◌∙◌, ◌≡◌, List, inl, ℕ, Option, None, Some, sym, inr, subst, Err, Ok, Result, IfOk, IfSome, OnErr, OnOk, appended_nothing, prefix_of_nothing, Appended, AppendedPrefix, Stop, Resolved, same_status, exactly_told, IsTold, ending_status, run_status, Status, RunAnswer, paced_answer, Event, Outcome, outcomes, Pace, Captured, start, Ending, HasRecordedPart, IsPartOf, IsRefusedRun, IsWholeRun}
use Rattle.outside_core.specs.Kept.{Begins}
use Rattle.outside_core.specs.Text.{IsCut}
use Rattle.report_core.specs.Gathered.{text_of}
use Rattle.sched_run.specs.declared.recorder.Recorder as recorder
use Rattle.event_json.specs.Json.{json_end, json_text}
use Rattle.event_json.specs.JsonReports.{RecordsNothing}
use Rattle.event_json.specs.Recording.{AddsJson, CutsJson}
use Rattle.event_json.specs.declared.json.JsonReport.{JsonReport}
use Rattle.event_json.proofs.WholeRuns.{whole_run, cut_at_the_end, cut_before_the_end}
use Rattle.study.specs.JsonRuns.{rate_in, json_or, json_run}

-- nothing is read or written yet
pub json_unread : (policy : Resolved) (pace : Pace) (told a : Option (List ℕ)) (stop : Stop) → IfSome told (λ file. IsTold (λ x. x ≡ json_run policy pace file) (Err stop) a a)
json_unread policy pace None a stop = tt
json_unread policy pace (Some file) a stop = exactly_told (json_run policy pace file) (Err stop) a a tt tt (prefix_of_nothing a a _ (appended_nothing a))

-- the file is no capture
pub json_refused : (policy : Resolved) (pace : Pace) (told a b : Option (List ℕ)) (e : Ending) → IfSome told (λ file. IsRefusedRun (paced_answer policy pace file) a e b)
    → IfSome told (λ file. IsTold (λ x. x ≡ json_run policy pace file) (Ok (run_status e)) a b)
json_refused policy pace None a b e run = tt
json_refused policy pace (Some file) a b e run =
    let answer : RunAnswer = paced_answer policy pace file in
    exactly_told (json_run policy pace file) (Ok (run_status e)) a b (same_status e ∙ ap (λ (x : Ending). ending_status x) run.ends)
    (subst (λ (o : Option (List Event)). Appended a b (json_or (rate_in pace) policy.policy o answer.ending answer.text)) (sym run.none) run.text) tt

-- a report that had recorded nothing recorded the run
module _ (policy : Resolved) (pace : Pace) (w : JsonReport) (fresh : RecordsNothing (rate_in pace) w) (R : recorder.Ghosts JsonReport)
    (adds : (captured : Captured) (a b : Option (List ℕ)) (os : List Outcome) (v : JsonReport) → R.records captured w a policy.policy 1 os v b → AddsJson w a policy.policy 1 os v b)
    (cuts : (captured : Captured) (a b : Option (List ℕ)) (os : List Outcome) → R.cuts captured w a policy.policy 1 os b → CutsJson w a policy.policy 1 os b) where
  abbrev made : List Event → List Outcome
  made events = outcomes policy.policy events (start policy.policy)

  -- P holds of the text of a run, by its answer
  by_answer : (P : List ℕ → Type 0) (answer : RunAnswer) (a b : Option (List ℕ)) (v : JsonReport) (e : Ending) (run : IsWholeRun R policy.policy answer w a e v b)
      → P (json_text (rate_in pace) policy.policy (made run.events) e) → P (json_or (rate_in pace) policy.policy answer.events answer.ending answer.text)
  by_answer P answer a b v e run p =
      subst (λ (o : Option (List Event)). P (json_or (rate_in pace) policy.policy o answer.ending answer.text)) (sym run.are)
      (subst (λ (x : Ending). P (json_text (rate_in pace) policy.policy (made run.events) x)) run.ends p)

  -- and was finished, or a write failed
  pub json_closed : (told : Option (List ℕ)) (v : JsonReport) (e : Ending) (r : Result Status Stop) (a b c : Option (List ℕ)) → IfSome told (λ file. IsWholeRun R policy.policy (paced_answer policy pace file) w a e v b)
      → Begins a c → IfOk r (λ s. s ≡ run_status e) → OnOk r (Appended (text_of b v.report) c (json_end v.counts e)) → OnErr r (IsCut (text_of b v.report) (json_end v.counts e) c)
      → IfSome told (λ file. IsTold (λ x. x ≡ json_run policy pace file) r a c)
  json_closed None v e r a b c run begins status whole cut = tt
  json_closed (Some file) v e (Ok s) a b c run begins status whole cut =
      let added = adds run.recorded.0 a b (made run.events) v run.recorded.1 in
      rw status
      (exactly_told (json_run policy pace file) (Ok (run_status e)) a c (same_status e ∙ ap (λ (x : Ending). ending_status x) run.ends)
      (by_answer (Appended a c) (paced_answer policy pace file) a b v e run (whole_run (rate_in pace) w v policy.policy (made run.events) e fresh a b c added whole)) tt)
  json_closed (Some file) v e (Err stop) a b c run begins status whole cut =
      let added = adds run.recorded.0 a b (made run.events) v run.recorded.1 in
      exactly_told (json_run policy pace file) (Err stop) a c tt tt
      (by_answer (AppendedPrefix a c) (paced_answer policy pace file) a b v e run (cut_at_the_end (rate_in pace) w v policy.policy (made run.events) e fresh a b c begins added cut))

  -- the run was stopped
  part_of_run : (o : Option (List Event)) (e : Ending) (text : List ℕ) (a b : Option (List ℕ)) → Begins a b → IsPartOf R policy.policy o text w a b → AppendedPrefix a b (json_or (rate_in pace) policy.policy o e text)
  part_of_run None e text a b begins part = part
  part_of_run (Some events) e text a b begins (inl part) =
      cut_before_the_end (rate_in pace) w w policy.policy (made events) e fresh a b begins (cuts part.0 a b (made events) part.1)
  part_of_run (Some events) e text a b begins (inr none) = prefix_of_nothing a b _ none

  pub json_stopped : (told a b : Option (List ℕ)) (stop : Stop) → IfSome told (λ file. HasRecordedPart R policy.policy (paced_answer policy pace file) w a b) → Begins a b
      → IfSome told (λ file. IsTold (λ x. x ≡ json_run policy pace file) (Err stop) a b)
  json_stopped None a b stop part begins = tt
  json_stopped (Some file) a b stop part begins =
      let answer : RunAnswer = paced_answer policy pace file in
      exactly_told (json_run policy pace file) (Err stop) a b tt tt (part_of_run answer.events answer.ending answer.text a b begins part)
