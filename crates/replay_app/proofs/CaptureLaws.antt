-- A run over a capture that taps watch, with their lines.
use Rattle.replay_app.proofs.Prelude.{ℕ, List, ◌≡◌, ap, ◌∙◌, [], Option, Some, None, inr, append-nil, Err, Ok, IfSome, Ghosts, appended_in_turn, prefix_in_turn, prefix_of_longer, Appended, AppendedPrefix, Stop, Resolved, paced_answer, shown_by, HaveWatched, Ending, LeavesPart, Leaves, FabricRun, run_of, Laid, Sight, Answer, IsTold, IsLeft, laid_run, direct_run, OfLines, ending_status, watching_in, run_status, Status}
use Rattle.sched_defs.specs.Pace.{Pace}
use Rattle.replay_app.proofs.AnswerLaws.{same_status}
use Rattle.replay_app.proofs.FollowLaws.{exactly_told, exactly_done}
use Rattle.replay_app.proofs.TapLaws.{lines_told}
use Rattle.sched_capture.specs.Outside.{IsReported}

-- a whole run is a prefix of itself
pub whole_part : {F : Type 0} (fabrics : Ghosts F) (run : Option FabricRun) (old new : F) → Leaves fabrics run old new → LeavesPart fabrics run old new
whole_part fabrics None old new leaves = leaves
whole_part fabrics (Some run) old new leaves = inr (record { made = run.events; unmade = []; whole = append-nil run.events; holds = leaves })

-- ---- a run through the policy's own tree
module _ (policy : Resolved) (pace : Pace) (old new : Option (List ℕ)) where
  pub own_told : (told : Option (List ℕ)) (e : Ending) → IfSome told (λ file. IsReported (Ok e) (paced_answer policy pace file) old new) → IfSome told (λ file. IsTold (λ a. a ≡ direct_run policy pace file) (Ok (run_status e)) old new)
  own_told None e report = tt
  own_told (Some file) e report = exactly_told (direct_run policy pace file) (Ok (run_status e)) old new (same_status e ∙ ap (λ (x : Ending). ending_status x) report.ending) report.text tt

  pub own_cut : (told : Option (List ℕ)) (cause stop : Stop) → IfSome told (λ file. IsReported (Err cause) (paced_answer policy pace file) old new) → IfSome told (λ file. IsTold (λ a. a ≡ direct_run policy pace file) (Err stop) old new)
  own_cut None cause stop report = tt
  own_cut (Some file) cause stop report = exactly_told (direct_run policy pace file) (Err stop) old new tt tt report.part

-- ---- a run through a fabric
module _ (policy : Resolved) (laid : Laid) (pace : Pace) (before : Sight) where
  abbrev pub answer : List ℕ → Answer
  answer file = laid_run policy laid pace file (watching_in before)

  -- ---- the text written
  -- the report and the lines
  pub whole_told : (told : Option (List ℕ)) (e : Ending) (after : Sight) (old mid new : Option (List ℕ)) → IfSome told (λ file. IsReported (Ok e) (paced_answer policy pace file) old mid)
      → IfSome told (λ file. HaveWatched (shown_by policy.policy (paced_answer policy pace file)) before after) → OfLines e after (Appended mid new)
      → IfSome told (λ file. IsTold (λ a. a ≡ answer file) (Ok (run_status e)) old new)
  whole_told None e after old mid new report watched lines = tt
  whole_told (Some file) e after old mid new report watched lines =
      exactly_told (answer file) (Ok (run_status e)) old new
      (same_status e ∙ ap (λ (x : Ending). ending_status x) report.ending)
      (appended_in_turn old mid new _ _ report.text (lines_told policy pace file e before after (Appended mid new) report.ending watched lines)) tt

  -- the report, and a prefix of the lines
  pub lines_cut : (told : Option (List ℕ)) (e : Ending) (stop : Stop) (after : Sight) (old mid new : Option (List ℕ)) → IfSome told (λ file. IsReported (Ok e) (paced_answer policy pace file) old mid)
      → IfSome told (λ file. HaveWatched (shown_by policy.policy (paced_answer policy pace file)) before after) → OfLines e after (AppendedPrefix mid new)
      → IfSome told (λ file. IsTold (λ a. a ≡ answer file) (Err stop) old new)
  lines_cut None e stop after old mid new report watched lines = tt
  lines_cut (Some file) e stop after old mid new report watched lines =
      exactly_told (answer file) (Err stop) old new tt tt
      (prefix_in_turn old mid new _ _ report.text (lines_told policy pace file e before after (AppendedPrefix mid new) report.ending watched lines))

  -- a prefix of the report
  pub report_cut : (told : Option (List ℕ)) (cause stop : Stop) (old new : Option (List ℕ)) → IfSome told (λ file. IsReported (Err cause) (paced_answer policy pace file) old new)
      → IfSome told (λ file. IsTold (λ a. a ≡ answer file) (Err stop) old new)
  report_cut None cause stop old new report = tt
  report_cut (Some file) cause stop old new report = exactly_told (answer file) (Err stop) old new tt tt (prefix_of_longer old new _ _ report.part)

  -- ---- the state left
  module _ {F : Type 0} (fabrics : Ghosts F) (old new : F) (after : Sight) where
    pub whole_left : (told : Option (List ℕ)) (s : Status) → IfSome told (λ file. Leaves fabrics (run_of policy.policy laid (paced_answer policy pace file).events) old new)
        → IfSome told (λ file. HaveWatched (shown_by policy.policy (paced_answer policy pace file)) before after)
        → IfSome told (λ file. IsLeft fabrics (λ a. a ≡ answer file) (Ok s) old new before after)
    whole_left None s fabric watched = tt
    whole_left (Some file) s fabric watched = exactly_done (answer file) (Ok s) _ _ (record { fabric = fabric; taps = watched }) tt

    pub lines_left : (told : Option (List ℕ)) (stop : Stop) → IfSome told (λ file. Leaves fabrics (run_of policy.policy laid (paced_answer policy pace file).events) old new)
        → IfSome told (λ file. IsLeft fabrics (λ a. a ≡ answer file) (Err stop) old new before after)
    lines_left None stop fabric = tt
    lines_left (Some file) stop fabric = exactly_done (answer file) (Err stop) _ _ tt (whole_part fabrics _ old new fabric)

    pub report_left : (told : Option (List ℕ)) (stop : Stop) → IfSome told (λ file. LeavesPart fabrics (run_of policy.policy laid (paced_answer policy pace file).events) old new)
        → IfSome told (λ file. IsLeft fabrics (λ a. a ≡ answer file) (Err stop) old new before after)
    report_left None stop part = tt
    report_left (Some file) stop part = exactly_done (answer file) (Err stop) _ _ tt part
