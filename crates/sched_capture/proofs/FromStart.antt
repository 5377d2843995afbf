-- A run from the start of a policy.
use Rattle.sched_capture.proofs.Prelude.{◌≡◌, List, Some, ℕ, None, Option, [], refl, Result, IfSome_then, on_err_weaker, on_ok_weaker, IfOk-weaker, IfSome, OnErr, OnOk, IfOk, Appended, AppendedPrefix, Stop, IsAccepted, Policy, cut_part, whole_text, sound_start, outcomes, Left, Course, start, SourceState, Ending, start_can_begin, HasMade, HasMadeSome, pace_of, Sight, Shows, Watches, answer_of, IsReported}
use Rattle.outside_core.specs.Kept.{Begins}
use Rattle.outside_core.specs.Text.{appended}
use Rattle.sched_core.specs.declared.scheduler.Scheduler.{Ghosts}
use Rattle.sched_core.specs.Standing.{StandForOne}
use Rattle.sched_run.specs.declared.pace.Pace.{Pace}
use Rattle.sched_run.specs.Stages.{CanBegin}
use Rattle.sched_run.specs.Courses.{course_of, OnCourse, Runs, Breaks}
use Rattle.sched_run.proofs.JoinedEvents.{made_some_none}
use Rattle.sched_run.specs.Shown.{shown_in}
use Rattle.tap_core.specs.Watching.{Begins as TapsBegin}
use Rattle.tap_core.proofs.WatchLaws.{begins_shows}

pub stand_at_start : {C U : Type 0} (stands : C → U → SourceState → Type 0) (own policy : Policy) (c : C) (u : U) (given : ℕ) → own ≡ policy → IsAccepted policy → stands c u (start policy)
    → StandForOne stands own c u (CanBegin given)
stand_at_start stands own policy c u given same accepted stood =
    rw same (record { state = start policy; sound = sound_start policy accepted; stood = stood; has = start_can_begin policy given })

module _ {C U : Type 0} (S : Ghosts C U) (own policy : Policy) (pace : Pace) (given : ℕ) (old : C) (under : U) (same : own ≡ policy) (accepted : IsAccepted policy) (stood : S.stands old under (start policy)) where
  -- a property of each course is one of the course from the start
  at_start : (P : SourceState → Course → Type 0) (left : Option Left) → OnCourse S.stands policy old under given left (course_of policy pace) P
      → IfSome left (λ l. P (start policy) (course_of policy pace l (start policy) 1))
  at_start P None each = tt
  at_start P (Some l) each = each (start policy) (sound_start policy accepted) stood (start_can_begin policy given).held

  ending_told : (r : Result Ending Stop) (left : Option Left) → IfOk r (λ e. OnCourse S.stands own old under given left (course_of own pace) (λ s run. e ≡ run.ending))
      → IfOk r (λ e. IfSome left (λ l. e ≡ (answer_of policy (pace_of pace) l.packets l.fault).ending))
  ending_told r left each =
      IfOk-weaker r (λ e. OnCourse S.stands policy old under given left (course_of policy pace) (λ s run. e ≡ run.ending)) (λ e. IfSome left (λ l. e ≡ (answer_of policy (pace_of pace) l.packets l.fault).ending))
      (λ e. at_start (λ s run. e ≡ run.ending) left) (rw same at each)

  text_told : (r : Result Ending Stop) (left : Option Left) (new : C) (u : U) (before written : Option (List ℕ)) (held : List ℕ) → held ≡ []
      → OnOk r (OnCourse S.stands own old under given left (course_of own pace) (λ s run. Runs S own run s old under new u (appended before held) written))
      → OnOk r (IfSome left (λ l. Appended before written (answer_of policy (pace_of pace) l.packets l.fault).text))
  text_told r left new u before written held none each =
      on_ok_weaker r (λ all. IfSome_then left (at_start (λ s run. Runs S policy run s old under new u (appended before held) written) left all)
      (λ l runs. whole_text before written held (answer_of policy (pace_of pace) l.packets l.fault).text none runs.report)) (rw same at each)

  part_told : (r : Result Ending Stop) (left : Option Left) (new : C) (u : U) (before written : Option (List ℕ)) (held : List ℕ) → held ≡ [] → Begins before written
      → OnErr r (OnCourse S.stands own old under given left (course_of own pace) (λ s run. Breaks S own run s old under new u (appended before held) written))
      → OnErr r (IfSome left (λ l. AppendedPrefix before written (answer_of policy (pace_of pace) l.packets l.fault).text))
  part_told r left new u before written held none begins each =
      on_err_weaker r (λ all. IfSome_then left (at_start (λ s run. Breaks S policy run s old under new u (appended before held) written) left all)
      (λ l breaks. cut_part before written held (answer_of policy (pace_of pace) l.packets l.fault).text none begins breaks.report)) (rw same at each)

  pub reported : (r : Result Ending Stop) (left : Option Left) (new : C) (u : U) (before written : Option (List ℕ)) (held : List ℕ) → held ≡ [] → Begins before written
      → IfOk r (λ e. OnCourse S.stands own old under given left (course_of own pace) (λ s run. e ≡ run.ending))
      → OnOk r (OnCourse S.stands own old under given left (course_of own pace) (λ s run. Runs S own run s old under new u (appended before held) written))
      → OnErr r (OnCourse S.stands own old under given left (course_of own pace) (λ s run. Breaks S own run s old under new u (appended before held) written))
      → IfSome left (λ l. IsReported r (answer_of policy (pace_of pace) l.packets l.fault) before written)
  reported r None new u before written held none begins ends runs breaks = tt
  reported r (Some l) new u before written held none begins ends runs breaks = record {
    ending = ending_told r (Some l) ends;
    text = text_told r (Some l) new u before written held none runs;
    part = part_told r (Some l) new u before written held none begins breaks;
  }

  pub state_told : (r : Result Ending Stop) (left : Option Left) (new : C) (u : U) (text written : Option (List ℕ))
      → OnOk r (OnCourse S.stands own old under given left (course_of own pace) (λ s run. Runs S own run s old under new u text written))
      → OnOk r (IfSome left (λ l. HasMade S policy (course_of policy pace l (start policy) 1).events (start policy) old under new u))
  state_told r left new u text written each =
      on_ok_weaker r (λ all. IfSome_then left (at_start (λ s run. Runs S policy run s old under new u text written) left all) (λ l runs. runs.leaves)) (rw same at each)

  pub amid_told : (r : Result Ending Stop) (left : Option Left) (new : C) (u : U) (text written : Option (List ℕ))
      → OnErr r (OnCourse S.stands own old under given left (course_of own pace) (λ s run. Breaks S own run s old under new u text written))
      → OnErr r (IfSome left (λ l. HasMadeSome S policy (course_of policy pace l (start policy) 1).events (start policy) old under new u))
  amid_told r left new u text written each =
      on_err_weaker r (λ all. IfSome_then left (at_start (λ s run. Breaks S policy run s old under new u text written) left all) (λ l breaks. breaks.leaves)) (rw same at each)

  pub watched_told : (r : Result Ending Stop) (left : Option Left) (before begun after : Sight) → TapsBegin before begun
      → OnOk r (OnCourse S.stands own old under given left (course_of own pace) (λ s run. Shows (shown_in own (outcomes own run.events s)) begun after))
      → OnOk r (IfSome left (λ l. Watches (shown_in policy (outcomes policy (course_of policy pace l (start policy) 1).events (start policy))) before after))
  watched_told r left before begun after begins each =
      on_ok_weaker r (λ all. IfSome_then left (at_start (λ s run. Shows (shown_in policy (outcomes policy run.events s)) begun after) left all)
      (λ l shows. begins_shows (shown_in policy (outcomes policy (course_of policy pace l (start policy) 1).events (start policy))) before begun after begins shows)) (rw same at each)

  -- nothing is made yet
  pub unmoved : (left : Option Left) → IfSome left (λ l. HasMadeSome S policy (course_of policy pace l (start policy) 1).events (start policy) old under old under)
  unmoved None = tt
  unmoved (Some l) = made_some_none S policy (course_of policy pace l (start policy) 1).events (start policy) stood refl refl refl refl
