-- A run with another recorder than a report.
use Rattle.study.proofs.Prelude.{ap, ◌∙◌, ◌≡◌, refl, List, inl, ℕ, Option, None, Some, sym, inr, subst, ◌++◌, ◌+◌, IfSome, appended_nothing, prefix_of_nothing, IsAccepted, Policy, Resolved, paced_answer, IsRefusal, IsRefusalPart, answer_over, Event, Outcome, outcomes, CanMake, after, Captured, AreThere, Left, start, Ending, pace_of, HasRecordedPart, HasRecorded, IsWholeRun, answer_of}
use Rattle.std.proofs.lemmas.Option.{IfSome_then}
use Rattle.study.proofs.ResultLaws.{if_told}
use Rattle.pcap_defs.specs.Contents.{FileContents, no_capture, holds}
use Rattle.pcapng_defs.specs.NgContents.{in_file}
use Rattle.sched_defs.proofs.Soundness.{sound_start}
use Rattle.sched_defs.proofs.Runs.{outcomes-append}
use Rattle.sched_core.specs.declared.scheduler.Scheduler.{Ghosts}
use Rattle.sched_capture.specs.Arrivals.{Begins}
use Rattle.sched_run.specs.declared.recorder.Recorder as recorder
use Rattle.sched_run.specs.declared.pace.Pace as code
use Rattle.sched_run.specs.Recording.{AreJoined}
use Rattle.sched_run.specs.RecordingKinds.{recording}
use Rattle.sched_run.specs.Stages.{Stage, event_of, FromEach}
use Rattle.sched_run.specs.Turns.{AreFirst, StopsAmid}
use Rattle.sched_run.specs.Courses.{course_of, IsCourse, Courses}
use Rattle.sched_run.proofs.StartLaws.{start_can_begin}
use Rattle.sched_run.proofs.MadeEvents.{can_make}
use Rattle.study.specs.declared.recorded.Recorded.TheVariants.{Whole, Refused}

-- ---- over the packets left
module _ {C U W : Type 0} (S : Ghosts C U) (R : recorder.Ghosts W) (laws : (captured : Captured) → AreJoined (R.records captured) (R.cuts captured)) (H : Captured → Type 0) (policy : Policy) (accepted : IsAccepted policy) (pace : code.Pace)
    (old : Stage C U W) (one : event_of old.tally ≡ 1) (stood : S.stands old.scheduler old.under (start policy)) where
  -- the events of the run from the start
  abbrev events_over : Left → List Event
  events_over l = (course_of policy pace l (start policy) 1).events

  pub recorded_whole : (left : Option Left) → AreThere left H → (e : Ending) (new : Stage C U W) → R.live new.recorder → Courses S (recording R H) policy (course_of policy pace) e left old new
      → IfSome left (λ l. IsWholeRun R policy (answer_of policy (pace_of pace) l.packets l.fault) old.recorder old.written e new.recorder new.written)
  recorded_whole left there e new live courses = by_left left there courses.told
    where
      by_left : (a : Option Left) → AreThere a H → IfSome a (λ l. FromEach S policy old (λ s. IsCourse courses.events e (course_of policy pace l s (event_of old.tally))))
          → IfSome a (λ l. IsWholeRun R policy (answer_of policy (pace_of pace) l.packets l.fault) old.recorder old.written e new.recorder new.written)
      by_left None known told = tt
      by_left (Some l) known told =
          let sound = sound_start policy accepted in
          let below = (start_can_begin policy old.given).held in
          let is = told (start policy) sound stood below in
          let are : courses.events ≡ events_over l = is.are ∙ ap (λ (n : ℕ). (course_of policy pace l (start policy) n).events) one in
          let played = courses.made.played (start policy) sound stood below in
          record {
            ends = is.ends ∙ ap (λ (n : ℕ). (course_of policy pace l (start policy) n).ending) one;
            events = events_over l;
            are = refl;
            can = subst (λ (es : List Event). CanMake policy es (start policy)) are (can_make policy courses.events (old.given + 1) (start policy) courses.made.next.numbered courses.made.next.sendable below);
            recorded = (
              known.0,
              subst (λ (es : List Event). R.records known.0 old.recorder old.written policy 1 (outcomes policy es (start policy)) new.recorder new.written) are
                  (subst (λ (n : ℕ). R.records known.0 old.recorder old.written policy n (outcomes policy courses.events (start policy)) new.recorder new.written) one (played.recorded known.0 known.1)),
            );
            live = live;
          }

  pub cut_amid : (left : Option Left) → AreThere left H → (c : C) (u : U) (written : Option (List ℕ)) → StopsAmid S (recording R H) policy (λ l s. (course_of policy pace l s (event_of old.tally)).events) left old c u written
      → IfSome left (λ l. HasRecordedPart R policy (answer_of policy (pace_of pace) l.packets l.fault) old.recorder old.written written)
  cut_amid left there c u written amid = by_left left there amid.first
    where
      by_left : (a : Option Left) → AreThere a H → IfSome a (λ l. FromEach S policy old (λ s. AreFirst amid.events (course_of policy pace l s (event_of old.tally)).events))
          → IfSome a (λ l. HasRecordedPart R policy (answer_of policy (pace_of pace) l.packets l.fault) old.recorder old.written written)
      by_left None known first = tt
      by_left (Some l) known first =
          let sound = sound_start policy accepted in
          let below = (start_can_begin policy old.given).held in
          let front = first (start policy) sound stood below in
          let whole : amid.events ++ front.0 ≡ events_over l = front.1 ∙ ap (λ (n : ℕ). (course_of policy pace l (start policy) n).events) one in
          let stopped = amid.stop.stopped (start policy) sound stood below in
          let os : List Outcome = outcomes policy amid.events (start policy) in
          let ps : List Outcome = outcomes policy front.0 (after policy amid.events (start policy)) in
          let all : os ++ ps ≡ outcomes policy (events_over l) (start policy) = sym (outcomes-append policy amid.events front.0 (start policy)) ∙ ap (λ (es : List Event). outcomes policy es (start policy)) whole in
          let cut : R.cuts known.0 old.recorder old.written policy 1 os written =
          subst (λ (n : ℕ). R.cuts known.0 old.recorder old.written policy n os written) one (stopped.cut known.0 known.1) in
          inl (known.0, subst (λ (qs : List Outcome). R.cuts known.0 old.recorder old.written policy 1 qs written) all ((laws known.0).longer policy 1 os ps old.recorder old.written written cut))

-- ---- over a file
module _ {W : Type 0} (R : recorder.Ghosts W) (policy : Resolved) (pace : code.Pace) (w : W) where
  pub whole_over_file : (told : Option (List ℕ)) (left : Option Left) (e : Ending) (v : W) (a b : Option (List ℕ)) → IfSome told (λ file. Begins policy (in_file file) left)
      → IfSome left (λ l. IsWholeRun R policy.policy (answer_of policy.policy (pace_of pace) l.packets l.fault) w a e v b) → IfSome told (λ file. HasRecorded R policy.policy (paced_answer policy (pace_of pace) file) w a (Whole e v) b)
  whole_over_file told left e v a b begins whole = IfSome_then told begins (λ file. over (in_file file))
    where
      over : (contents : FileContents) → Begins policy contents left → HasRecorded R policy.policy (answer_over policy (pace_of pace) contents) w a (Whole e v) b
      over (no_capture fault) begun = absurd begun
      over (holds contents) begun = rw begun at whole

  pub part_over_file : (told : Option (List ℕ)) (left : Option Left) (a b : Option (List ℕ)) → IfSome told (λ file. Begins policy (in_file file) left)
      → IfSome left (λ l. HasRecordedPart R policy.policy (answer_of policy.policy (pace_of pace) l.packets l.fault) w a b) → IfSome told (λ file. HasRecordedPart R policy.policy (paced_answer policy (pace_of pace) file) w a b)
  part_over_file told left a b begins part = IfSome_then told begins (λ file. over (in_file file))
    where
      over : (contents : FileContents) → Begins policy contents left → HasRecordedPart R policy.policy (answer_over policy (pace_of pace) contents) w a b
      over (no_capture fault) begun = absurd begun
      over (holds contents) begun = rw begun at part

  -- the file is no capture
  pub refused_over_file : (told : Option (List ℕ)) (e : Ending) (a b : Option (List ℕ)) → IfSome told (λ file. IsRefusal (in_file file) e a b)
      → IfSome told (λ file. HasRecorded R policy.policy (paced_answer policy (pace_of pace) file) w a (Refused e) b)
  refused_over_file told e a b = λ refusal. IfSome_then told refusal (λ file is. rw is.is (record { ends = is.ends; none = refl; text = is.text }))

  pub refused_part_over_file : (told a b : Option (List ℕ)) → IfSome told (λ file. IsRefusalPart (in_file file) a b)
      → IfSome told (λ file. HasRecordedPart R policy.policy (paced_answer policy (pace_of pace) file) w a b)
  refused_part_over_file told a b part = IfSome_then told part (λ file. over (in_file file))
    where
      over : (contents : FileContents) → IsRefusalPart contents a b → HasRecordedPart R policy.policy (answer_over policy (pace_of pace) contents) w a b
      over (no_capture fault) is = is
      over (holds contents) is = inr is

  -- nothing is read or written yet
  pub none_over_file : (told a : Option (List ℕ)) → IfSome told (λ file. HasRecordedPart R policy.policy (paced_answer policy (pace_of pace) file) w a a)
  none_over_file told a = if_told told (λ file. over (in_file file))
    where
      over : (contents : FileContents) → HasRecordedPart R policy.policy (answer_over policy (pace_of pace) contents) w a a
      over (no_capture fault) = prefix_of_nothing a a _ (appended_nothing a)
      over (holds contents) = inr (appended_nothing a)
