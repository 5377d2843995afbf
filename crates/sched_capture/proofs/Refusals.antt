-- The answer for a file that is no capture.
use Rattle.sched_capture.proofs.Prelude.{◌≡◌, List, Some, ℕ, None, Option, sym, subst, [], Result, Err, Ok, IfSome, OnErr, OnOk, IfOk, codes, prefix_of_nothing, appended_nothing, Appended, AppendedPrefix, Stop, FileContents, holds, no_capture, FaultAt, in_file, Resolved, Ending, answer_over, IsRefusal, IsRefusalPart, paced_answer, RunAnswer, refusal_answer, IsReported}
use Rattle.outside_core.specs.Report.{fault_line}
use Rattle.sched_defs.specs.Pace.{Pace}
use Rattle.sched_defs.specs.declared.ending.Ending.TheVariants.{BadCapture}

-- after the fault line is written, the answer is that of a rejected file
pub refusal_told : (c p : ℕ) (before written : Option (List ℕ)) (r : Result Ending Stop) (told : Option (List ℕ)) → IfOk r (λ e. e ≡ BadCapture c p)
    → IfSome told (λ file. in_file file ≡ no_capture (record { code = c; place = p }))
    → OnOk r (Appended before written (fault_line (codes "capture") c p)) → IfOk r (λ e. IfSome told (λ file. IsRefusal (in_file file) e before written))
refusal_told c p before written (Err stop) told ends is line = tt
refusal_told c p before written (Ok e) None ends is line = tt
refusal_told c p before written (Ok e) (Some file) ends is line = record { fault = record { code = c; place = p }; is = is; ends = ends; text = line }

-- nothing written is a prefix of a rejected file's answer
pub nothing_part : (file : FileContents) (old new : Option (List ℕ)) → Appended old new [] → IsRefusalPart file old new
nothing_part (no_capture fault) old new nothing = prefix_of_nothing old new (refusal_answer fault).text nothing
nothing_part (holds contents) old new nothing = nothing

pub none_part : (file : FileContents) (w : Option (List ℕ)) → IsRefusalPart file w w
none_part file w = nothing_part file w w (appended_nothing w)

pub none_told : (told w : Option (List ℕ)) → IfSome told (λ file. IsRefusalPart (in_file file) w w)
none_told None w = tt
none_told (Some file) w = none_part (in_file file) w

-- a prefix of the fault line is written
pub told_part : (file : FileContents) (fault : FaultAt) (old new : Option (List ℕ)) → file ≡ no_capture fault → AppendedPrefix old new (refusal_answer fault).text → IsRefusalPart file old new
told_part file fault old new is part = subst (λ (f : FileContents). IsRefusalPart f old new) (sym is) part

pub refused_part : (c p : ℕ) (old new : Option (List ℕ)) (r : Result Ending Stop) (told : Option (List ℕ)) → IfSome told (λ file. in_file file ≡ no_capture (record { code = c; place = p }))
    → OnErr r (AppendedPrefix old new (fault_line (codes "capture") c p)) → OnErr r (IfSome told (λ file. IsRefusalPart (in_file file) old new))
refused_part c p old new (Ok e) told is part = tt
refused_part c p old new (Err stop) None is part = tt
refused_part c p old new (Err stop) (Some file) is part = told_part (in_file file) (record { code = c; place = p }) old new is part

-- that is the report of each run
module _ (policy : Resolved) (pace : Pace) (old new : Option (List ℕ)) where
  of_file : (file : FileContents) → IsRefusalPart file old new → AppendedPrefix old new (answer_over policy pace file).text
  of_file (no_capture fault) part = part
  of_file (holds contents) nothing = prefix_of_nothing old new (answer_over policy pace (holds contents)).text nothing

  pub refused_report : (r : Result Ending Stop) (told : Option (List ℕ)) → IfOk r (λ e. IfSome told (λ file. IsRefusal (in_file file) e old new))
      → OnErr r (IfSome told (λ file. IsRefusalPart (in_file file) old new)) → IfSome told (λ file. IsReported r (paced_answer policy pace file) old new)
  refused_report r None refused part = tt
  refused_report (Ok e) (Some file) refused part = rw (refused.is) (record { ending = refused.ends; text = refused.text; part = tt })
  refused_report (Err stop) (Some file) refused part = record { ending = tt; text = tt; part = of_file (in_file file) part }

-- a run that stops before it begins has written nothing
pub unreported : {X : Type 0} (stop : Stop) (told : Option X) (w : Option (List ℕ)) (answer : X → RunAnswer) → IfSome told (λ x. IsReported (Err stop) (answer x) w w)
unreported stop None w answer = tt
unreported stop (Some x) w answer = record { ending = tt; text = tt; part = prefix_of_nothing w w (answer x).text (appended_nothing w) }
