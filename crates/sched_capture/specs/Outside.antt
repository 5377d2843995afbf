-- What a run writes and leaves outside, and why it stops with an error.
use Rattle.std.specs.Prelude.{◌≡◌, ◌≤◌, ℕ, Option, List, Result, IfOk, IfErr, OnOk, OnErr}
use Rattle.outside_core.specs.Written.{Appended, AppendedPrefix}
use Rattle.outside_core.specs.Kept.{KeepsSink, HasCause}
use Rattle.outside_core.specs.declared.stop.Stop.{Stop}
use Rattle.sched_defs.specs.declared.ending.Ending.{Ending}
use Rattle.sched_capture.specs.Answers.{RunAnswer}

-- a run that ends has this ending and wrote this text; one that stops wrote a prefix of it
pub record IsReported (result : Result Ending Stop) (answer : RunAnswer) (before written : Option (List ℕ)) : Type 0 where
  pub ending : IfOk result (λ e. e ≡ answer.ending)
  pub text : OnOk result (Appended before written answer.text)
  pub part : OnErr result (AppendedPrefix before written answer.text)

-- the text written only grows, no fault count falls, and a run that stops has a cause
pub record KeepsOutside {S K X : Type 0} (result : Result X Stop) (source_faults : S → ℕ) (s s' : S) (written : K → Option (List ℕ)) (sink_faults : K → ℕ) (k k' : K) : Type 0 where
  pub kept : KeepsSink written sink_faults k k'
  pub later : source_faults s ≤ source_faults s'
  pub cause : IfErr result (λ stop. HasCause stop source_faults s s' sink_faults k k')
