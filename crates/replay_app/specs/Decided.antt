-- Inputs that are accepted before anything runs.
use Rattle.std.specs.Prelude.{◌≡◌, ℕ, Option, None, Some, List, [], ◌++◌, Vec, Result, Ok, Err}
use Rattle.std.specs.declared.alloc.Global.{Global}
use Rattle.outside_core.specs.Faults.{Rose}
use Rattle.outside_core.specs.Report.{fault_line}
use Rattle.outside_core.specs.declared.stop.Stop.TheVariants.{Source, Sink, Memory}
use Rattle.report_core.specs.Faults.{word_of}
use Rattle.report_core.specs.declared.fault.FaultKind.{FaultKind}
use Rattle.replay_app.specs.Answer.{Answer, text_alone}
use Rattle.replay_app.specs.Statuses.{status_code, kind_status, IsOneOf}
use Rattle.replay_app.specs.declared.not_run.NotRun.{NotRun}
use Rattle.replay_app.specs.declared.not_run.NotRun.TheVariants.{Rejected, Stopped}
use Rattle.replay_app.specs.declared.not_run.Rejection.{Rejection}

-- what is written before the line of an error
abbrev pub text_before : Option (Vec ℕ Global) → List ℕ
text_before None = []
text_before (Some text) = text.items

-- the output if an input is rejected
abbrev pub rejected : Rejection → Answer
rejected r = text_alone (status_code (kind_status r.kind)) (text_before r.before ++ fault_line (word_of r.kind) r.cause.code r.cause.place)

-- ---- one input
-- the input is accepted, or rejected with a code and position that `refused` allows, and nothing is
-- written before its line
abbrev pub IsInput : {T : Type 0} → (ℕ → ℕ → Type 0) → (T → Type 0) → Result T NotRun → Type 0
IsInput refused accepted (Ok t) = accepted t
IsInput refused accepted (Err (Rejected r)) = refused r.cause.code r.cause.place × (r.before ≡ None)
IsInput refused accepted (Err (Stopped stop)) = Unit {0}

-- if the input is rejected, it is of this kind
abbrev pub IsOfKind : {T : Type 0} → FaultKind → Result T NotRun → Type 0
IsOfKind kind (Ok t) = Unit {0}
IsOfKind kind (Err (Rejected r)) = r.kind ≡ kind
IsOfKind kind (Err (Stopped stop)) = Unit {0}

-- if an input is rejected, the status is one of these
abbrev pub RejectsWith : {T : Type 0} → List ℕ → Result T NotRun → Type 0
RejectsWith statuses (Ok t) = Unit {0}
RejectsWith statuses (Err (Rejected r)) = IsOneOf statuses (status_code (kind_status r.kind))
RejectsWith statuses (Err (Stopped stop)) = Unit {0}

-- ---- all inputs of a command
-- each output of the one is an output of the other
pub record AreSame (one other : Answer → Type 0) : Type 0 where
  pub to : (a : Answer) → one a → other a
  pub from : (a : Answer) → other a → one a

-- all inputs are accepted, and the outputs are those of what then runs; or an input is rejected, and
-- the only output says so
abbrev pub IsDecided : {J : Type 0} → (Answer → Type 0) → (J → Answer → Type 0) → Result J NotRun → Type 0
IsDecided output after (Ok job) = AreSame output (after job)
IsDecided output after (Err (Rejected r)) = AreSame output (λ a. a ≡ rejected r)
IsDecided output after (Err (Stopped stop)) = Unit {0}

-- reading stops with an error only if the source's fault count rose, or if memory ran out
abbrev pub StopsReading : {T : Type 0} → Result T NotRun → ℕ → ℕ → Type 0
StopsReading (Ok t) before after = Unit {0}
StopsReading (Err (Rejected r)) before after = Unit {0}
StopsReading (Err (Stopped Source)) before after = Rose before after
StopsReading (Err (Stopped Sink)) before after = ⊥
StopsReading (Err (Stopped Memory)) before after = Unit {0}

-- work that reads nothing stops with an error only if memory ran out
abbrev pub StopsForMemory : {T : Type 0} → Result T NotRun → Type 0
StopsForMemory (Ok t) = Unit {0}
StopsForMemory (Err (Rejected r)) = Unit {0}
StopsForMemory (Err (Stopped stop)) = stop ≡ Memory
