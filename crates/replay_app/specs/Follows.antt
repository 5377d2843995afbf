-- Outputs that depend on an input, which may be rejected.
use Rattle.std.specs.Prelude.{ℕ, Result, Ok, Err}
use Rattle.report_core.specs.declared.fault.FaultKind.{FaultKind}
use Rattle.replay_app.specs.Answer.{Answer, refusal}
use Rattle.replay_app.specs.declared.refusal.Refusal.{Refusal}

-- The input is rejected, and one line reports the error; or it is accepted as `t`, and the output
-- is one that `after` gives for `t`.
pub data Follows {T : Type 0} (kind : FaultKind) (refused : ℕ → ℕ → Type 0) (accepted : T → Type 0) (after : T → Answer → Type 0) : Answer → Type 0 where
  stops : (code place : ℕ) → refused code place → Follows kind refused accepted after (refusal kind code place)
  goes_on : (t : T) (a : Answer) → accepted t → after t a → Follows kind refused accepted after a

-- what is read of a text: rejected for a cause that `refused` allows, or accepted
abbrev pub IsRead : {T : Type 0} → (ℕ → ℕ → Type 0) → (T → Type 0) → Result T Refusal → Type 0
IsRead refused accepted (Ok t) = accepted t
IsRead refused accepted (Err r) = refused r.code r.place
