-- Errors that are passed on.
use Rattle.policy_text.proofs.Prelude.{◌≡◌, None, Outcome, Refusal, NoForm, NoMemory, Refuses}

-- an error is passed on, if it means for the second reading what it means for the first
pub refused : {A B : Type 0} (e : Refusal) (read : Outcome A) (read' : Outcome B) → (read ≡ None → read' ≡ None) → Refuses e read → Refuses e read'
refused NoForm read read' f none = f none
refused NoMemory read read' f none = tt
