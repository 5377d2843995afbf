use Rattle.tap_core.proofs.Prelude.{◌≡◌, List, ℕ, Vec, Err, Ok, Result, IfOk, Global, entries, Entry, Slot, Tracks, lines_of, TapKind}
use Rattle.tap_core.proofs.watching.Watching.lines.Goals as goal

-- the text for every list of entries, if it holds for each of them
lines_for_all : {T E : Type 0} (kind_of : T → TapKind) (state_of : T → List ℕ) (r : Result (Vec ℕ Global) E)
    (s ss : List Slot) (t ts : List T) → s ≡ ss → t ≡ ts
    → ((all : List Entry) → Tracks all s (entries kind_of state_of t) → IfOk r (λ text. text.items ≡ lines_of all))
    → IfOk r (λ text. (all : List Entry) → Tracks all ss (entries kind_of state_of ts) → text.items ≡ lines_of all)
lines_for_all kind_of state_of (Ok text) s ss t ts s-is t-is lines =
    λ all start. lines all (rw (s-is, t-is) start)
lines_for_all kind_of state_of (Err e) s ss t ts s-is t-is lines = tt

pub returns : goal.returns
returns g c =
    record { text = lines_for_all _ _ c.lines.result _ _ _ _ c.deref.ensures.value c.deref-2.ensures.value c.lines.ensures.text }
