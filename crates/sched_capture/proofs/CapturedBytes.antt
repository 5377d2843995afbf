-- The captured bytes of the packets left.
use Rattle.sched_capture.proofs.Prelude.{◌≡◌, List, Some, ℕ, None, Option, sym, subst, ◌+◌, ◌∷◌, Comes, Contents, CapturedPacket, Captured, AreCaptured, AreCapturedFrom}

-- the next packet has these bytes
pub bytes_of_next : (n : ℕ) (old new : Option Contents) (p : CapturedPacket) → Comes old new p → (bytes : Captured) → AreCaptured old n bytes → bytes (n + 1) ≡ p.captured
bytes_of_next n None new p came bytes are = absurd are
bytes_of_next n (Some old) None p came bytes are = absurd came
bytes_of_next n (Some old) (Some new) p came bytes are =
    let both : AreCapturedFrom (n + 1) (p ∷ new.packets) bytes = subst (λ (ps : List CapturedPacket). AreCapturedFrom (n + 1) ps bytes) came.0 are in
    both.0

-- and the packets after it have theirs
pub bytes_of_others : (n next : ℕ) (old new : Option Contents) (p : CapturedPacket) → next ≡ n + 1 → Comes old new p → (bytes : Captured) → AreCaptured old n bytes → AreCaptured new next bytes
bytes_of_others n next None new p one came bytes are = absurd are
bytes_of_others n next (Some old) None p one came bytes are = absurd came
bytes_of_others n next (Some old) (Some new) p one came bytes are =
    let both : AreCapturedFrom (n + 1) (p ∷ new.packets) bytes = subst (λ (ps : List CapturedPacket). AreCapturedFrom (n + 1) ps bytes) came.0 are in
    subst (λ (m : ℕ). AreCapturedFrom (m + 1) new.packets bytes) (sym one) both.1
