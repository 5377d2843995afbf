-- The events of a run that ends with its first late departure.
use Rattle.forward_defs.proofs.Prelude.{List, [], refl, ℕ, ◌∷◌, ◌≡◌, ap, ◌++◌, Bool, Option, false, if◌then◌else◌, true, true≢false, Event, Arrive, Depart, up_to_late, has_late, is_late}

-- after a departure, if the rest is known
first_behind : (t : Bool) (start : Option ℕ) (es : List Event) → (others : List Event) × (up_to_late es ++ others ≡ es)
    → (others : List Event) × (Depart start ∷ ((if t then [] else up_to_late es) ++ others) ≡ Depart start ∷ es)
first_behind true start es later = (es, refl)
first_behind false start es later = (later.0, ap (λ (l : List Event). Depart start ∷ l) later.1)

-- they are a prefix of all events
pub up_to_late-first : (events : List Event) → (others : List Event) × (up_to_late events ++ others ≡ events)
up_to_late-first [] = ([], refl)
up_to_late-first (Arrive p ∷ es) =
    let later = up_to_late-first es in
    (later.0, ap (λ (l : List Event). Arrive p ∷ l) later.1)
up_to_late-first (Depart start ∷ es) = first_behind (is_late start) start es (up_to_late-first es)

whole_behind : (t : Bool) (start : Option ℕ) (es : List Event) → (has_late es ≡ false → up_to_late es ≡ es) → (if t then true else has_late es) ≡ false
    → Depart start ∷ (if t then [] else up_to_late es) ≡ Depart start ∷ es
whole_behind true start es later is = absurd (true≢false is)
whole_behind false start es later is = ap (λ (l : List Event). Depart start ∷ l) (later is)

-- if none is late, they are all events
pub up_to_late-whole : (events : List Event) → has_late events ≡ false → up_to_late events ≡ events
up_to_late-whole [] none = refl
up_to_late-whole (Arrive p ∷ es) none = ap (λ (l : List Event). Arrive p ∷ l) (up_to_late-whole es none)
up_to_late-whole (Depart start ∷ es) none = whole_behind (is_late start) start es (up_to_late-whole es) none
