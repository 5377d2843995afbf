-- Outputs for maps that break no clause, and for maps that break one.
use Rattle.replay_app.proofs.Prelude.{sym, ℕ, List, ◌≡◌, refl, ◌∙◌, [], Option, Some, None, MapFault, Answer, pair_text, Unbroken, map_refusal}
use Rattle.mapcheck_core.specs.declared.fault.MapFault.TheVariants as fault

-- ---- outputs
pub one-unbroken : (names : List (List ℕ)) (broken : Option MapFault) (after : Answer → Type 0) → ((a b : Answer) → after a → after b → a ≡ b)
    → (a b : Answer) → Unbroken names broken after a → Unbroken names broken after b → a ≡ b
one-unbroken names None after one a b x y = one a b x y
one-unbroken names (Some f) after one a b x y = x ∙ sym y

pub some-unbroken : (names : List (List ℕ)) (broken : Option MapFault) (after : Answer → Type 0) → (((a : Answer) → after a → ⊥) → ⊥)
    → ((a : Answer) → Unbroken names broken after a → ⊥) → ⊥
some-unbroken names None after some none = some none
some-unbroken names (Some f) after some none = none (map_refusal names f) refl

-- ---- the line of a pair
pub no_pair : (names : List (List ℕ)) (f : MapFault) → ((a b : ℕ) → f ≡ fault.Prefix a b → ⊥) → [] ≡ pair_text names f
no_pair names fault.TooLong none = refl
no_pair names (fault.Line n) none = refl
no_pair names (fault.Unknown n) none = refl
no_pair names (fault.Twice n) none = refl
no_pair names (fault.Missing n) none = refl
no_pair names (fault.NoAddress n) none = refl
no_pair names (fault.Root n) none = refl
no_pair names (fault.Leaf n) none = refl
no_pair names (fault.Prefix a b) none = absurd (none a b refl)
no_pair names fault.NoMemory none = refl
