-- Bytes taken from the remaining bytes, in one piece or in several.
use Rattle.pcap_core.proofs.Prelude.{◌≡◌, ap, arith, [], ◌∙◌, List, None, sym, ℕ, ◌++◌, Option, Some, length, refl, append_assoc, length-append, subst, drop, drop_at, IfSome, Passes, TakesFront, rest_of, IsShort}

-- taking bytes skips them
pub passes-taken : (old new : Option (List ℕ)) (bytes : List ℕ) → TakesFront old new bytes → Passes (length bytes) old new
passes-taken None new bytes taken = tt
passes-taken (Some old) None bytes taken = absurd taken
passes-taken (Some old) (Some new) bytes taken =
    (omega (arith, ap length taken, length-append bytes new), sym (ap (drop (length bytes)) taken ∙ drop_at bytes new (length bytes) refl))

-- the first bytes taken
pub taken-first : (none held : List ℕ) (left new : Option (List ℕ)) (bytes : List ℕ) → none ≡ [] → TakesFront (rest_of (none ++ held) left) new bytes → TakesFront (rest_of held left) new bytes
taken-first none held left new bytes e h = subst (λ (xs : List ℕ). TakesFront (rest_of (xs ++ held) left) new bytes) e h

pub short-first : (none held : List ℕ) (left : Option (List ℕ)) (bytes : List ℕ) (most : ℕ) → none ≡ [] → IsShort (rest_of (none ++ held) left) bytes most → IsShort (rest_of held left) bytes most
short-first none held left bytes most e h = subst (λ (xs : List ℕ). IsShort (rest_of (xs ++ held) left) bytes most) e h

-- the remaining bytes before: the bytes taken, and the bytes left after them
pub taken-whole : (P : List ℕ → Type 0) (old left : Option (List ℕ)) (bytes held : List ℕ) → TakesFront old (rest_of held left) bytes → IfSome (rest_of (bytes ++ held) left) P → IfSome old P
taken-whole P None left bytes held taken h = tt
taken-whole P (Some old) None bytes held taken h = absurd taken
taken-whole P (Some old) (Some left) bytes held taken h = subst P (append_assoc bytes held left ∙ sym taken) h

-- bytes taken in two pieces, the second together with the first
pub taken-more : (old left new : Option (List ℕ)) (bytes held more : List ℕ) → TakesFront old (rest_of held left) bytes → TakesFront (rest_of (bytes ++ held) left) new more → TakesFront old new more
taken-more None left new bytes held more first second = tt
taken-more (Some old) None new bytes held more first second = absurd first
taken-more (Some old) (Some left) None bytes held more first second = absurd second
taken-more (Some old) (Some left) (Some new) bytes held more first second = first ∙ sym (append_assoc bytes held left) ∙ second

-- skipping the bytes in front of the window's bytes leaves those and the rest of the file
pub passes-kept : (bytes held : List ℕ) (left : Option (List ℕ)) → Passes (length bytes) (rest_of (bytes ++ held) left) (rest_of held left)
passes-kept bytes held None = tt
passes-kept bytes held (Some left) =
    (omega (arith, length-append (bytes ++ held) left, length-append bytes held), sym (ap (drop (length bytes)) (append_assoc bytes held left) ∙ drop_at bytes (held ++ left) (length bytes) refl))
