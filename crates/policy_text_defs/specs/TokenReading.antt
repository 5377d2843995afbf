-- Reading single tokens, repeated parts and addresses from the left. It serves proofs, as Reading
-- does.
use Rattle.std.specs.Prelude.{◌≡◌, refl, ℕ, zero, suc, nat_le, if◌then◌else◌, List, [], ◌∷◌, length, map, Option, Some, None}
use Rattle.text_core.specs.declared.mark.Mark.TheVariants as m
use Rattle.text_core.specs.Glyphs.{Glyph, text, figure, sign}
use Rattle.policy_text_defs.specs.Ranges.{most_octet, most_prefix}
use Rattle.policy_text_defs.specs.Addresses.{Octets, address_of}
use Rattle.policy_text_defs.specs.Reading.{Outcome, Reader, ◌>>=◌, ◌>>◌, pure, refuse, pick, next, is_sign, is_text, mark, ahead, unit_if}

-- repeats a step, at most N times, while `take` accepts the next tokens
unfoldable pub repeated : {K A : Type 0} → (List Glyph → Outcome K) → (K → A → Reader A) → ℕ → A → Reader A
repeated take step zero a gs = pick (take gs) (Some (a, gs)) (λ t. None)
repeated take step (suc k) a gs = pick (take gs) (Some (a, gs)) (λ t. (step t.0 a >>= repeated take step k) t.1)

unfoldable pub many : {K A : Type 0} → (List Glyph → Outcome K) → (K → A → Reader A) → A → Reader A
many take step a gs = repeated take step (length gs) a gs

-- ---- one token

abbrev pub word_of : Glyph → Reader (List ℕ)
word_of (text w) = pure w
word_of _ = refuse

abbrev pub a_word : Reader (List ℕ)
a_word = next >>= word_of

abbrev pub figure_of : Glyph → Reader ℕ
figure_of (figure n) = pure n
figure_of _ = refuse

abbrev pub a_number : Reader ℕ
a_number = next >>= figure_of

unfoldable pub within : ℕ → ℕ → Reader ℕ
within most n = if nat_le n most then pure n else refuse

abbrev pub number_to : ℕ → Reader ℕ
number_to most = a_number >>= within most

abbrev pub word_ahead : List ℕ → Glyph → Option (Unit {0})
word_ahead w g = unit_if (is_text w g)

-- the number after `..`, or the low one if there is no `..`
unfoldable pub upper : ℕ → Reader ℕ
upper low gs = pick (ahead (λ g. unit_if (is_sign m.DotDot g)) gs) (Some (low, gs)) (λ t. a_number t.1)

abbrev pub octets_at : ℕ → ℕ → ℕ → ℕ → Octets
octets_at a b c d = record { first = a; second = b; third = c; fourth = d }

unfoldable pub address : Reader ℕ
address = do
  a ← number_to most_octet
  mark m.Dot
  b ← number_to most_octet
  mark m.Dot
  c ← number_to most_octet
  mark m.Dot
  d ← number_to most_octet
  pure (address_of (octets_at a b c d))

-- the number after `/`, or the greatest length if there is no `/`
unfoldable pub prefix_length : Reader ℕ
prefix_length gs = pick (ahead (λ g. unit_if (is_sign m.Slash g)) gs) (Some (most_prefix, gs)) (λ t. number_to most_prefix t.1)

-- each of the four numbers is at most 255
octets : map (λ n. address (figure n ∷ sign m.Dot ∷ figure 0 ∷ sign m.Dot ∷ figure 2 ∷ sign m.Dot ∷ figure 1 ∷ [])) (255 ∷ 256 ∷ []) ≡ Some (4278190593, []) ∷ None ∷ []
unfolding address within
octets = refl

last_octets : map (λ n. address (figure 0 ∷ sign m.Dot ∷ figure 0 ∷ sign m.Dot ∷ figure 2 ∷ sign m.Dot ∷ figure n ∷ [])) (255 ∷ 256 ∷ []) ≡ Some (767, []) ∷ None ∷ []
unfolding address within
last_octets = refl

-- a prefix has 0 to 32 bits, and 32 if none is written
prefixes : map prefix_length ((sign m.Slash ∷ figure 0 ∷ []) ∷ (sign m.Slash ∷ figure 32 ∷ []) ∷ (sign m.Slash ∷ figure 33 ∷ []) ∷ [] ∷ []) ≡ Some (0, []) ∷ Some (32, []) ∷ None ∷ Some (32, []) ∷ []
unfolding prefix_length within
prefixes = refl
