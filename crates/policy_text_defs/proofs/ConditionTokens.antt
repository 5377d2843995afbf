-- The tokens of the canonical text of ranges, addresses and conditions.
use Rattle.policy_text_defs.proofs.Prelude.{List, ℕ, [], ◌∷◌, ◌++◌, codes, ◌==◌, if◌then◌else◌, Glyph, text, figure, sign, octets_of, octet_tokens, field_word, Condition}
use Rattle.text_core.specs.declared.mark.Mark.TheVariants as m
use Rattle.policy_text_defs.specs.declared.condition.Condition.TheVariants as condition

abbrev pub range_tokens : ℕ → ℕ → List Glyph
range_tokens low high = if low == high then figure low ∷ [] else (figure low ∷ sign m.DotDot ∷ figure high ∷ [])

abbrev pub address_tokens : ℕ → ℕ → List Glyph
address_tokens a l = octet_tokens (octets_of a) ++ sign m.Slash ∷ figure l ∷ []

abbrev pub condition_tokens : Condition → List Glyph
condition_tokens (condition.Field f low high) = text (field_word f) ∷ range_tokens low high
condition_tokens (condition.Source a l) = text (codes "src") ∷ address_tokens a l
condition_tokens (condition.Dest a l) = text (codes "dst") ∷ address_tokens a l
condition_tokens condition.Ipv4 = text (codes "ipv4") ∷ []
condition_tokens condition.Ipv6 = text (codes "ipv6") ∷ []

abbrev pub more_conditions_tokens : List Condition → List Glyph
more_conditions_tokens [] = []
more_conditions_tokens (c ∷ cs) = text (codes "and") ∷ condition_tokens c ++ more_conditions_tokens cs

abbrev pub guard_tokens : List Condition → List Glyph
guard_tokens [] = []
guard_tokens (c ∷ cs) = text (codes "when") ∷ condition_tokens c ++ more_conditions_tokens cs
