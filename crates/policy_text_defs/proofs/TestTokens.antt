-- The tokens of the canonical text of tests.
use Rattle.policy_text_defs.proofs.Prelude.{List, [], ◌∷◌, ◌++◌, Bool, true, false, codes, Glyph, text, figure, sign}
use Rattle.std.specs.Net.Text.{hex_groups_text}
use Rattle.text_core.specs.declared.mark.Mark.TheVariants as m
use Rattle.policy_text_defs.specs.declared.test.Range.{Range}
use Rattle.policy_text_defs.specs.declared.test.Prefix.{Prefix}
use Rattle.policy_text_defs.specs.declared.test.Prefix.TheVariants.{V4, V6}
use Rattle.policy_text_defs.specs.declared.test.Flag.{Flag}
use Rattle.policy_text_defs.specs.declared.test.TcpFlags.{TcpFlags}
use Rattle.policy_text_defs.specs.declared.test.Probe.{Probe}
use Rattle.policy_text_defs.specs.declared.test.Probe.TheVariants as probe
use Rattle.policy_text_defs.specs.declared.test.Test.{Test}
use Rattle.policy_text_defs.specs.Tests.{test_field_word, flag_word, more_flags}
use Rattle.policy_text_defs.specs.Canonical.{segments_of, set_among, all_flags}
use Rattle.policy_text_defs.proofs.ConditionTokens.{range_tokens, address_tokens}

-- the tokens of each item after the separator
abbrev pub each_tokens : {A : Type 0} → Glyph → (A → List Glyph) → List A → List Glyph
each_tokens separator tokens [] = []
each_tokens separator tokens (a ∷ others) = separator ∷ tokens a ++ each_tokens separator tokens others

abbrev pub range_of_tokens : Range → List Glyph
range_of_tokens r = range_tokens r.low r.high

abbrev pub ranges_tokens : List Range → List Glyph
ranges_tokens [] = []
ranges_tokens (r ∷ []) = range_of_tokens r
ranges_tokens (r ∷ q ∷ rs) = sign m.OpenBrace ∷ (range_of_tokens r ++ each_tokens (sign m.Comma) range_of_tokens (q ∷ rs)) ++ sign m.CloseBrace ∷ []

abbrev pub prefix_tokens : Prefix → List Glyph
prefix_tokens (V4 a l) = address_tokens a l
prefix_tokens (V6 a l) = text (hex_groups_text (segments_of a)) ∷ sign m.Slash ∷ figure l ∷ []

abbrev pub listed_tokens : List Flag → List Glyph
listed_tokens [] = text (codes "none") ∷ []
listed_tokens (k ∷ ks) = text (flag_word k) ∷ more_flags ks

abbrev pub flags_tokens : TcpFlags → List Glyph
flags_tokens a = listed_tokens (set_among a all_flags)

abbrev pub probe_tokens : Probe → List Glyph
probe_tokens (probe.Among f rs) = text (test_field_word f) ∷ ranges_tokens rs
probe_tokens (probe.Source p) = text (codes "src") ∷ prefix_tokens p
probe_tokens (probe.Dest p) = text (codes "dst") ∷ prefix_tokens p
probe_tokens (probe.Flags v k) = text (codes "tcpflags") ∷ flags_tokens v ++ sign m.Slash ∷ flags_tokens k
probe_tokens probe.Ipv4 = text (codes "ipv4") ∷ []
probe_tokens probe.Ipv6 = text (codes "ipv6") ∷ []

abbrev pub not_tokens : Bool → List Glyph
not_tokens true = text (codes "not") ∷ []
not_tokens false = []

abbrev pub test_tokens : Test → List Glyph
test_tokens t = not_tokens t.negated ++ probe_tokens t.probe

abbrev pub tests_tokens : List Test → List Glyph
tests_tokens [] = []
tests_tokens (t ∷ ts) = test_tokens t ++ each_tokens (text (codes "and")) test_tokens ts

abbrev pub alternatives_tokens : List (List Test) → List Glyph
alternatives_tokens [] = []
alternatives_tokens (c ∷ cs) = text (codes "when") ∷ tests_tokens c ++ each_tokens (text (codes "or")) tests_tokens cs
