-- The tokens of the canonical text of tests have their forms.
use Rattle.policy_text_defs.proofs.Prelude.{List, ℕ, [], refl, ◌≡◌, ◌∷◌, ◌++◌, subst, Bool, true, false, sym, arith, codes, ◌≤◌, ap, cond, ◌<◌, eqb, eqb-true, append-nil, AllByRecursion, Glyph, text, figure, sign}
use Rattle.std.specs.Net.Text.{hex_groups_text}
use Rattle.std.proofs.NetLemmas.Texts.{IsColonHex-hex_groups_text}
use Rattle.text_core.specs.declared.mark.Mark.TheVariants as m
use Rattle.policy_text_defs.specs.declared.test.Range.{Range}
use Rattle.policy_text_defs.specs.declared.test.TestField.{TestField}
use Rattle.policy_text_defs.specs.declared.test.Prefix.{Prefix}
use Rattle.policy_text_defs.specs.declared.test.Prefix.TheVariants.{V4, V6}
use Rattle.policy_text_defs.specs.declared.test.Flag.{Flag}
use Rattle.policy_text_defs.specs.declared.test.Flag.TheVariants.{Fin, Syn, Rst, Psh, Ack, Urg, Ece, Cwr}
use Rattle.policy_text_defs.specs.declared.test.TcpFlags.{TcpFlags}
use Rattle.policy_text_defs.specs.declared.test.Probe.{Probe}
use Rattle.policy_text_defs.specs.declared.test.Probe.TheVariants as probe
use Rattle.policy_text_defs.specs.declared.test.Test.{Test}
use Rattle.policy_text_defs.specs.Tests.{test_field_most, Separated, last_part, more_parts, range_at, IsRange, one_value, values, AreRanges, one_range, braced, IsPrefix, version_4, prefix_6, has_flag, with_flag, no_flags, Adds, adds_none, adds, AreFlags, without, these_flags, IsProbe, among, source, dest, flags, ipv4, ipv6, test_at, IsTest, plain, negated, AreTests, Alternatives, unconditional, alternatives}
use Rattle.policy_text_defs.specs.Canonical.{segments_of, set_among, all_flags}
use Rattle.policy_text_defs.specs.Valid.{IsRangeOf, AreRangesOf, IsValidPrefix, IsValidProbe, IsValidTest, AreValidTests}
use Rattle.policy_text_defs.proofs.Segments.{joined_same, segments_fit}
use Rattle.policy_text_defs.proofs.ConditionForms.{address_form}
use Rattle.policy_text_defs.proofs.TestTokens.{each_tokens, range_of_tokens, ranges_tokens, prefix_tokens, listed_tokens, flags_tokens, probe_tokens, test_tokens, tests_tokens, alternatives_tokens}

-- ---- parts in a row

module _ {A : Type 0} {Part : List Glyph → A → Type 0} {Valid : A → Type 0} (s : Glyph) (tokens : A → List Glyph) (form : (a : A) → Valid a → Part (tokens a) a) where
  row_form : (a : A) (others : List A) → Valid a → AllByRecursion Valid others → Separated Part s (tokens a ++ each_tokens s tokens others) (a ∷ others)
  row_form a [] is all = subst (λ l. Separated Part s l (a ∷ [])) (sym (append-nil (tokens a))) (last_part (tokens a) a (form a is))
  row_form a (b ∷ others) is all = more_parts (tokens a) (tokens b ++ each_tokens s tokens others) a (b ∷ others) (form a is) (row_form b others all.0 all.1)

-- ---- ranges

range_case : (f : TestField) (low high : ℕ) (v : Bool) → eqb low high ≡ v → low ≤ high → high ≤ test_field_most f → IsRange f (cond v (figure low ∷ []) (figure low ∷ sign m.DotDot ∷ figure high ∷ [])) (range_at low high)
range_case f low high true same ordered below = subst (λ h. IsRange f (figure low ∷ []) (range_at low h)) (eqb-true low high same) (one_value low (omega arith))
range_case f low high false apart ordered below = values low high ordered below

range_form : (f : TestField) (r : Range) → IsRangeOf f r → IsRange f (range_of_tokens r) r
range_form f r is = range_case f r.low r.high (eqb r.low r.high) refl is.ordered is.below

ranges_form : (f : TestField) (rs : List Range) → AreRangesOf f rs → AreRanges f (ranges_tokens rs) rs
ranges_form f [] are = let some : 0 < 0 = are.some in absurd (omega arith)
ranges_form f (r ∷ []) are = one_range (range_of_tokens r) r (range_form f r are.each.0)
ranges_form f (r ∷ q ∷ rs) are = braced _ (r ∷ q ∷ rs) (row_form (sign m.Comma) range_of_tokens (range_form f) r (q ∷ rs) are.each.0 are.each.1)

-- ---- addresses

prefix_form : (p : Prefix) → IsValidPrefix p → IsPrefix (prefix_tokens p) p
prefix_form (V4 a l) is = version_4 _ a l (address_form a l is)
prefix_form (V6 a l) is =
    let tokens : List Glyph = text (hex_groups_text (segments_of a)) ∷ sign m.Slash ∷ figure l ∷ [] in
    subst (λ n. IsPrefix tokens (V6 n l)) (joined_same a is.address) (prefix_6 (hex_groups_text (segments_of a)) (segments_of a) l (IsColonHex-hex_groups_text (segments_of a) refl (segments_fit a)) is.prefix)

-- ---- TCP flags

abbrev put_flag : Flag → Bool → TcpFlags → TcpFlags
put_flag Fin b a = record a { fin = b }
put_flag Syn b a = record a { syn = b }
put_flag Rst b a = record a { rst = b }
put_flag Psh b a = record a { psh = b }
put_flag Ack b a = record a { ack = b }
put_flag Urg b a = record a { urg = b }
put_flag Ece b a = record a { ece = b }
put_flag Cwr b a = record a { cwr = b }

put_true : (k : Flag) (a : TcpFlags) → put_flag k true a ≡ with_flag k a
put_true Fin a = refl
put_true Syn a = refl
put_true Rst a = refl
put_true Psh a = refl
put_true Ack a = refl
put_true Urg a = refl
put_true Ece a = refl
put_true Cwr a = refl

put_false : (k : Flag) (a : TcpFlags) → has_flag k a ≡ false → put_flag k false a ≡ a
put_false Fin a free = ap (λ b. record a { fin = b }) (sym free)
put_false Syn a free = ap (λ b. record a { syn = b }) (sym free)
put_false Rst a free = ap (λ b. record a { rst = b }) (sym free)
put_false Psh a free = ap (λ b. record a { psh = b }) (sym free)
put_false Ack a free = ap (λ b. record a { ack = b }) (sym free)
put_false Urg a free = ap (λ b. record a { urg = b }) (sym free)
put_false Ece a free = ap (λ b. record a { ece = b }) (sym free)
put_false Cwr a free = ap (λ b. record a { cwr = b }) (sym free)

adds_if : (k : Flag) (b : Bool) (a s : TcpFlags) (ks : List Flag) → has_flag k a ≡ false → Adds (put_flag k b a) ks s → Adds a (cond b (k ∷ ks) ks) s
adds_if k true a s ks free on = adds k ks a s free (subst (λ (c : TcpFlags). Adds c ks s) (put_true k a) on)
adds_if k false a s ks free on = subst (λ (c : TcpFlags). Adds c ks s) (put_false k a free) on

-- the flags that are set, added one by one, give the flags
flags_add : (s : TcpFlags) → Adds no_flags (set_among s all_flags) s
flags_add s =
    let a : TcpFlags = put_flag Fin s.fin no_flags in
    let b : TcpFlags = put_flag Syn s.syn a in
    let c : TcpFlags = put_flag Rst s.rst b in
    let d : TcpFlags = put_flag Psh s.psh c in
    let e : TcpFlags = put_flag Ack s.ack d in
    let f : TcpFlags = put_flag Urg s.urg e in
    let g : TcpFlags = put_flag Ece s.ece f in
    let six : Adds g (set_among s (Cwr ∷ [])) s = adds_if Cwr s.cwr g s [] refl (adds_none s) in
    let five : Adds f (set_among s (Ece ∷ Cwr ∷ [])) s = adds_if Ece s.ece f s (set_among s (Cwr ∷ [])) refl six in
    let four : Adds e (set_among s (Urg ∷ Ece ∷ Cwr ∷ [])) s = adds_if Urg s.urg e s (set_among s (Ece ∷ Cwr ∷ [])) refl five in
    let three : Adds d (set_among s (Ack ∷ Urg ∷ Ece ∷ Cwr ∷ [])) s = adds_if Ack s.ack d s (set_among s (Urg ∷ Ece ∷ Cwr ∷ [])) refl four in
    let two : Adds c (set_among s (Psh ∷ Ack ∷ Urg ∷ Ece ∷ Cwr ∷ [])) s = adds_if Psh s.psh c s (set_among s (Ack ∷ Urg ∷ Ece ∷ Cwr ∷ [])) refl three in
    let one : Adds b (set_among s (Rst ∷ Psh ∷ Ack ∷ Urg ∷ Ece ∷ Cwr ∷ [])) s = adds_if Rst s.rst b s (set_among s (Psh ∷ Ack ∷ Urg ∷ Ece ∷ Cwr ∷ [])) refl two in
    let zero_left : Adds a (set_among s (Syn ∷ Rst ∷ Psh ∷ Ack ∷ Urg ∷ Ece ∷ Cwr ∷ [])) s = adds_if Syn s.syn a s (set_among s (Rst ∷ Psh ∷ Ack ∷ Urg ∷ Ece ∷ Cwr ∷ [])) refl one in
    adds_if Fin s.fin no_flags s (set_among s (Syn ∷ Rst ∷ Psh ∷ Ack ∷ Urg ∷ Ece ∷ Cwr ∷ [])) refl zero_left

listed_form : (ks : List Flag) (s : TcpFlags) → Adds no_flags ks s → AreFlags (listed_tokens ks) s
listed_form [] s (adds_none _) = without
listed_form (k ∷ ks) s are = these_flags k ks s are

flags_form : (s : TcpFlags) → AreFlags (flags_tokens s) s
flags_form s = listed_form (set_among s all_flags) s (flags_add s)

-- ---- tests

probe_form : (p : Probe) → IsValidProbe p → IsProbe (probe_tokens p) p
probe_form (probe.Among f rs) is = among f (ranges_tokens rs) rs (ranges_form f rs is)
probe_form (probe.Source p) is = source (prefix_tokens p) p (prefix_form p is)
probe_form (probe.Dest p) is = dest (prefix_tokens p) p (prefix_form p is)
probe_form (probe.Flags v k) is = flags (flags_tokens v) (flags_tokens k) v k (flags_form v) (flags_form k) is
probe_form probe.Ipv4 is = ipv4
probe_form probe.Ipv6 is = ipv6

test_case : (n : Bool) (p : Probe) → IsValidProbe p → IsTest (test_tokens (test_at n p)) (test_at n p)
test_case true p is = negated (probe_tokens p) p (probe_form p is)
test_case false p is = plain (probe_tokens p) p (probe_form p is)

test_form : (t : Test) → IsValidTest t → IsTest (test_tokens t) t
test_form t is = test_case t.negated t.probe is

tests_form : (ts : List Test) → AreValidTests ts → AreTests (tests_tokens ts) ts
tests_form [] are = let some : 0 < 0 = are.some in absurd (omega arith)
tests_form (t ∷ ts) are = row_form (text (codes "and")) test_tokens test_form t ts are.each.0 are.each.1

pub alternatives_form : (cs : List (List Test)) → AllByRecursion AreValidTests cs → Alternatives (alternatives_tokens cs) cs
alternatives_form [] all = unconditional
alternatives_form (c ∷ cs) all = alternatives _ (c ∷ cs) (row_form (text (codes "or")) tests_tokens tests_form c cs all.0 all.1)
