-- The canonical text of tests spells their tokens, in the third edition.
use Rattle.policy_text_defs.proofs.Prelude.{List, ℕ, [], refl, ◌≡◌, ◌∷◌, ◌++◌, subst, Bool, true, false, arith, codes, ◌≤◌, ◌∙◌, ap, cond, ◌<◌, ◌+◌, append_assoc, nat_tests, AllByRecursion, list_all, ◌&&◌, Glyph, text, sign, IsApart, is_plain_word, is_run_byte, is_digit}
use Rattle.std.specs.Prelude.{nat_lt, All, take, drop}
use Rattle.std.proofs.Common.{inl, inr}
use Rattle.std.specs.Net.Text.{hex_groups_text, hex, groups_text, longest_zero_run}
use Rattle.std.proofs.NetLemmas.Alphabet.{IsHexOrColon, All-hex_groups_text}
use Rattle.std.proofs.lemmas.List.Folds.{list_all-append}
use Rattle.std.proofs.lemmas.List.Elements.{All-tail}
use Rattle.text_core.specs.declared.dialect.Dialect.TheVariants as dialect
use Rattle.text_core.specs.declared.mark.Mark.TheVariants as m
use Rattle.text_core.specs.Decimals.{max}
use Rattle.text_core.specs.Tokens.{is_run_start}
use Rattle.text_core.proofs.TextLaws.{begins_run, says_run, says_open_brace, says_close_brace, says_final}
use Rattle.policy_text_defs.specs.declared.test.Range.{Range}
use Rattle.policy_text_defs.specs.declared.test.TestField.{TestField}
use Rattle.policy_text_defs.specs.declared.test.TestField.TheVariants.{Named, Pcp, Ethertype}
use Rattle.policy_text_defs.specs.declared.test.Prefix.{Prefix}
use Rattle.policy_text_defs.specs.declared.test.Prefix.TheVariants.{V4, V6}
use Rattle.policy_text_defs.specs.declared.test.Flag.{Flag}
use Rattle.policy_text_defs.specs.declared.test.Flag.TheVariants.{Fin, Syn, Rst, Psh, Ack, Urg, Ece, Cwr}
use Rattle.policy_text_defs.specs.declared.test.TcpFlags.{TcpFlags}
use Rattle.policy_text_defs.specs.declared.test.Probe.{Probe}
use Rattle.policy_text_defs.specs.declared.test.Probe.TheVariants as probe
use Rattle.policy_text_defs.specs.declared.test.Test.{Test}
use Rattle.policy_text_defs.specs.Tests.{test_field_word, test_field_most, flag_word, more_flags}
use Rattle.policy_text_defs.specs.Canonical.{each_after, range_of_text, ranges_text, segments_of, prefix_text, set_among, all_flags, listed_text, flags_text, probe_text, not_text, test_text, tests_text, alternatives_text}
use Rattle.policy_text_defs.specs.Valid.{IsRangeOf, AreRangesOf, IsValidPrefix, IsValidProbe, IsValidTest, AreValidTests}
use Rattle.policy_text_defs.proofs.Pieces.{Anything, IsPiece, is_plain, after, before, text_blank, text_comma, text_slash, text_word, text_number, one_run}
use Rattle.policy_text_defs.proofs.Segments.{segments_fit}
use Rattle.policy_text_defs.proofs.ConditionPieces.{text_nothing, text_key, text_range, text_address, field_is_word, field_small}
use Rattle.policy_text_defs.proofs.TestTokens.{each_tokens, range_of_tokens, ranges_tokens, prefix_tokens, listed_tokens, flags_tokens, probe_tokens, not_tokens, test_tokens, tests_tokens, alternatives_tokens}

-- ---- items after separators

module _ {A : Type 0} {Valid : A → Type 0} {between : List ℕ} {s : Glyph} (separator : IsPiece dialect.Third Anything between (s ∷ [])) (apart : (rest : List ℕ) → IsApart (between ++ rest)) (spelled : A → List ℕ) (tokens : A → List Glyph) (piece : (a : A) → Valid a → IsPiece dialect.Third IsApart (spelled a) (tokens a)) where
  row_apart : (others : List A) → IsApart (each_after between spelled others)
  row_apart [] = tt
  row_apart (a ∷ others) = apart (spelled a ++ each_after between spelled others)

  text_row : (others : List A) → AllByRecursion Valid others → IsPiece dialect.Third IsApart (each_after between spelled others) (each_tokens s tokens others)
  text_row [] all = text_nothing
  text_row (a ∷ others) all = after separator (before (piece a all.0) (row_apart others) (text_row others all.1))

  text_items : (a : A) (others : List A) → Valid a → AllByRecursion Valid others → IsPiece dialect.Third IsApart (spelled a ++ each_after between spelled others) (tokens a ++ each_tokens s tokens others)
  text_items a others is all = before (piece a is) (row_apart others) (text_row others all)

-- ---- ranges

test_field_small : (f : TestField) (n : ℕ) → n ≤ test_field_most f → n ≤ max
test_field_small (Named f) n low = field_small f n low
test_field_small Pcp n low = omega arith
test_field_small Ethertype n low = omega arith

text_range_of : (f : TestField) (r : Range) → IsRangeOf f r → IsPiece dialect.Third IsApart (range_of_text r) (range_of_tokens r)
text_range_of f r is =
    let ordered = is.ordered in
    let great = test_field_small f r.high is.below in
    text_range r.low r.high (omega arith) great

text_open_brace : IsPiece dialect.Third Anything (codes "{") (sign m.OpenBrace ∷ [])
text_open_brace = record { plain = refl; says = λ rest gs end later. says_open_brace rest gs later }

text_close_brace : IsPiece dialect.Third IsApart (codes "}") (sign m.CloseBrace ∷ [])
text_close_brace = record { plain = refl; says = λ rest gs end later. says_close_brace rest gs later }

text_ranges : (f : TestField) (rs : List Range) → AreRangesOf f rs → IsPiece dialect.Third IsApart (ranges_text rs) (ranges_tokens rs)
text_ranges f [] are = let some : 0 < 0 = are.some in absurd (omega arith)
text_ranges f (r ∷ []) are = text_range_of f r are.each.0
text_ranges f (r ∷ q ∷ rs) are =
    let inside = text_items text_comma (λ rest. refl) range_of_text range_of_tokens (text_range_of f) r (q ∷ rs) are.each.0 are.each.1 in
    let to_brace = before inside refl text_close_brace in
    after text_open_brace (subst (λ l. IsPiece dialect.Third IsApart l ((range_of_tokens r ++ each_tokens (sign m.Comma) range_of_tokens (q ∷ rs)) ++ sign m.CloseBrace ∷ [])) (append_assoc (range_of_text r) (each_after (codes ", ") range_of_text (q ∷ rs)) (codes "}")) to_brace)

-- ---- addresses

hex_case : (c : ℕ) → IsHexOrColon c → (is_run_byte c ≡ true) × (is_plain c ≡ true) × (is_run_start c ≡ true)
hex_case c (inl is) =
    let low = is.0 in
    let high = is.1 in
    (grind (arith, nat_tests), grind (arith, nat_tests), grind (arith, nat_tests))
hex_case c (inr is) =
    let low = is.0 in
    let high = is.1 in
    (grind (arith, nat_tests), grind (arith, nat_tests), grind (arith, nat_tests))

all_of : (p : ℕ → Bool) (w : List ℕ) → ((c : ℕ) → IsHexOrColon c → p c ≡ true) → All IsHexOrColon w → list_all p w ≡ true
all_of p [] step all = refl
all_of p (c ∷ w) step all =
    rw (step c (all 0 c (omega arith))) (all_of p w step (All-tail IsHexOrColon c w all))

begins : (w : List ℕ) → list_all is_digit w ≡ false → All IsHexOrColon w → begins_run w ≡ true
begins [] apart all = absurd cc
begins (c ∷ w) apart all = (hex_case c (all 0 c (omega arith))).2

and_false : (u v : Bool) → v ≡ false → (u && v) ≡ false
and_false true v e = e
and_false false v e = refl

-- a text with a colon isn't a number
has_colon : (front rest : List ℕ) → list_all is_digit (front ++ 58 ∷ rest) ≡ false
has_colon front rest = list_all-append is_digit front (58 ∷ rest) ∙ and_false (list_all is_digit front) (list_all is_digit (58 ∷ rest)) refl

colon_case : (a b : ℕ) (ss : List ℕ) (start len : ℕ) (v : Bool) → list_all is_digit (cond v (groups_text (take start (a ∷ b ∷ ss)) ++ codes "::" ++ groups_text (drop (start + len) (a ∷ b ∷ ss))) (groups_text (a ∷ b ∷ ss))) ≡ false
colon_case a b ss start len true =
    let front : List ℕ = groups_text (take start (a ∷ b ∷ ss)) in
    let rest : List ℕ = groups_text (drop (start + len) (a ∷ b ∷ ss)) in
    list_all-append is_digit (front ++ codes "::") rest ∙ ap (λ v. v && list_all is_digit rest) (has_colon front (58 ∷ []))
colon_case a b ss start len false = has_colon (hex a) _

no_number : (a b : ℕ) (ss : List ℕ) → list_all is_digit (hex_groups_text (a ∷ b ∷ ss)) ≡ false
unfolding hex_groups_text
no_number a b ss = colon_case a b ss (longest_zero_run (a ∷ b ∷ ss)).0 (longest_zero_run (a ∷ b ∷ ss)).1 (nat_lt 1 (longest_zero_run (a ∷ b ∷ ss)).1)

text_run : (w : List ℕ) → list_all is_digit w ≡ false → All IsHexOrColon w → IsPiece dialect.Third IsApart w (text w ∷ [])
text_run w apart all = record {
  plain = all_of is_plain w (λ c is. (hex_case c is).1) all;
  says = λ rest gs end later. says_run w rest gs (begins w apart all) (one_run is_run_byte w (all_of is_run_byte w (λ c is. (hex_case c is).0) all)) apart end later;
}

text_prefix : (p : Prefix) → IsValidPrefix p → IsPiece dialect.Third IsApart (prefix_text p) (prefix_tokens p)
text_prefix (V4 a l) is = text_address a l is
text_prefix (V6 a l) is =
    let small = is.prefix in
    before (text_run (hex_groups_text (segments_of a)) (no_number _ _ _) (All-hex_groups_text (segments_of a) (segments_fit a))) refl (after text_slash (text_number l (omega arith)))

-- ---- TCP flags

flag_is_word : (k : Flag) → is_plain_word (flag_word k) ≡ true
flag_is_word Fin = refl
flag_is_word Syn = refl
flag_is_word Rst = refl
flag_is_word Psh = refl
flag_is_word Ack = refl
flag_is_word Urg = refl
flag_is_word Ece = refl
flag_is_word Cwr = refl

text_plus : IsPiece dialect.Third Anything (codes "+") (sign m.Plus ∷ [])
text_plus = record { plain = refl; says = λ rest gs end later. says_final dialect.Third m.Plus rest gs refl later }

flags_apart : (ks : List Flag) → IsApart (each_after (codes "+") flag_word ks)
flags_apart [] = tt
flags_apart (k ∷ ks) = refl

text_more_flags : (ks : List Flag) → IsPiece dialect.Third IsApart (each_after (codes "+") flag_word ks) (more_flags ks)
text_more_flags [] = text_nothing
text_more_flags (k ∷ ks) = after text_plus (before (text_word (flag_word k) (flag_is_word k)) (flags_apart ks) (text_more_flags ks))

text_listed : (ks : List Flag) → IsPiece dialect.Third IsApart (listed_text ks) (listed_tokens ks)
text_listed [] = text_word (codes "none") refl
text_listed (k ∷ ks) = before (text_word (flag_word k) (flag_is_word k)) (flags_apart ks) (text_more_flags ks)

text_flags : (a : TcpFlags) → IsPiece dialect.Third IsApart (flags_text a) (flags_tokens a)
text_flags a = text_listed (set_among a all_flags)

-- ---- tests

test_field_is_word : (f : TestField) → is_plain_word (test_field_word f) ≡ true
test_field_is_word (Named f) = field_is_word f
test_field_is_word Pcp = refl
test_field_is_word Ethertype = refl

text_probe : (p : Probe) → IsValidProbe p → IsPiece dialect.Third IsApart (probe_text p) (probe_tokens p)
text_probe (probe.Among f rs) is = before (text_word (test_field_word f) (test_field_is_word f)) refl (after text_blank (text_ranges f rs is))
text_probe (probe.Source p) is = after (text_key {w = codes "src"} refl) (text_prefix p is)
text_probe (probe.Dest p) is = after (text_key {w = codes "dst"} refl) (text_prefix p is)
text_probe (probe.Flags v k) is = after (text_key {w = codes "tcpflags"} refl) (before (text_flags v) refl (after text_slash (text_flags k)))
text_probe probe.Ipv4 is = text_word (codes "ipv4") refl
text_probe probe.Ipv6 is = text_word (codes "ipv6") refl

text_not : (n : Bool) → IsPiece dialect.Third Anything (not_text n) (not_tokens n)
text_not true = text_key {w = codes "not"} refl
text_not false = record { plain = refl; says = λ rest gs end later. later }

text_test : (t : Test) → IsValidTest t → IsPiece dialect.Third IsApart (test_text t) (test_tokens t)
text_test t is = after (text_not t.negated) (text_probe t.probe is)

text_and : IsPiece dialect.Third Anything (codes " and ") (text (codes "and") ∷ [])
text_and = after text_blank (text_key {w = codes "and"} refl)

text_or : IsPiece dialect.Third Anything (codes " or ") (text (codes "or") ∷ [])
text_or = after text_blank (text_key {w = codes "or"} refl)

text_tests : (ts : List Test) → AreValidTests ts → IsPiece dialect.Third IsApart (tests_text ts) (tests_tokens ts)
text_tests [] are = let some : 0 < 0 = are.some in absurd (omega arith)
text_tests (t ∷ ts) are = text_items text_and (λ rest. refl) test_text test_tokens text_test t ts are.each.0 are.each.1

pub alternatives_apart : (cs : List (List Test)) → IsApart (alternatives_text cs)
alternatives_apart [] = tt
alternatives_apart (c ∷ cs) = refl

pub text_alternatives : (cs : List (List Test)) → AllByRecursion AreValidTests cs → IsPiece dialect.Third IsApart (alternatives_text cs) (alternatives_tokens cs)
text_alternatives [] all = text_nothing
text_alternatives (c ∷ cs) all = after text_blank (after (text_key {w = codes "when"} refl) (text_items text_or (λ rest. refl) tests_text tests_tokens text_tests c cs all.0 all.1))
