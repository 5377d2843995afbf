-- Ranges, addresses, flags and tests of the third edition: the readers accept exactly their forms.
use Rattle.policy_text_defs.proofs.Prelude.{◌<◌, List, ℕ, [], refl, ◌≡◌, ◌∷◌, Some, ◌++◌, subst, Bool, true, false, sym, None, arith, codes, ◌≤◌, ◌∙◌, Option, ap, suc, zero, cond, length, append_assoc, append-nil, leb, leb-true, le-leb, option_map, bytes_eq, bytes_eq-Decides, ◌&&◌, Glyph, text, figure, sign, Mark, ahead, pick, pure, refuse, Outcome, Reader, ◌>>=◌, mark, a_word, word_ahead, number_to, repeated, Address, whole, prefix, FieldName}
use Rattle.std.specs.Net.Grammar.{IsColonHex, IsIpv6Text}
use Rattle.std.specs.declared.net.ipv6_addr.Ipv6Addr.{Ipv6Addr}
use Rattle.std.specs.Net.Reader.{read_ipv6, whole_value}
use Rattle.std.proofs.NetLemmas.Ipv6.{read_ipv6_complete, read_ipv6_sound, EndsGroups-nil}
use Rattle.std.proofs.NetLemmas.Options.{map_some, and_then_some, cond_some}
use Rattle.std.proofs.Common.{eqb, eqb-true}
use Rattle.text_core.specs.declared.mark.Mark.TheVariants as m
use Rattle.policy_text_defs.specs.declared.condition.FieldName.TheVariants as field_name
use Rattle.policy_text_defs.specs.declared.test.Range.{Range}
use Rattle.policy_text_defs.specs.declared.test.TestField.{TestField}
use Rattle.policy_text_defs.specs.declared.test.TestField.TheVariants.{Named, Pcp, Ethertype}
use Rattle.policy_text_defs.specs.declared.test.Prefix.{Prefix}
use Rattle.policy_text_defs.specs.declared.test.Prefix.TheVariants.{V4, V6}
use Rattle.policy_text_defs.specs.declared.test.Flag.{Flag}
use Rattle.policy_text_defs.specs.declared.test.Flag.TheVariants.{Fin, Syn, Rst, Psh, Ack, Urg, Ece, Cwr}
use Rattle.policy_text_defs.specs.declared.test.TcpFlags.{TcpFlags}
use Rattle.policy_text_defs.specs.declared.test.Probe.{Probe}
use Rattle.policy_text_defs.specs.declared.test.Probe.TheVariants as probe
use Rattle.policy_text_defs.specs.declared.test.Test.{Test}
use Rattle.policy_text_defs.specs.declared.test.TestSubject.{TestSubject}
use Rattle.policy_text_defs.specs.declared.test.TestSubject.TheVariants as subject
use Rattle.policy_text_defs.specs.StatementReading.{many, upper, address, prefix_length, within}
use Rattle.policy_text_defs.specs.Tests.{test_field_word, test_field_most, value_of, test_subject_of, Separated, range_at, IsRange, one_value, values, named_value, AreRanges, one_range, braced, joined, most_prefix_6, IsPrefix, version_4, whole_6, prefix_6, flag_word, flag_of, has_flag, with_flag, no_flags, are_within, Adds, adds_none, adds, more_flags, AreFlags, without, these_flags, IsProbe, among, source, dest, flags, ipv4, ipv6, test_at, IsTest, plain, negated, AreTests, Alternatives, unconditional, alternatives}
use Rattle.policy_text_defs.specs.TestReading.{sign_ahead, part_last, separated, bounded_range, range_of_value, a_range, a_single_range, ranges_to_brace, ranges, ipv6_of, ipv6_ahead, prefix_4, prefix_length_6, prefix_6_of, a_prefix, add_flag, flag_last, flags_by, flag_set, masked, flags_rest, probe_by, a_probe, test_of, a_test, tests, test_lists, test_guard}
use Rattle.policy_text_defs.proofs.StepLaws.{With, steps, same_value, same_rest, stands, marked, in_table}
use Rattle.policy_text_defs.proofs.TokenLaws.{a_word_was, number_to_was, kept, Kept, both_true}
use Rattle.policy_text_defs.proofs.RepeatLaws.{Leads, Goes, no_step, onward, repeated_ends, repeated_more, many_was, leads_shrink}
use Rattle.policy_text_defs.proofs.ConditionLaws.{sign_follows, word_follows, unit_case, Upper, alone, dotted, upper_was, upper_dotted, address_was, prefix_was, with_address, address_read}
use Rattle.policy_text_defs.proofs.SeparatedLaws.{Accepts, Separated-exact, part_shrinks}
use Rattle.policy_text_defs.specs.Reading.{is_text, is_sign}
use Rattle.policy_text_defs.proofs.StepLaws.{sign_is, text_is}

-- no such mark follows
abbrev pub Without : Mark → List Glyph → Type 0
Without s rest = ahead (sign_ahead s) rest ≡ None

-- the tokens after a test can't belong to it
pub record Clear (rest : List Glyph) : Type 0 where
  pub dots : Without m.DotDot rest
  pub slash : Without m.Slash rest
  pub plus : Without m.Plus rest

pub clear_end : Clear []
clear_end = record { dots = refl; slash = refl; plus = refl }

pub clear_word : (w : List ℕ) (gs : List Glyph) → Clear (text w ∷ gs)
clear_word w gs = record { dots = refl; slash = refl; plus = refl }

-- ---- ranges

bounded_was : (f : TestField) (low high : ℕ) (r : Range) (gs left : List Glyph) → bounded_range f low high gs ≡ Some (r, left) → Kept (leb low high && leb high (test_field_most f)) (range_at low high) r gs left
unfolding bounded_range
bounded_was f low high r gs left e = kept (leb low high && leb high (test_field_most f)) (range_at low high) r gs left e

ranged : (f : TestField) (low high : ℕ) (r : Range) (gs hs left : List Glyph) → Upper low gs high hs → Kept (leb low high && leb high (test_field_most f)) (range_at low high) r hs left → With (IsRange f) (figure low ∷ gs) r left
ranged f low high r gs hs left (alone same over) passed =
    let both = both_true (leb low high) (leb high (test_field_most f)) passed.is in
    let below : low ≤ test_field_most f = subst (λ n. n ≤ test_field_most f) (sym same) (leb-true high (test_field_most f) both.1) in
    let value : range_at low low ≡ r = ap (λ n. range_at low n) same ∙ passed.same in
    record { front = figure low ∷ []; split = ap (λ l. figure low ∷ l) (over ∙ passed.rest); is = subst (IsRange f (figure low ∷ [])) value (one_value low below) }
ranged f low high r gs hs left (dotted over) passed =
    let both = both_true (leb low high) (leb high (test_field_most f)) passed.is in
    let front : List Glyph = figure low ∷ sign m.DotDot ∷ figure high ∷ [] in
    record { front = front; split = ap (λ l. figure low ∷ l) (over ∙ ap (λ l. sign m.DotDot ∷ figure high ∷ l) passed.rest); is = subst (IsRange f front) passed.same (values low high (leb-true low high both.0) (leb-true high (test_field_most f) both.1)) }

value_was : (f : TestField) (w : List ℕ) (gs left : List Glyph) (r : Range) (found : Option ℕ) → value_of f w ≡ found → range_of_value found gs ≡ Some (r, left) → With (IsRange f) (text w ∷ gs) r left
value_was f w gs left r None is e = absurd cc
value_was f w gs left r (Some n) is e =
    record { front = text w ∷ []; split = ap (λ l. text w ∷ l) (same_rest (range_at n n) r gs left e); is = subst (IsRange f (text w ∷ [])) (same_value (range_at n n) r gs left e) (named_value w n is) }

range_was : (f : TestField) (gs left : List Glyph) (r : Range) → a_range f gs ≡ Some (r, left) → With (IsRange f) gs r left
unfolding a_range
range_was f [] left r e = absurd cc
range_was f (figure n ∷ gs) left r e =
    let first = steps (upper n gs) (bounded_range f n) r left e in
    ranged f n first.value r gs first.left left (upper_was n first.value gs first.left first.read) (bounded_was f n first.value r first.left left first.next)
range_was f (text w ∷ gs) left r e = value_was f w gs left r (value_of f w) refl e
range_was f (sign s ∷ gs) left r e = absurd cc

upper_at : (low : ℕ) (rest : List Glyph) → Without m.DotDot rest → upper low rest ≡ Some (low, rest)
unfolding upper
upper_at low rest dots = rw dots refl

bounded_reads : (f : TestField) (low high : ℕ) (rest : List Glyph) → low ≤ high → high ≤ test_field_most f → bounded_range f low high rest ≡ Some (range_at low high, rest)
unfolding bounded_range
bounded_reads f low high rest le below = rw (le-leb low high le, le-leb high (test_field_most f) below) refl

range_reads : (f : TestField) (ts rest : List Glyph) (r : Range) → IsRange f ts r → Without m.DotDot rest → a_range f (ts ++ rest) ≡ Some (r, rest)
unfolding a_range
range_reads f ts rest r (one_value n below) dots = rw (upper_at n rest dots) (bounded_reads f n n rest (omega arith) below)
range_reads f ts rest r (values low high le below) dots = rw (upper_dotted low high rest) (bounded_reads f low high rest le below)
range_reads f ts rest r (named_value w n is) dots = rw is refl

IsRange-exact : (f : TestField) → Accepts (IsRange f) (Without m.DotDot) (a_range f)
IsRange-exact f = record { sound = range_was f; again = range_reads f }

only_sign : (s : Mark) (g : Glyph) (u : Unit {0}) → sign_ahead s g ≡ Some u → g ≡ sign s
only_sign s g u e = sign_is s g (unit_case (is_sign s g) u e)

only_text : (w : List ℕ) (g : Glyph) (u : Unit {0}) → word_ahead w g ≡ Some u → g ≡ text w
only_text w g u e = text_is w g (unit_case (is_text w g) u e)

-- what may follow the ranges in braces
abbrev AfterRanges : List Glyph → Type 0
AfterRanges rest = Without m.DotDot rest × Without m.Comma rest

pub in_braces : (f : TestField) → Accepts (Separated (IsRange f) (sign m.Comma)) AfterRanges (separated (sign_ahead m.Comma) (a_range f))
in_braces f = Separated-exact (sign m.Comma) (sign_ahead m.Comma) refl (only_sign m.Comma) (IsRange-exact f) (λ gs. refl)

-- a comma and a range are tokens
pub range_shrinks : (f : TestField) (u : Unit {0}) (a b : List Range) (gs hs is : List Glyph) → ahead (sign_ahead m.Comma) gs ≡ Some (u, hs) → part_last (a_range f) u a hs ≡ Some (b, is) → length is < length gs
range_shrinks f u a b gs hs is found e = part_shrinks (sign m.Comma) (sign_ahead m.Comma) refl (only_sign m.Comma) (IsRange-exact f) u a b gs hs is found e

braced_was : (f : TestField) (gs left : List Glyph) (rs : List Range) → ranges_to_brace f gs ≡ Some (rs, left) → With (AreRanges f) (sign m.OpenBrace ∷ gs) rs left
braced_was f gs left rs e =
    let first = steps (separated (sign_ahead m.Comma) (a_range f) gs) (λ qs. mark m.CloseBrace >>= (λ _. pure qs)) rs left e in
    let second = steps (mark m.CloseBrace first.left) (λ _. pure first.value) rs left first.next in
    let was = (in_braces f).sound gs first.left first.value first.read in
    let closed = marked m.CloseBrace first.left second.left second.value second.read in
    let over : second.left ≡ left = same_rest first.value rs second.left left second.next in
    let split : gs ≡ (was.front ++ sign m.CloseBrace ∷ []) ++ left = was.split ∙ ap (λ l. was.front ++ l) (closed ∙ ap (λ l. sign m.CloseBrace ∷ l) over) ∙ sym (append_assoc was.front (sign m.CloseBrace ∷ []) left) in
    let front : List Glyph = sign m.OpenBrace ∷ was.front ++ sign m.CloseBrace ∷ [] in
    record { front = front; split = ap (λ l. sign m.OpenBrace ∷ l) split; is = subst (AreRanges f front) (same_value first.value rs second.left left second.next) (braced was.front first.value was.is) }

ranges_case : (f : TestField) (gs left : List Glyph) (rs : List Range) (found : Outcome (Unit {0})) → ahead (sign_ahead m.OpenBrace) gs ≡ found → pick found (a_single_range f gs) (λ t. ranges_to_brace f t.1) ≡ Some (rs, left) → With (AreRanges f) gs rs left
ranges_case f gs left rs None is e =
    let first = steps (a_range f gs) (λ r. pure (r ∷ [])) rs left e in
    let was = range_was f gs first.left first.value first.read in
    record { front = was.front; split = was.split ∙ ap (λ l. was.front ++ l) (same_rest (first.value ∷ []) rs first.left left first.next); is = subst (AreRanges f was.front) (same_value (first.value ∷ []) rs first.left left first.next) (one_range was.front first.value was.is) }
ranges_case f gs left rs (Some t) is e = subst (λ l. With (AreRanges f) l rs left) (sym (sign_follows m.OpenBrace gs t.1 t.0 is)) (braced_was f t.1 left rs e)

ranges_were : (f : TestField) (gs left : List Glyph) (rs : List Range) → ranges f gs ≡ Some (rs, left) → With (AreRanges f) gs rs left
unfolding ranges
ranges_were f gs left rs e = ranges_case f gs left rs (ahead (sign_ahead m.OpenBrace) gs) refl e

no_brace : (f : TestField) (ts rest : List Glyph) (r : Range) → IsRange f ts r → Without m.OpenBrace (ts ++ rest)
no_brace f ts rest r (one_value n below) = refl
no_brace f ts rest r (values low high le below) = refl
no_brace f ts rest r (named_value w n is) = refl

ranges_read : (f : TestField) (ts rest : List Glyph) (rs : List Range) → AreRanges f ts rs → Without m.DotDot rest → ranges f (ts ++ rest) ≡ Some (rs, rest)
unfolding ranges
ranges_read f ts rest rs (one_range _ r is) dots = rw (no_brace f ts rest r is, range_reads f ts rest r is dots) refl
ranges_read f gs rest rs (braced ts _ are) dots = rw (append_assoc ts (sign m.CloseBrace ∷ []) rest, (in_braces f).again ts (sign m.CloseBrace ∷ rest) rs are (refl, refl)) refl

-- ---- addresses

-- a word spells an address
record SpellsIpv6 (w : List ℕ) (a : ℕ) : Type 0 where
  segments : List ℕ
  is : IsColonHex w segments
  same : joined segments ≡ a

none_left : (rest : List ℕ) → eqb (length rest) 0 ≡ true → rest ≡ []
none_left [] e = refl
none_left (b ∷ bs) e = let none : length (b ∷ bs) ≡ 0 = eqb-true (length (b ∷ bs)) 0 e in absurd (omega arith)

ipv6_was : (w : List ℕ) (a : ℕ) → ipv6_of w ≡ Some a → SpellsIpv6 w a
unfolding ipv6_of
ipv6_was w a e =
    map_some joined (whole_value (read_ipv6 w)) a e λ segments found same.
    and_then_some _ (read_ipv6 w) segments found λ p read kept.
    let both = cond_some (eqb (length p.1) 0) p.0 segments kept in
    let over : p.1 ≡ [] = none_left p.1 both.0 in
    let was = read_ipv6_sound w p.0 p.1 read in
    let whole_word : was.0 ≡ w = sym (was.1 ∙ ap (λ l. was.0 ++ l) over ∙ append-nil was.0) in
    record { segments = segments; is = subst (λ (l : List ℕ). IsColonHex l segments) whole_word (subst (IsColonHex was.0) both.1 was.2); same = same }

none_case : (w : List ℕ) (found : Option ℕ) → ipv6_of w ≡ found → ((a : Ipv6Addr) → IsIpv6Text w a → ⊥) → found ≡ None
none_case w None is no_address = refl
none_case w (Some n) is no_address =
    let spells = ipv6_was w n is in
    absurd (no_address (record { segments = spells.segments }) spells.is)

-- a word that spells no address
pub ipv6_none : (w : List ℕ) → ((a : Ipv6Addr) → IsIpv6Text w a → ⊥) → ipv6_of w ≡ None
ipv6_none w no_address = none_case w (ipv6_of w) refl no_address

pub ipv6_reads : (w segments : List ℕ) → IsColonHex w segments → ipv6_of w ≡ Some (joined segments)
unfolding ipv6_of
ipv6_reads w segments is =
    let read : read_ipv6 w ≡ Some (segments, []) = ap read_ipv6 (sym (append-nil w)) ∙ read_ipv6_complete w segments [] is EndsGroups-nil in
    ap (λ o. option_map joined (whole_value o)) read

data Length6 (gs : List Glyph) (l : ℕ) (left : List Glyph) : Type 0 where
  longest : most_prefix_6 ≡ l → gs ≡ left → Length6 gs l left
  slashed : l ≤ most_prefix_6 → gs ≡ sign m.Slash ∷ figure l ∷ left → Length6 gs l left

length_case : (l : ℕ) (gs left : List Glyph) (found : Outcome (Unit {0})) → ahead (sign_ahead m.Slash) gs ≡ found → pick found (pure most_prefix_6 gs) (λ t. number_to most_prefix_6 t.1) ≡ Some (l, left) → Length6 gs l left
length_case l gs left None is e = longest (same_value most_prefix_6 l gs left e) (same_rest most_prefix_6 l gs left e)
length_case l gs left (Some t) is e =
    let n = number_to_was most_prefix_6 l t.1 left e in
    slashed n.low (sign_follows m.Slash gs t.1 t.0 is ∙ ap (λ r. sign m.Slash ∷ r) n.split)

length_was : (l : ℕ) (gs left : List Glyph) → prefix_length_6 gs ≡ Some (l, left) → Length6 gs l left
unfolding prefix_length_6
length_was l gs left e = length_case l gs left (ahead (sign_ahead m.Slash) gs) refl e

with_length : (w : List ℕ) (a l : ℕ) (p : Prefix) (gs left : List Glyph) → SpellsIpv6 w a → Length6 gs l left → V6 a l ≡ p → With IsPrefix (text w ∷ gs) p left
with_length w a l p gs left spells (longest same over) value =
    let made : IsPrefix (text w ∷ []) (V6 (joined spells.segments) most_prefix_6) = whole_6 w spells.segments spells.is in
    let equal : V6 (joined spells.segments) most_prefix_6 ≡ p = ap (λ n. V6 n most_prefix_6) spells.same ∙ ap (V6 a) same ∙ value in
    record { front = text w ∷ []; split = ap (λ r. text w ∷ r) over; is = subst (IsPrefix (text w ∷ [])) equal made }
with_length w a l p gs left spells (slashed low over) value =
    let front : List Glyph = text w ∷ sign m.Slash ∷ figure l ∷ [] in
    let made : IsPrefix front (V6 (joined spells.segments) l) = prefix_6 w spells.segments l spells.is low in
    record { front = front; split = ap (λ r. text w ∷ r) over; is = subst (IsPrefix front) (ap (λ n. V6 n l) spells.same ∙ value) made }

spelled_at : (g : Glyph) (a : ℕ) (p : Prefix) (gs left : List Glyph) → ipv6_ahead g ≡ Some a → prefix_6_of a gs ≡ Some (p, left) → With IsPrefix (g ∷ gs) p left
spelled_at (text w) a p gs left is e =
    let first = steps (prefix_length_6 gs) (λ l. pure (V6 a l)) p left e in
    let over : first.left ≡ left = same_rest (V6 a first.value) p first.left left first.next in
    let long : Length6 gs first.value left = subst (Length6 gs first.value) over (length_was first.value gs first.left first.read) in
    with_length w a first.value p gs left (ipv6_was w a is) long (same_value (V6 a first.value) p first.left left first.next)
spelled_at _ a p gs left is e = absurd cc

prefix_case : (p : Prefix) (gs left : List Glyph) (found : Outcome ℕ) → ahead ipv6_ahead gs ≡ found → pick found (prefix_4 gs) (λ t. prefix_6_of t.0 t.1) ≡ Some (p, left) → With IsPrefix gs p left
prefix_case p gs left None is e =
    let first = steps (address gs) (λ a. prefix_length >>= (λ l. pure (V4 a l))) p left e in
    let second = steps (prefix_length first.left) (λ l. pure (V4 first.value l)) p left first.next in
    let w = with_address first.value second.value gs first.left second.left (address_was first.value gs first.left first.read) (prefix_was second.value first.left second.left second.read) in
    record { front = w.front; split = w.split ∙ ap (λ r. w.front ++ r) (same_rest (V4 first.value second.value) p second.left left second.next); is = subst (IsPrefix w.front) (same_value (V4 first.value second.value) p second.left left second.next) (version_4 w.front first.value second.value w.is) }
prefix_case p gs left (Some t) is e =
    let stand = stands ipv6_ahead gs t.1 t.0 is in
    subst (λ l. With IsPrefix l p left) (sym stand.split) (spelled_at stand.glyph t.0 p t.1 left stand.is e)

a_prefix_was : (gs left : List Glyph) (p : Prefix) → a_prefix gs ≡ Some (p, left) → With IsPrefix gs p left
unfolding a_prefix
a_prefix_was gs left p e = prefix_case p gs left (ahead ipv6_ahead gs) refl e

no_word : (ts rest : List Glyph) (a l : ℕ) → Address ts a l → ahead ipv6_ahead (ts ++ rest) ≡ None
no_word ts rest a l (whole o are) = refl
no_word ts rest a l (prefix o _ are low) = refl

length_alone : (rest : List Glyph) → Without m.Slash rest → prefix_length_6 rest ≡ Some (most_prefix_6, rest)
unfolding prefix_length_6
length_alone rest slash = rw slash refl

length_reads : (l : ℕ) (rest : List Glyph) → l ≤ most_prefix_6 → prefix_length_6 (sign m.Slash ∷ figure l ∷ rest) ≡ Some (l, rest)
unfolding prefix_length_6 within
length_reads l rest low = rw (le-leb l most_prefix_6 low) refl

a_prefix_reads : (ts rest : List Glyph) (p : Prefix) → IsPrefix ts p → Clear rest → a_prefix (ts ++ rest) ≡ Some (p, rest)
unfolding a_prefix
a_prefix_reads ts rest p (version_4 _ a l is) clear = rw (no_word ts rest a l is) (address_read V4 ts rest a l is (record { dots = clear.dots; slash = clear.slash }))
a_prefix_reads ts rest p (whole_6 w segments is) clear = rw (ipv6_reads w segments is, length_alone rest clear.slash) refl
a_prefix_reads ts rest p (prefix_6 w segments l is low) clear = rw (ipv6_reads w segments is, length_reads l rest low) refl

-- ---- TCP flags

flag_is : (w : List ℕ) (k : Flag) → flag_of w ≡ Some k → w ≡ flag_word k
flag_is w k e =
    let P : Flag → Type 0 = λ k. w ≡ flag_word k in
    in_table P w (codes "fin") Fin k _ (λ h. h)
    (in_table P w (codes "syn") Syn k _ (λ h. h)
    (in_table P w (codes "rst") Rst k _ (λ h. h)
    (in_table P w (codes "psh") Psh k _ (λ h. h)
    (in_table P w (codes "ack") Ack k _ (λ h. h)
    (in_table P w (codes "urg") Urg k _ (λ h. h)
    (in_table P w (codes "ece") Ece k _ (λ h. h)
    (in_table P w (codes "cwr") Cwr k _ (λ h. h)
    (λ none. absurd cc)))))))) e

flag_of-word : (k : Flag) → flag_of (flag_word k) ≡ Some k
flag_of-word Fin = refl
flag_of-word Syn = refl
flag_of-word Rst = refl
flag_of-word Psh = refl
flag_of-word Ack = refl
flag_of-word Urg = refl
flag_of-word Ece = refl
flag_of-word Cwr = refl

flag_not_none : (k : Flag) → bytes_eq (flag_word k) (codes "none") ≡ false
flag_not_none Fin = refl
flag_not_none Syn = refl
flag_not_none Rst = refl
flag_not_none Psh = refl
flag_not_none Ack = refl
flag_not_none Urg = refl
flag_not_none Ece = refl
flag_not_none Cwr = refl

-- a flag was added
record IsAdded (a : TcpFlags) (found : Option Flag) (b : TcpFlags) (gs left : List Glyph) : Type 0 where
  flag : Flag
  found_it : found ≡ Some flag
  free : has_flag flag a ≡ false
  same : with_flag flag a ≡ b
  over : gs ≡ left

added_case : (k : Flag) (a b : TcpFlags) (gs left : List Glyph) (v : Bool) → has_flag k a ≡ v → cond v refuse (pure (with_flag k a)) gs ≡ Some (b, left) → IsAdded a (Some k) b gs left
added_case k a b gs left true is e = absurd cc
added_case k a b gs left false is e = record { flag = k; found_it = refl; free = is; same = same_value (with_flag k a) b gs left e; over = same_rest (with_flag k a) b gs left e }

added : (a b : TcpFlags) (found : Option Flag) (gs left : List Glyph) → add_flag a found gs ≡ Some (b, left) → IsAdded a found b gs left
unfolding add_flag
added a b None gs left e = absurd cc
added a b (Some k) gs left e = added_case k a b gs left (has_flag k a) refl e

add_reads : (k : Flag) (a : TcpFlags) (gs : List Glyph) → has_flag k a ≡ false → add_flag a (Some k) gs ≡ Some (with_flag k a, gs)
unfolding add_flag
add_reads k a gs free = rw free refl

-- one flag more
record IsFlag (a : TcpFlags) (ts : List Glyph) (b : TcpFlags) : Type 0 where
  flag : Flag
  tokens : ts ≡ sign m.Plus ∷ text (flag_word flag) ∷ []
  free : has_flag flag a ≡ false
  same : with_flag flag a ≡ b

flag_was : (u : Unit {0}) (a b : TcpFlags) (gs hs is : List Glyph) → ahead (sign_ahead m.Plus) gs ≡ Some (u, hs) → flag_last u a hs ≡ Some (b, is) → Leads IsFlag a gs b is
flag_was u a b gs hs is found e =
    let first = steps (a_word hs) (λ w. add_flag a (flag_of w)) b is e in
    let k = added a b (flag_of first.value) first.left is first.next in
    let word : first.value ≡ flag_word k.flag = flag_is first.value k.flag k.found_it in
    let behind : hs ≡ text (flag_word k.flag) ∷ is = a_word_was hs first.left first.value first.read ∙ ap (λ w. text w ∷ first.left) word ∙ ap (λ l. text (flag_word k.flag) ∷ l) k.over in
    record { front = sign m.Plus ∷ text (flag_word k.flag) ∷ []; split = sign_follows m.Plus gs hs u found ∙ ap (λ l. sign m.Plus ∷ l) behind; is = record { flag = k.flag; tokens = refl; free = k.free; same = k.same } }

-- a plus and a flag are tokens
pub flag_shrinks : (u : Unit {0}) (a b : TcpFlags) (gs hs is : List Glyph) → ahead (sign_ahead m.Plus) gs ≡ Some (u, hs) → flag_last u a hs ≡ Some (b, is) → length is < length gs
flag_shrinks u a b gs hs is found e = let l = flag_was u a b gs hs is found e in leads_shrink a b gs is l (let some : length l.front ≡ 2 = ap length l.is.tokens in omega arith)

-- flags were added
record MoreFlags (a : TcpFlags) (ts : List Glyph) (b : TcpFlags) : Type 0 where
  others : List Flag
  tokens : ts ≡ more_flags others
  are : Adds a others b

follow_flags : (a b : TcpFlags) (ts : List Glyph) → Goes IsFlag a ts b → MoreFlags a ts b
follow_flags a b ts (no_step _) = record { others = []; tokens = refl; are = adds_none a }
follow_flags a b ts (onward us vs _ c _ is on) =
    let later = follow_flags c b vs on in
    let start : Adds (with_flag is.flag a) later.others b = subst (λ (d : TcpFlags). Adds d later.others b) (sym is.same) later.are in
    record { others = is.flag ∷ later.others; tokens = ap (λ l. l ++ vs) is.tokens ∙ ap (λ l. sign m.Plus ∷ text (flag_word is.flag) ∷ l) later.tokens; are = adds is.flag later.others a b is.free start }

flags_case : (w : List ℕ) (gs left : List Glyph) (b : TcpFlags) (v : Bool) → bytes_eq w (codes "none") ≡ v → cond v (pure no_flags) (add_flag no_flags (flag_of w) >>= many (ahead (sign_ahead m.Plus)) flag_last) gs ≡ Some (b, left) → With AreFlags (text w ∷ gs) b left
flags_case w gs left b true is e =
    let word : w ≡ codes "none" = (bytes_eq-Decides w (codes "none")).0 is in
    record { front = text (codes "none") ∷ []; split = ap (λ v. text v ∷ gs) word ∙ ap (λ l. text (codes "none") ∷ l) (same_rest no_flags b gs left e); is = subst (AreFlags (text (codes "none") ∷ [])) (same_value no_flags b gs left e) without }
flags_case w gs left b false is e =
    let first = steps (add_flag no_flags (flag_of w) gs) (many (ahead (sign_ahead m.Plus)) flag_last) b left e in
    let k = added no_flags first.value (flag_of w) gs first.left first.read in
    let word : w ≡ flag_word k.flag = flag_is w k.flag k.found_it in
    let leads = many_was _ _ flag_was first.value b first.left left first.next in
    let more = follow_flags first.value b leads.front leads.is in
    let start : Adds (with_flag k.flag no_flags) more.others b = subst (λ (d : TcpFlags). Adds d more.others b) (sym k.same) more.are in
    let behind : gs ≡ more_flags more.others ++ left = k.over ∙ leads.split ∙ ap (λ l. l ++ left) more.tokens in
    record { front = text (flag_word k.flag) ∷ more_flags more.others; split = ap (λ v. text v ∷ gs) word ∙ ap (λ l. text (flag_word k.flag) ∷ l) behind; is = these_flags k.flag more.others b (adds k.flag more.others no_flags b k.free start) }

flags_by_was : (w : List ℕ) (gs left : List Glyph) (b : TcpFlags) → flags_by w gs ≡ Some (b, left) → With AreFlags (text w ∷ gs) b left
unfolding flags_by
flags_by_was w gs left b e = flags_case w gs left b (bytes_eq w (codes "none")) refl e

flag_set_was : (gs left : List Glyph) (b : TcpFlags) → flag_set gs ≡ Some (b, left) → With AreFlags gs b left
flag_set_was gs left b e =
    let first = steps (a_word gs) flags_by b left e in
    subst (λ l. With AreFlags l b left) (sym (a_word_was gs first.left first.value first.read)) (flags_by_was first.value first.left left b first.next)

next_flag_reads : (k : Flag) (a : TcpFlags) (gs : List Glyph) → has_flag k a ≡ false → flag_last tt a (text (flag_word k) ∷ gs) ≡ Some (with_flag k a, gs)
next_flag_reads k a gs free = rw (flag_of-word k) (add_reads k a gs free)

flags_read : (a b : TcpFlags) (ks : List Flag) (rest : List Glyph) (n : ℕ) → Adds a ks b → Without m.Plus rest → length (more_flags ks ++ rest) ≤ n → repeated (ahead (sign_ahead m.Plus)) flag_last n a (more_flags ks ++ rest) ≡ Some (b, rest)
flags_read a b ks rest n (adds_none _) plus enough = repeated_ends _ _ n a rest plus
flags_read a b ks rest zero (adds k us _ _ free on) plus enough = absurd (omega arith)
flags_read a b ks rest (suc n) (adds k us _ _ free on) plus enough =
    repeated_more _ _ n tt a (with_flag k a) (sign m.Plus ∷ text (flag_word k) ∷ (more_flags us ++ rest)) (text (flag_word k) ∷ (more_flags us ++ rest)) (more_flags us ++ rest) refl (next_flag_reads k a (more_flags us ++ rest) free)
    ∙ flags_read (with_flag k a) b us rest n on plus (omega arith)

these_read : (k : Flag) (ks : List Flag) (b : TcpFlags) (rest : List Glyph) → Adds no_flags (k ∷ ks) b → Without m.Plus rest → flags_by (flag_word k) (more_flags ks ++ rest) ≡ Some (b, rest)
unfolding flags_by many
these_read k ks b rest (adds _ _ _ _ free on) plus =
    rw (flag_not_none k, flag_of-word k, add_reads k no_flags (more_flags ks ++ rest) free) (flags_read (with_flag k no_flags) b ks rest (length (more_flags ks ++ rest)) on plus (omega arith))

flag_set_reads : (ts rest : List Glyph) (b : TcpFlags) → AreFlags ts b → Without m.Plus rest → flag_set (ts ++ rest) ≡ Some (b, rest)
flag_set_reads ts rest b without plus = unfold flags_by in refl
flag_set_reads ts rest b (these_flags k ks _ are) plus = these_read k ks b rest are plus

masked_was : (v k : TcpFlags) (p : Probe) (gs left : List Glyph) → masked v k gs ≡ Some (p, left) → Kept (are_within v k) (probe.Flags v k) p gs left
unfolding masked
masked_was v k p gs left e = kept (are_within v k) (probe.Flags v k) p gs left e

-- ---- probes

-- a probe was read, after its first word
record AfterWord (first : List ℕ) (gs : List Glyph) (p : Probe) (left : List Glyph) : Type 0 where
  front : List Glyph
  split : gs ≡ front ++ left
  is : IsProbe (text first ∷ front) p

flags_rest_was : (p : Probe) (gs left : List Glyph) → flags_rest gs ≡ Some (p, left) → AfterWord (codes "tcpflags") gs p left
unfolding flags_rest
flags_rest_was p gs left e =
    let one = steps (flag_set gs) (λ v. mark m.Slash >>= (λ _. flag_set >>= (λ k. masked v k))) p left e in
    let cut = steps (mark m.Slash one.left) (λ _. flag_set >>= (λ k. masked one.value k)) p left one.next in
    let two = steps (flag_set cut.left) (λ k. masked one.value k) p left cut.next in
    let value = flag_set_was gs one.left one.value one.read in
    let mask = flag_set_was cut.left two.left two.value two.read in
    let passed = masked_was one.value two.value p two.left left two.next in
    let slash : one.left ≡ sign m.Slash ∷ cut.left = marked m.Slash one.left cut.left cut.value cut.read in
    let behind : cut.left ≡ mask.front ++ left = mask.split ∙ ap (λ l. mask.front ++ l) passed.rest in
    let split : gs ≡ (value.front ++ sign m.Slash ∷ mask.front) ++ left = value.split ∙ ap (λ l. value.front ++ l) (slash ∙ ap (λ l. sign m.Slash ∷ l) behind) ∙ sym (append_assoc value.front (sign m.Slash ∷ mask.front) left) in
    record { front = value.front ++ sign m.Slash ∷ mask.front; split = split; is = subst (IsProbe (text (codes "tcpflags") ∷ value.front ++ sign m.Slash ∷ mask.front)) passed.same (flags value.front mask.front one.value two.value value.is mask.is passed.is) }

-- how a probe begins
abbrev subject_word : TestSubject → List ℕ
subject_word (subject.Field f) = test_field_word f
subject_word subject.Source = codes "src"
subject_word subject.Dest = codes "dst"
subject_word subject.Flags = codes "tcpflags"
subject_word subject.Ipv4 = codes "ipv4"
subject_word subject.Ipv6 = codes "ipv6"

subject_is : (w : List ℕ) (s : TestSubject) → test_subject_of w ≡ Some s → w ≡ subject_word s
subject_is w s e =
    let P : TestSubject → Type 0 = λ s. w ≡ subject_word s in
    in_table P w (codes "vlan") (subject.Field (Named field_name.Vlan)) s _ (λ h. h)
    (in_table P w (codes "dscp") (subject.Field (Named field_name.Dscp)) s _ (λ h. h)
    (in_table P w (codes "proto") (subject.Field (Named field_name.Proto)) s _ (λ h. h)
    (in_table P w (codes "sport") (subject.Field (Named field_name.Sport)) s _ (λ h. h)
    (in_table P w (codes "dport") (subject.Field (Named field_name.Dport)) s _ (λ h. h)
    (in_table P w (codes "len") (subject.Field (Named field_name.Len)) s _ (λ h. h)
    (in_table P w (codes "pcp") (subject.Field Pcp) s _ (λ h. h)
    (in_table P w (codes "ethertype") (subject.Field Ethertype) s _ (λ h. h)
    (in_table P w (codes "src") subject.Source s _ (λ h. h)
    (in_table P w (codes "dst") subject.Dest s _ (λ h. h)
    (in_table P w (codes "tcpflags") subject.Flags s _ (λ h. h)
    (in_table P w (codes "ipv4") subject.Ipv4 s _ (λ h. h)
    (in_table P w (codes "ipv6") subject.Ipv6 s _ (λ h. h)
    (λ none. absurd cc))))))))))))) e

named_subject : (f : FieldName) → test_subject_of (test_field_word (Named f)) ≡ Some (subject.Field (Named f))
named_subject field_name.Vlan = refl
named_subject field_name.Dscp = refl
named_subject field_name.Proto = refl
named_subject field_name.Sport = refl
named_subject field_name.Dport = refl
named_subject field_name.Len = refl

field_subject : (f : TestField) → test_subject_of (test_field_word f) ≡ Some (subject.Field f)
field_subject (Named f) = named_subject f
field_subject Pcp = refl
field_subject Ethertype = refl

-- a value was read, and a probe made of it
made : {A : Type 0} (w : List ℕ) (then : A → Probe) (Is : List Glyph → A → Type 0) (form : (ts : List Glyph) (a : A) → Is ts a → IsProbe (text w ∷ ts) (then a)) (read : Reader A) (sound : (gs left : List Glyph) (a : A) → read gs ≡ Some (a, left) → With Is gs a left) (p : Probe) (gs left : List Glyph) → (read >>= (λ a. pure (then a))) gs ≡ Some (p, left) → AfterWord w gs p left
made w then Is form read sound p gs left e =
    let first = steps (read gs) (λ a. pure (then a)) p left e in
    let was = sound gs first.left first.value first.read in
    record { front = was.front; split = was.split ∙ ap (λ l. was.front ++ l) (same_rest (then first.value) p first.left left first.next); is = subst (IsProbe (text w ∷ was.front)) (same_value (then first.value) p first.left left first.next) (form was.front first.value was.is) }

version_was : (d p : Probe) (w : List ℕ) (gs left : List Glyph) → IsProbe (text w ∷ []) d → pure d gs ≡ Some (p, left) → AfterWord w gs p left
version_was d p w gs left is e = record { front = []; split = same_rest d p gs left e; is = subst (IsProbe (text w ∷ [])) (same_value d p gs left e) is }

subject_was : (s : TestSubject) (p : Probe) (gs left : List Glyph) → probe_by (Some s) gs ≡ Some (p, left) → AfterWord (subject_word s) gs p left
subject_was (subject.Field f) p gs left e = made (test_field_word f) (probe.Among f) (AreRanges f) (among f) (ranges f) (ranges_were f) p gs left e
subject_was subject.Source p gs left e = made (codes "src") probe.Source IsPrefix source a_prefix a_prefix_was p gs left e
subject_was subject.Dest p gs left e = made (codes "dst") probe.Dest IsPrefix dest a_prefix a_prefix_was p gs left e
subject_was subject.Flags p gs left e = flags_rest_was p gs left e
subject_was subject.Ipv4 p gs left e = version_was probe.Ipv4 p (codes "ipv4") gs left ipv4 e
subject_was subject.Ipv6 p gs left e = version_was probe.Ipv6 p (codes "ipv6") gs left ipv6 e

probe_by_was : (w : List ℕ) (p : Probe) (gs left : List Glyph) (found : Option TestSubject) → test_subject_of w ≡ found → probe_by found gs ≡ Some (p, left) → AfterWord w gs p left
probe_by_was w p gs left None is e = absurd cc
probe_by_was w p gs left (Some s) is e = subst (λ v. AfterWord v gs p left) (sym (subject_is w s is)) (subject_was s p gs left e)

probe_was : (gs left : List Glyph) (p : Probe) → a_probe gs ≡ Some (p, left) → With IsProbe gs p left
unfolding a_probe
probe_was gs left p e =
    let first = steps (a_word gs) (λ w. probe_by (test_subject_of w)) p left e in
    let rest = probe_by_was first.value p first.left left (test_subject_of first.value) refl first.next in
    record { front = text first.value ∷ rest.front; split = a_word_was gs first.left first.value first.read ∙ ap (λ l. text first.value ∷ l) rest.split; is = rest.is }

flags_rest_reads : (ts us rest : List Glyph) (v k : TcpFlags) → AreFlags ts v → AreFlags us k → are_within v k ≡ true → Without m.Plus rest → flags_rest ((ts ++ sign m.Slash ∷ us) ++ rest) ≡ Some (probe.Flags v k, rest)
unfolding flags_rest masked
flags_rest_reads ts us rest v k value mask fits plus =
    rw (append_assoc ts (sign m.Slash ∷ us) rest, flag_set_reads ts (sign m.Slash ∷ (us ++ rest)) v value refl, flag_set_reads us rest k mask plus, fits) refl

probe_reads : (ts rest : List Glyph) (p : Probe) → IsProbe ts p → Clear rest → a_probe (ts ++ rest) ≡ Some (p, rest)
unfolding a_probe
probe_reads gs rest p (among f ts rs are) clear = rw (field_subject f, ranges_read f ts rest rs are clear.dots) refl
probe_reads gs rest p (source ts q is) clear = rw (a_prefix_reads ts rest q is clear) refl
probe_reads gs rest p (dest ts q is) clear = rw (a_prefix_reads ts rest q is clear) refl
probe_reads gs rest p (flags ts us v k value mask fits) clear = flags_rest_reads ts us rest v k value mask fits clear.plus
probe_reads gs rest p ipv4 clear = refl
probe_reads gs rest p ipv6 clear = refl

-- ---- tests

made_test : (n : Bool) (t : Test) (gs left : List Glyph) → test_of n gs ≡ Some (t, left) → (front : List Glyph) × (p : Probe) × (gs ≡ front ++ left) × IsProbe front p × (test_at n p ≡ t)
made_test n t gs left e =
    let first = steps (a_probe gs) (λ p. pure (test_at n p)) t left e in
    let was = probe_was gs first.left first.value first.read in
    (was.front, first.value, was.split ∙ ap (λ l. was.front ++ l) (same_rest (test_at n first.value) t first.left left first.next), was.is, same_value (test_at n first.value) t first.left left first.next)

test_case : (t : Test) (gs left : List Glyph) (found : Outcome (Unit {0})) → ahead (word_ahead (codes "not")) gs ≡ found → pick found (test_of false gs) (λ u. test_of true u.1) ≡ Some (t, left) → With IsTest gs t left
test_case t gs left None is e =
    let was = made_test false t gs left e in
    record { front = was.0; split = was.2; is = subst (IsTest was.0) was.4 (plain was.0 was.1 was.3) }
test_case t gs left (Some u) is e =
    let was = made_test true t u.1 left e in
    record { front = text (codes "not") ∷ was.0; split = word_follows (codes "not") gs u.1 u.0 is ∙ ap (λ l. text (codes "not") ∷ l) was.2; is = subst (IsTest (text (codes "not") ∷ was.0)) was.4 (negated was.0 was.1 was.3) }

test_was : (gs left : List Glyph) (t : Test) → a_test gs ≡ Some (t, left) → With IsTest gs t left
unfolding a_test
test_was gs left t e = test_case t gs left (ahead (word_ahead (codes "not")) gs) refl e

field_not_not : (f : TestField) → bytes_eq (test_field_word f) (codes "not") ≡ false
field_not_not (Named field_name.Vlan) = refl
field_not_not (Named field_name.Dscp) = refl
field_not_not (Named field_name.Proto) = refl
field_not_not (Named field_name.Sport) = refl
field_not_not (Named field_name.Dport) = refl
field_not_not (Named field_name.Len) = refl
field_not_not Pcp = refl
field_not_not Ethertype = refl

-- no probe begins with `not`
no_not : (ts rest : List Glyph) (p : Probe) → IsProbe ts p → ahead (word_ahead (codes "not")) (ts ++ rest) ≡ None
no_not gs rest p (among f ts rs are) = rw (field_not_not f) refl
no_not gs rest p (source ts q is) = refl
no_not gs rest p (dest ts q is) = refl
no_not gs rest p (flags ts us v k value mask fits) = refl
no_not gs rest p ipv4 = refl
no_not gs rest p ipv6 = refl

test_reads : (ts rest : List Glyph) (t : Test) → IsTest ts t → Clear rest → a_test (ts ++ rest) ≡ Some (t, rest)
unfolding a_test
test_reads ts rest t (plain _ p is) clear = rw (no_not ts rest p is, probe_reads ts rest p is clear) refl
test_reads gs rest t (negated ts p is) clear = rw (probe_reads ts rest p is clear) refl

pub IsTest-exact : Accepts IsTest Clear a_test
IsTest-exact = record { sound = test_was; again = test_reads }

-- what may follow tests, and alternatives of them
abbrev pub AfterTests : List Glyph → Type 0
AfterTests rest = Clear rest × (ahead (word_ahead (codes "and")) rest ≡ None)

abbrev pub AfterAlternatives : List Glyph → Type 0
AfterAlternatives rest = AfterTests rest × (ahead (word_ahead (codes "or")) rest ≡ None)

pub AreTests-exact : Accepts AreTests AfterTests tests
AreTests-exact = Separated-exact (text (codes "and")) (word_ahead (codes "and")) refl (only_text (codes "and")) IsTest-exact (λ gs. clear_word (codes "and") gs)

pub test_shrinks : (u : Unit {0}) (a b : List Test) (gs hs is : List Glyph) → ahead (word_ahead (codes "and")) gs ≡ Some (u, hs) → part_last a_test u a hs ≡ Some (b, is) → length is < length gs
test_shrinks u a b gs hs is found e = part_shrinks (text (codes "and")) (word_ahead (codes "and")) refl (only_text (codes "and")) IsTest-exact u a b gs hs is found e

pub tests_shrink : (u : Unit {0}) (a b : List (List Test)) (gs hs is : List Glyph) → ahead (word_ahead (codes "or")) gs ≡ Some (u, hs) → part_last tests u a hs ≡ Some (b, is) → length is < length gs
tests_shrink u a b gs hs is found e = part_shrinks (text (codes "or")) (word_ahead (codes "or")) refl (only_text (codes "or")) AreTests-exact u a b gs hs is found e

pub Alternatives-exact : Accepts (Separated AreTests (text (codes "or"))) AfterAlternatives test_lists
Alternatives-exact = Separated-exact (text (codes "or")) (word_ahead (codes "or")) refl (only_text (codes "or")) AreTests-exact (λ gs. (clear_word (codes "or") gs, refl))

guard_case : (cs : List (List Test)) (gs left : List Glyph) (found : Outcome (Unit {0})) → ahead (word_ahead (codes "when")) gs ≡ found → pick found (pure [] gs) (λ t. test_lists t.1) ≡ Some (cs, left) → With Alternatives gs cs left
guard_case cs gs left None is e = record { front = []; split = same_rest [] cs gs left e; is = subst (Alternatives []) (same_value [] cs gs left e) unconditional }
guard_case cs gs left (Some t) is e =
    let was = Alternatives-exact.sound t.1 left cs e in
    record { front = text (codes "when") ∷ was.front; split = word_follows (codes "when") gs t.1 t.0 is ∙ ap (λ l. text (codes "when") ∷ l) was.split; is = alternatives was.front cs was.is }

pub test_guard_was : (cs : List (List Test)) (gs left : List Glyph) → test_guard gs ≡ Some (cs, left) → With Alternatives gs cs left
unfolding test_guard
test_guard_was cs gs left e = guard_case cs gs left (ahead (word_ahead (codes "when")) gs) refl e

pub read_test_guard : (cs : List (List Test)) (ts : List Glyph) → Alternatives ts cs → test_guard ts ≡ Some (cs, [])
unfolding test_guard
read_test_guard cs ts unconditional = refl
read_test_guard cs ts (alternatives us _ are) = ap test_lists (sym (append-nil us)) ∙ Alternatives-exact.again us [] cs are ((clear_end, refl), refl)
