-- Reading the third edition's conditions from the left, token by token. It serves proofs, as
-- Reading does.
use Rattle.std.specs.Prelude.{◌≡◌, refl, ℕ, nat_le, Bool, true, false, ◌&&◌, if◌then◌else◌, List, [], ◌∷◌, ◌++◌, map, Option, Some, None, option_map, codes}
use Rattle.std.specs.Str.{bytes_eq}
use Rattle.std.specs.Net.Reader.{read_ipv6, read_segments, read_segment, read_ipv4, read_octet, read_number, whole_value}
use Rattle.text_core.specs.declared.mark.Mark.{Mark}
use Rattle.text_core.specs.declared.mark.Mark.TheVariants as m
use Rattle.text_core.specs.Glyphs.{Glyph, text, figure, sign}
use Rattle.policy_text_defs.specs.declared.condition.FieldName.TheVariants as field_name
use Rattle.policy_text_defs.specs.declared.test.Range.{Range}
use Rattle.policy_text_defs.specs.declared.test.TestField.{TestField}
use Rattle.policy_text_defs.specs.declared.test.TestField.TheVariants.{Named, Pcp, Ethertype}
use Rattle.policy_text_defs.specs.declared.test.Prefix.{Prefix}
use Rattle.policy_text_defs.specs.declared.test.Prefix.TheVariants.{V4, V6}
use Rattle.policy_text_defs.specs.declared.test.Flag.{Flag}
use Rattle.policy_text_defs.specs.declared.test.Flag.TheVariants.{Syn, Ack}
use Rattle.policy_text_defs.specs.declared.test.TcpFlags.{TcpFlags}
use Rattle.policy_text_defs.specs.declared.test.Probe.{Probe}
use Rattle.policy_text_defs.specs.declared.test.Probe.TheVariants as probe
use Rattle.policy_text_defs.specs.declared.test.Test.{Test}
use Rattle.policy_text_defs.specs.declared.test.TestSubject.{TestSubject}
use Rattle.policy_text_defs.specs.declared.test.TestSubject.TheVariants as subject
use Rattle.policy_text_defs.specs.Tests.{test_field_most, value_of, test_subject_of, range_at, joined, most_prefix_6, flag_of, has_flag, with_flag, no_flags, are_within, test_at}
use Rattle.policy_text_defs.specs.Reading.{Reader, ◌>>=◌, ◌>>◌, pure, refuse, pick, next, is_sign, mark, ahead, unit_if}
use Rattle.policy_text_defs.specs.TokenReading.{repeated, many, a_word, number_to, upper, address, prefix_length, word_ahead, within}

abbrev pub sign_ahead : Mark → Glyph → Option (Unit {0})
sign_ahead s g = unit_if (is_sign s g)

-- ---- parts with separators between them

abbrev pub part_last : {A : Type 0} → Reader A → Unit {0} → List A → Reader (List A)
part_last part u cs = part >>= (λ a. pure (cs ++ a ∷ []))

unfoldable pub separated : {A : Type 0} → (Glyph → Option (Unit {0})) → Reader A → Reader (List A)
separated separator part = part >>= (λ a. many (ahead separator) (part_last part) (a ∷ []))

-- ---- ranges

unfoldable pub bounded_range : TestField → ℕ → ℕ → Reader Range
bounded_range f low high = if nat_le low high && nat_le high (test_field_most f) then pure (range_at low high) else refuse

abbrev pub range_of_value : Option ℕ → Reader Range
range_of_value None = refuse
range_of_value (Some n) = pure (range_at n n)

abbrev pub range_by : TestField → Glyph → Reader Range
range_by f (figure n) = upper n >>= bounded_range f n
range_by f (text w) = range_of_value (value_of f w)
range_by f (sign s) = refuse

unfoldable pub a_range : TestField → Reader Range
a_range f = next >>= range_by f

abbrev pub a_single_range : TestField → Reader (List Range)
a_single_range f = a_range f >>= (λ r. pure (r ∷ []))

-- the ranges after `{`, and the `}`
abbrev pub ranges_to_brace : TestField → Reader (List Range)
ranges_to_brace f = do
  rs ← separated (sign_ahead m.Comma) (a_range f)
  mark m.CloseBrace
  pure rs

unfoldable pub ranges : TestField → Reader (List Range)
ranges f gs = pick (ahead (sign_ahead m.OpenBrace) gs) (a_single_range f gs) (λ t. ranges_to_brace f t.1)

-- ---- addresses

-- the number of the IPv6 address that a word spells
unfoldable pub ipv6_of : List ℕ → Option ℕ
ipv6_of w = option_map joined (whole_value (read_ipv6 w))

abbrev pub ipv6_ahead : Glyph → Option ℕ
ipv6_ahead (text w) = ipv6_of w
ipv6_ahead _ = None

abbrev pub prefix_4 : Reader Prefix
prefix_4 = address >>= (λ a. prefix_length >>= (λ l. pure (V4 a l)))

-- the number after `/`, or the greatest length if there is no `/`
unfoldable pub prefix_length_6 : Reader ℕ
prefix_length_6 gs = pick (ahead (sign_ahead m.Slash) gs) (Some (most_prefix_6, gs)) (λ t. number_to most_prefix_6 t.1)

abbrev pub prefix_6_of : ℕ → Reader Prefix
prefix_6_of a = prefix_length_6 >>= (λ l. pure (V6 a l))

unfoldable pub a_prefix : Reader Prefix
a_prefix gs = pick (ahead ipv6_ahead gs) (prefix_4 gs) (λ t. prefix_6_of t.0 t.1)

-- ---- TCP flags

unfoldable pub add_flag : TcpFlags → Option Flag → Reader TcpFlags
add_flag a None = refuse
add_flag a (Some k) = if has_flag k a then refuse else pure (with_flag k a)

abbrev pub flag_last : Unit {0} → TcpFlags → Reader TcpFlags
flag_last u a = a_word >>= (λ w. add_flag a (flag_of w))

-- flags after `+`, added to these
abbrev pub flags_after : TcpFlags → Reader TcpFlags
flags_after a = many (ahead (sign_ahead m.Plus)) flag_last a

unfoldable pub flags_by : List ℕ → Reader TcpFlags
flags_by w =
    if bytes_eq w (codes "none") then pure no_flags
    else (add_flag no_flags (flag_of w) >>= flags_after)

abbrev pub flag_set : Reader TcpFlags
flag_set = a_word >>= flags_by

unfoldable pub masked : TcpFlags → TcpFlags → Reader Probe
masked v k = if are_within v k then pure (probe.Flags v k) else refuse

unfoldable pub flags_rest : Reader Probe
flags_rest = do
  v ← flag_set
  mark m.Slash
  k ← flag_set
  masked v k

-- ---- tests

abbrev pub probe_by : Option TestSubject → Reader Probe
probe_by None = refuse
probe_by (Some (subject.Field f)) = ranges f >>= (λ rs. pure (probe.Among f rs))
probe_by (Some subject.Source) = a_prefix >>= (λ p. pure (probe.Source p))
probe_by (Some subject.Dest) = a_prefix >>= (λ p. pure (probe.Dest p))
probe_by (Some subject.Flags) = flags_rest
probe_by (Some subject.Ipv4) = pure probe.Ipv4
probe_by (Some subject.Ipv6) = pure probe.Ipv6

unfoldable pub a_probe : Reader Probe
a_probe = a_word >>= (λ w. probe_by (test_subject_of w))

abbrev pub test_of : Bool → Reader Test
test_of negated = a_probe >>= (λ p. pure (test_at negated p))

unfoldable pub a_test : Reader Test
a_test gs = pick (ahead (word_ahead (codes "not")) gs) (test_of false gs) (λ t. test_of true t.1)

abbrev pub tests : Reader (List Test)
tests = separated (word_ahead (codes "and")) a_test

abbrev pub test_lists : Reader (List (List Test))
test_lists = separated (word_ahead (codes "or")) tests

unfoldable pub test_guard : Reader (List (List Test))
test_guard gs = pick (ahead (word_ahead (codes "when")) gs) (Some ([], gs)) (λ t. test_lists t.1)

-- a set is not empty, has no comma at its end, and its ranges are not turned around
sets : map (λ gs. ranges (Named field_name.Dport) (sign m.OpenBrace ∷ gs)) ((figure 80 ∷ sign m.Comma ∷ figure 8000 ∷ sign m.DotDot ∷ figure 8099 ∷ sign m.CloseBrace ∷ []) ∷ (figure 80 ∷ sign m.CloseBrace ∷ []) ∷ (sign m.CloseBrace ∷ []) ∷ (figure 80 ∷ sign m.Comma ∷ sign m.CloseBrace ∷ []) ∷ (figure 81 ∷ sign m.DotDot ∷ figure 80 ∷ sign m.CloseBrace ∷ []) ∷ (figure 65536 ∷ sign m.CloseBrace ∷ []) ∷ [])
    ≡ Some (range_at 80 80 ∷ range_at 8000 8099 ∷ [], []) ∷ Some (range_at 80 80 ∷ [], []) ∷ None ∷ None ∷ None ∷ None ∷ []
unfolding ranges separated many repeated a_range upper bounded_range
sets = refl

-- a set of protocols may name them, and `gre` is no name
protocol_sets : map (λ w. ranges (Named field_name.Proto) (sign m.OpenBrace ∷ text w ∷ sign m.Comma ∷ figure 47 ∷ sign m.CloseBrace ∷ [])) (codes "udp" ∷ codes "gre" ∷ []) ≡ Some (range_at 17 17 ∷ range_at 47 47 ∷ [], []) ∷ None ∷ []
unfolding ranges separated many repeated a_range upper bounded_range
protocol_sets = refl

-- a priority has 3 bits, and a type 16
greatest_values : map (λ (p : TestField × ℕ). a_range p.0 (figure p.1 ∷ [])) ((Pcp, 7) ∷ (Pcp, 8) ∷ (Ethertype, 65535) ∷ (Ethertype, 65536) ∷ []) ≡ Some (range_at 7 7, []) ∷ None ∷ Some (range_at 65535 65535, []) ∷ None ∷ []
unfolding a_range upper bounded_range
greatest_values = refl

-- a flag is named at most once, and the flags of the value are among those of the mask
abbrev syn : TcpFlags
syn = with_flag Syn no_flags

flag_probes :
    map (λ gs. a_probe (text (codes "tcpflags") ∷ gs)) ((text (codes "syn") ∷ sign m.Slash ∷ text (codes "syn") ∷ sign m.Plus ∷ text (codes "ack") ∷ []) ∷ (text (codes "none") ∷ sign m.Slash ∷ text (codes "syn") ∷ []) ∷ (text (codes "syn") ∷ sign m.Slash ∷ text (codes "ack") ∷ []) ∷ (text (codes "syn") ∷ sign m.Plus ∷ text (codes "syn") ∷ sign m.Slash ∷ text (codes "syn") ∷ []) ∷ [])
    ≡ Some (probe.Flags syn (with_flag Ack syn), []) ∷ Some (probe.Flags no_flags syn, []) ∷ None ∷ None ∷ []
unfolding a_probe flags_rest flags_by add_flag masked many repeated
flag_probes = refl

-- `not` negates one test, and `and` goes before `or`
alternatives_of_tests :
    test_guard (text (codes "when") ∷ text (codes "not") ∷ text (codes "ipv6") ∷ text (codes "and") ∷ text (codes "pcp") ∷ figure 5 ∷ text (codes "or") ∷ text (codes "ipv4") ∷ [])
    ≡ Some ((test_at true probe.Ipv6 ∷ test_at false (probe.Among Pcp (range_at 5 5 ∷ [])) ∷ []) ∷ (test_at false probe.Ipv4 ∷ []) ∷ [], [])
unfolding test_guard separated many repeated a_test a_probe ranges a_range upper bounded_range
alternatives_of_tests = refl

-- an IPv6 address is one word; its prefix has at most 128 bits, and it isn't an IPv4 address
prefixes_of_version_6 :
    map a_prefix ((text (codes "::1") ∷ []) ∷ (text (codes "2001:db8::") ∷ sign m.Slash ∷ figure 32 ∷ []) ∷ (text (codes "::") ∷ sign m.Slash ∷ figure 129 ∷ []) ∷ (text (codes "1:2") ∷ []) ∷ [])
    ≡ Some (V6 1 128, []) ∷ Some (V6 42540766411282592856903984951653826560 32, []) ∷ None ∷ None ∷ []
unfolding a_prefix ipv6_of prefix_length_6 address within read_ipv6 read_segments read_segment read_ipv4 read_octet read_number
prefixes_of_version_6 = refl
