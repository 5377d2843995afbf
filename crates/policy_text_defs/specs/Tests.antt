-- The forms of the third edition's conditions, over complete lists of tokens.
use Rattle.std.specs.Prelude.{◌≡◌, ℕ, ◌+◌, ◌*◌, ◌≤◌, Bool, true, false, not, ◌&&◌, ◌||◌, if◌then◌else◌, List, [], ◌∷◌, ◌++◌, Option, Some, None, codes}
use Rattle.std.specs.Str.{bytes_eq}
use Rattle.std.specs.Net.Grammar.{IsColonHex}
use Rattle.text_core.specs.declared.mark.Mark.TheVariants as m
use Rattle.text_core.specs.Glyphs.{Glyph, text, figure, sign}
use Rattle.policy_text_defs.specs.declared.condition.FieldName.TheVariants as field_name
use Rattle.policy_text_defs.specs.declared.test.Range.{Range}
use Rattle.policy_text_defs.specs.declared.test.TestField.{TestField}
use Rattle.policy_text_defs.specs.declared.test.TestField.TheVariants.{Named, Pcp, Ethertype}
use Rattle.policy_text_defs.specs.declared.test.Prefix.{Prefix}
use Rattle.policy_text_defs.specs.declared.test.Prefix.TheVariants.{V4, V6}
use Rattle.policy_text_defs.specs.declared.test.Flag.{Flag}
use Rattle.policy_text_defs.specs.declared.test.Flag.TheVariants.{Fin, Syn, Rst, Psh, Ack, Urg, Ece, Cwr}
use Rattle.policy_text_defs.specs.declared.test.TcpFlags.{TcpFlags}
use Rattle.policy_text_defs.specs.declared.test.Probe.{Probe}
use Rattle.policy_text_defs.specs.declared.test.Probe.TheVariants as probe
use Rattle.policy_text_defs.specs.declared.test.Test.{Test}
use Rattle.policy_text_defs.specs.declared.test.TestSubject.{TestSubject}
use Rattle.policy_text_defs.specs.declared.test.TestSubject.TheVariants as subject
use Rattle.policy_text_defs.specs.Words.{field_word, protocol_of}
use Rattle.policy_text_defs.specs.Ranges.{field_most}
use Rattle.policy_text_defs.specs.Addresses.{Address}

-- ---- words

-- how a field is written
abbrev pub test_field_word : TestField → List ℕ
test_field_word (Named f) = field_word f
test_field_word Pcp = codes "pcp"
test_field_word Ethertype = codes "ethertype"

-- the greatest value of a field
abbrev pub test_field_most : TestField → ℕ
test_field_most (Named f) = field_most f
test_field_most Pcp = 7
test_field_most Ethertype = 65535

-- the value of a field that a word names: a protocol
abbrev pub value_of : TestField → List ℕ → Option ℕ
value_of (Named field_name.Proto) w = protocol_of w
value_of _ w = None

-- the subject that the first word of a test names
abbrev pub test_subject_of : List ℕ → Option TestSubject
test_subject_of w =
    if bytes_eq w (codes "vlan") then Some (subject.Field (Named field_name.Vlan))
    else (if bytes_eq w (codes "dscp") then Some (subject.Field (Named field_name.Dscp))
    else (if bytes_eq w (codes "proto") then Some (subject.Field (Named field_name.Proto))
    else (if bytes_eq w (codes "sport") then Some (subject.Field (Named field_name.Sport))
    else (if bytes_eq w (codes "dport") then Some (subject.Field (Named field_name.Dport))
    else (if bytes_eq w (codes "len") then Some (subject.Field (Named field_name.Len))
    else (if bytes_eq w (codes "pcp") then Some (subject.Field Pcp)
    else (if bytes_eq w (codes "ethertype") then Some (subject.Field Ethertype)
    else (if bytes_eq w (codes "src") then Some subject.Source
    else (if bytes_eq w (codes "dst") then Some subject.Dest
    else (if bytes_eq w (codes "tcpflags") then Some subject.Flags
    else (if bytes_eq w (codes "ipv4") then Some subject.Ipv4
    else (if bytes_eq w (codes "ipv6") then Some subject.Ipv6
    else None))))))))))))

-- ---- parts in a row

-- PART {SEPARATOR PART}
pub data Separated {A : Type 0} (Part : List Glyph → A → Type 0) (separator : Glyph) : List Glyph → List A → Type 0 where
  last_part : (ts : List Glyph) (a : A) → Part ts a → Separated Part separator ts (a ∷ [])
  more_parts : (ts us : List Glyph) (a : A) (cs : List A) → Part ts a → Separated Part separator us cs → Separated Part separator (ts ++ separator ∷ us) (a ∷ cs)

-- ---- ranges of values

abbrev pub range_at : ℕ → ℕ → Range
range_at low high = record { low = low; high = high }

-- RANGE: `N`, `LOW..HIGH` with LOW at most HIGH, or the name of a protocol
pub data IsRange (f : TestField) : List Glyph → Range → Type 0 where
  one_value : (n : ℕ) → n ≤ test_field_most f → IsRange f (figure n ∷ []) (range_at n n)
  values : (low high : ℕ) → low ≤ high → high ≤ test_field_most f → IsRange f (figure low ∷ sign m.DotDot ∷ figure high ∷ []) (range_at low high)
  named_value : (w : List ℕ) (n : ℕ) → value_of f w ≡ Some n → IsRange f (text w ∷ []) (range_at n n)

-- RANGES: RANGE, or `{RANGE {, RANGE}}`
pub data AreRanges (f : TestField) : List Glyph → List Range → Type 0 where
  one_range : (ts : List Glyph) (r : Range) → IsRange f ts r → AreRanges f ts (r ∷ [])
  braced : (ts : List Glyph) (rs : List Range) → Separated (IsRange f) (sign m.Comma) ts rs → AreRanges f (sign m.OpenBrace ∷ ts ++ sign m.CloseBrace ∷ []) rs

-- ---- addresses

-- the number of an IPv6 address with these segments of 16 bits, the most significant first; N is
-- the number of the segments before them
abbrev pub joined_from : ℕ → List ℕ → ℕ
joined_from n [] = n
joined_from n (s ∷ ss) = joined_from (n * 65536 + s) ss

abbrev pub joined : List ℕ → ℕ
joined ss = joined_from 0 ss

-- the greatest prefix length of an IPv6 address
abbrev pub most_prefix_6 : ℕ
most_prefix_6 = 128

-- ADDRESS: an IPv4 address, or an IPv6 address as one word (RFC 4291, section 2.2), each with a
-- prefix length or as a whole. A word has no dots, so no IPv6 address ends in an IPv4 address.
pub data IsPrefix : List Glyph → Prefix → Type 0 where
  version_4 : (ts : List Glyph) (a l : ℕ) → Address ts a l → IsPrefix ts (V4 a l)
  whole_6 : (w segments : List ℕ) → IsColonHex w segments → IsPrefix (text w ∷ []) (V6 (joined segments) most_prefix_6)
  prefix_6 : (w segments : List ℕ) (l : ℕ) → IsColonHex w segments → l ≤ most_prefix_6 → IsPrefix (text w ∷ sign m.Slash ∷ figure l ∷ []) (V6 (joined segments) l)

-- ---- TCP flags

-- how a flag is written
abbrev pub flag_word : Flag → List ℕ
flag_word Fin = codes "fin"
flag_word Syn = codes "syn"
flag_word Rst = codes "rst"
flag_word Psh = codes "psh"
flag_word Ack = codes "ack"
flag_word Urg = codes "urg"
flag_word Ece = codes "ece"
flag_word Cwr = codes "cwr"

abbrev pub flag_of : List ℕ → Option Flag
flag_of w =
    if bytes_eq w (codes "fin") then Some Fin
    else (if bytes_eq w (codes "syn") then Some Syn
    else (if bytes_eq w (codes "rst") then Some Rst
    else (if bytes_eq w (codes "psh") then Some Psh
    else (if bytes_eq w (codes "ack") then Some Ack
    else (if bytes_eq w (codes "urg") then Some Urg
    else (if bytes_eq w (codes "ece") then Some Ece
    else (if bytes_eq w (codes "cwr") then Some Cwr
    else None)))))))

abbrev pub has_flag : Flag → TcpFlags → Bool
has_flag Fin a = a.fin
has_flag Syn a = a.syn
has_flag Rst a = a.rst
has_flag Psh a = a.psh
has_flag Ack a = a.ack
has_flag Urg a = a.urg
has_flag Ece a = a.ece
has_flag Cwr a = a.cwr

abbrev pub with_flag : Flag → TcpFlags → TcpFlags
with_flag Fin a = record a { fin = true }
with_flag Syn a = record a { syn = true }
with_flag Rst a = record a { rst = true }
with_flag Psh a = record a { psh = true }
with_flag Ack a = record a { ack = true }
with_flag Urg a = record a { urg = true }
with_flag Ece a = record a { ece = true }
with_flag Cwr a = record a { cwr = true }

abbrev pub no_flags : TcpFlags
no_flags = record { fin = false; syn = false; rst = false; psh = false; ack = false; urg = false; ece = false; cwr = false }

-- each flag of the first is one of the second
abbrev pub are_within : TcpFlags → TcpFlags → Bool
are_within a b =
    (not a.fin || b.fin) && (not a.syn || b.syn) && (not a.rst || b.rst) && (not a.psh || b.psh)
    && (not a.ack || b.ack) && (not a.urg || b.urg) && (not a.ece || b.ece) && (not a.cwr || b.cwr)

-- flags added to others one by one, none of them twice
pub data Adds : TcpFlags → List Flag → TcpFlags → Type 0 where
  adds_none : (a : TcpFlags) → Adds a [] a
  adds : (k : Flag) (ks : List Flag) (a b : TcpFlags) → has_flag k a ≡ false → Adds (with_flag k a) ks b → Adds a (k ∷ ks) b

-- {+ FLAG}
abbrev pub more_flags : List Flag → List Glyph
more_flags [] = []
more_flags (k ∷ ks) = sign m.Plus ∷ text (flag_word k) ∷ more_flags ks

-- FLAGS: FLAG {+ FLAG}, each flag at most once, or `none`
pub data AreFlags : List Glyph → TcpFlags → Type 0 where
  without : AreFlags (text (codes "none") ∷ []) no_flags
  these_flags : (k : Flag) (ks : List Flag) (b : TcpFlags) → Adds no_flags (k ∷ ks) b → AreFlags (text (flag_word k) ∷ more_flags ks) b

-- ---- tests

-- PROBE: a field and its ranges, `src ADDRESS`, `dst ADDRESS`, `tcpflags FLAGS / FLAGS` (the value
-- and the mask), `ipv4`, `ipv6`
pub data IsProbe : List Glyph → Probe → Type 0 where
  among : (f : TestField) (ts : List Glyph) (rs : List Range) → AreRanges f ts rs → IsProbe (text (test_field_word f) ∷ ts) (probe.Among f rs)
  source : (ts : List Glyph) (p : Prefix) → IsPrefix ts p → IsProbe (text (codes "src") ∷ ts) (probe.Source p)
  dest : (ts : List Glyph) (p : Prefix) → IsPrefix ts p → IsProbe (text (codes "dst") ∷ ts) (probe.Dest p)
  flags : (ts us : List Glyph) (v k : TcpFlags) → AreFlags ts v → AreFlags us k → are_within v k ≡ true → IsProbe (text (codes "tcpflags") ∷ ts ++ sign m.Slash ∷ us) (probe.Flags v k)
  ipv4 : IsProbe (text (codes "ipv4") ∷ []) probe.Ipv4
  ipv6 : IsProbe (text (codes "ipv6") ∷ []) probe.Ipv6

abbrev pub test_at : Bool → Probe → Test
test_at negated p = record { negated = negated; probe = p }

-- TEST: [not] PROBE
pub data IsTest : List Glyph → Test → Type 0 where
  plain : (ts : List Glyph) (p : Probe) → IsProbe ts p → IsTest ts (test_at false p)
  negated : (ts : List Glyph) (p : Probe) → IsProbe ts p → IsTest (text (codes "not") ∷ ts) (test_at true p)

-- ALL: TEST {and TEST}
abbrev pub AreTests : List Glyph → List Test → Type 0
AreTests = Separated IsTest (text (codes "and"))

-- [when ALL {or ALL}]
pub data Alternatives : List Glyph → List (List Test) → Type 0 where
  unconditional : Alternatives [] []
  alternatives : (ts : List Glyph) (cs : List (List Test)) → Separated AreTests (text (codes "or")) ts cs → Alternatives (text (codes "when") ∷ ts) cs
