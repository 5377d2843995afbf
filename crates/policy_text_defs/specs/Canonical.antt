-- The canonical text of statements: one statement a line and one space between tokens. There is no
-- space around `..`, inside an address, between a function's name and `(`, after `(`, or before `)`
-- and `,`.
use Rattle.std.specs.Prelude.{◌≡◌, refl, ℕ, zero, suc, ◌==◌, ◌/◌, ◌%◌, if◌then◌else◌, Bool, true, false, List, [], ◌∷◌, ◌++◌, map, Option, Some, None, codes}
use Rattle.std.specs.Fmt.{decimal, digits}
use Rattle.rank_defs.specs.declared.expression.Op.{Op}
use Rattle.rank_defs.specs.declared.expression.Op.TheVariants.{Add, Sub, Mul, Div, Less, LessEq, Equal, NotEqual, MoreEq, More, Min, Max, And, Or}
use Rattle.rank_defs.specs.declared.transaction.Span.{Span}
use Rattle.policy_text_defs.specs.declared.attribute.Attrs.{Attrs}
use Rattle.policy_text_defs.specs.declared.attribute.Attribute.{Attribute}
use Rattle.policy_text_defs.specs.declared.attribute.Attribute.TheVariants as attribute
use Rattle.rank_defs.specs.declared.flow_group.FlowGroup.{FlowGroup}
use Rattle.rank_defs.specs.declared.flow_group.FlowGroup.TheVariants as group
use Rattle.policy_text_defs.specs.declared.queueing.Queueing.{Queueing}
use Rattle.policy_text_defs.specs.declared.queueing.Bound.{Bound}
use Rattle.policy_text_defs.specs.declared.queueing.Bound.TheVariants as bound
use Rattle.policy_text_defs.specs.Settings.{no_queueing, only_packets}
use Rattle.policy_text_defs.specs.declared.condition.Condition.{Condition}
use Rattle.policy_text_defs.specs.declared.condition.Condition.TheVariants as condition
use Rattle.policy_text_defs.specs.declared.condition.FieldName.TheVariants as field
use Rattle.std.specs.Net.Text.{hex_groups_text, hex}
use Rattle.policy_text_defs.specs.declared.test.Range.{Range}
use Rattle.policy_text_defs.specs.declared.test.TestField.TheVariants.{Named, Pcp}
use Rattle.policy_text_defs.specs.declared.test.Prefix.{Prefix}
use Rattle.policy_text_defs.specs.declared.test.Prefix.TheVariants.{V4, V6}
use Rattle.policy_text_defs.specs.declared.test.Flag.{Flag}
use Rattle.policy_text_defs.specs.declared.test.Flag.TheVariants.{Fin, Syn, Rst, Psh, Ack, Urg, Ece, Cwr}
use Rattle.policy_text_defs.specs.declared.test.TcpFlags.{TcpFlags}
use Rattle.policy_text_defs.specs.declared.test.Probe.{Probe}
use Rattle.policy_text_defs.specs.declared.test.Probe.TheVariants as probe
use Rattle.policy_text_defs.specs.declared.test.Test.{Test}
use Rattle.policy_text_defs.specs.Tests.{test_field_word, range_at, has_flag, with_flag, no_flags, flag_word, test_at, joined}
use Rattle.policy_text_defs.specs.Words.{attribute_word, field_word}
use Rattle.policy_text_defs.specs.Phrase.{Phrase, number, word, two, negation, choice}
use Rattle.policy_text_defs.specs.Addresses.{Octets}
use Rattle.policy_text_defs.specs.Sense.{Sense, version, transaction, keep, each, push, pop, class, filter, leaf, node}

-- how an operation is written
abbrev pub op_text : Op → List ℕ
op_text Add = codes "+"
op_text Sub = codes "-"
op_text Mul = codes "*"
op_text Div = codes "/"
op_text Less = codes "<"
op_text LessEq = codes "<="
op_text Equal = codes "=="
op_text NotEqual = codes "!="
op_text MoreEq = codes ">="
op_text More = codes ">"
op_text Min = codes "min"
op_text Max = codes "max"
op_text And = codes "and"
op_text Or = codes "or"

-- whether the operator is written between its operands
abbrev pub is_infix_op : Op → Bool
is_infix_op Min = false
is_infix_op Max = false
is_infix_op And = false
is_infix_op Or = false
is_infix_op _ = true

-- `+ - * /` and comparisons
abbrev pub is_infix : Phrase → Bool
is_infix (number n) = false
is_infix (word w) = false
is_infix (negation a) = false
is_infix (choice a b c) = false
is_infix (two op a b) = is_infix_op op

-- in parentheses if true, otherwise unchanged
abbrev pub wrapped : Bool → List ℕ → List ℕ
wrapped true bytes = codes "(" ++ (bytes ++ codes ")")
wrapped false bytes = bytes

-- with spaces around the operator
abbrev pub infix_text : Op → List ℕ → List ℕ → List ℕ
infix_text op left right = left ++ (codes " " ++ (op_text op ++ (codes " " ++ right)))

-- `min(a, b)`
abbrev pub call_text : Op → List ℕ → List ℕ → List ℕ
call_text op left right = op_text op ++ (codes "(" ++ (left ++ (codes ", " ++ (right ++ codes ")"))))

-- an operand of `+ - * /` or of a comparison has parentheses exactly if it is such an expression
abbrev pub term_text : Phrase → List ℕ
term_text (number n) = decimal n
term_text (word w) = w
term_text (negation a) = codes "not(" ++ (term_text a ++ codes ")")
term_text (choice a b c) = codes "if(" ++ (term_text a ++ (codes ", " ++ (term_text b ++ (codes ", " ++ (term_text c ++ codes ")")))))
term_text (two op a b) =
    if is_infix_op op then infix_text op (wrapped (is_infix a) (term_text a)) (wrapped (is_infix b) (term_text b))
    else call_text op (term_text a) (term_text b)

-- `LOW..HIGH`
abbrev pub between_text : ℕ → ℕ → List ℕ
between_text low high = decimal low ++ (codes ".." ++ decimal high)

-- `LOW..HIGH = FIRST`
abbrev pub span_text : Span → List ℕ
span_text s = between_text s.low s.high ++ (codes " = " ++ decimal s.first)

-- `N` if both ends are equal, otherwise `LOW..HIGH`
abbrev pub range_text : ℕ → ℕ → List ℕ
range_text low high = if low == high then decimal low else between_text low high

-- the four numbers of an address
abbrev pub octets_of : ℕ → Octets
octets_of a = record { first = a / 16777216; second = a / 65536 % 256; third = a / 256 % 256; fourth = a % 256 }

-- `N.N.N.N/L`
abbrev pub address_text : ℕ → ℕ → List ℕ
address_text a l =
    let o = octets_of a in
    decimal o.first ++ (codes "." ++ (decimal o.second ++ (codes "." ++ (decimal o.third ++ (codes "." ++ (decimal o.fourth ++ (codes "/" ++ decimal l)))))))

abbrev pub condition_text : Condition → List ℕ
condition_text (condition.Field f low high) = field_word f ++ (codes " " ++ range_text low high)
condition_text (condition.Source a l) = codes "src " ++ address_text a l
condition_text (condition.Dest a l) = codes "dst " ++ address_text a l
condition_text condition.Ipv4 = codes "ipv4"
condition_text condition.Ipv6 = codes "ipv6"

-- ` and COND` for each condition
abbrev pub more_conditions_text : List Condition → List ℕ
more_conditions_text [] = []
more_conditions_text (c ∷ cs) = codes " and " ++ (condition_text c ++ more_conditions_text cs)

-- ` when COND {and COND}`, or nothing
abbrev pub guard_text : List Condition → List ℕ
guard_text [] = []
guard_text (c ∷ cs) = codes " when " ++ (condition_text c ++ more_conditions_text cs)

-- ---- conditions of the third edition: ranges in the order in which they were given, numbers in
-- place of names, each address with its prefix length

-- each item after the separator
abbrev pub each_after : {A : Type 0} → List ℕ → (A → List ℕ) → List A → List ℕ
each_after separator text [] = []
each_after separator text (a ∷ others) = separator ++ (text a ++ each_after separator text others)

abbrev pub range_of_text : Range → List ℕ
range_of_text r = range_text r.low r.high

-- one range, or ranges in braces
abbrev pub ranges_text : List Range → List ℕ
ranges_text [] = []
ranges_text (r ∷ []) = range_of_text r
ranges_text (r ∷ q ∷ rs) = codes "{" ++ (range_of_text r ++ (each_after (codes ", ") range_of_text (q ∷ rs) ++ codes "}"))

-- the K segments of 16 bits at the end of a number, before others
abbrev pub segments_before : ℕ → ℕ → List ℕ → List ℕ
segments_before zero a later = later
segments_before (suc k) a later = segments_before k (a / 65536) ((a % 65536) ∷ later)

-- the segments of an IPv6 address, the most significant first
abbrev pub segments_of : ℕ → List ℕ
segments_of a = segments_before 8 a []

-- an address as in RFC 5952, in hexadecimal groups also if it is IPv4-mapped, and its prefix length
abbrev pub prefix_text : Prefix → List ℕ
prefix_text (V4 a l) = address_text a l
prefix_text (V6 a l) = hex_groups_text (segments_of a) ++ (codes "/" ++ decimal l)

abbrev pub all_flags : List Flag
all_flags = Fin ∷ Syn ∷ Rst ∷ Psh ∷ Ack ∷ Urg ∷ Ece ∷ Cwr ∷ []

-- those of the flags that are set
abbrev pub set_among : TcpFlags → List Flag → List Flag
set_among a [] = []
set_among a (k ∷ ks) = if has_flag k a then (k ∷ set_among a ks) else set_among a ks

-- flags with `+` between them, or `none`
abbrev pub listed_text : List Flag → List ℕ
listed_text [] = codes "none"
listed_text (k ∷ ks) = flag_word k ++ each_after (codes "+") flag_word ks

abbrev pub flags_text : TcpFlags → List ℕ
flags_text a = listed_text (set_among a all_flags)

abbrev pub probe_text : Probe → List ℕ
probe_text (probe.Among f rs) = test_field_word f ++ (codes " " ++ ranges_text rs)
probe_text (probe.Source p) = codes "src " ++ prefix_text p
probe_text (probe.Dest p) = codes "dst " ++ prefix_text p
probe_text (probe.Flags v k) = codes "tcpflags " ++ (flags_text v ++ (codes "/" ++ flags_text k))
probe_text probe.Ipv4 = codes "ipv4"
probe_text probe.Ipv6 = codes "ipv6"

-- `not ` before the probe of a negated test
abbrev pub not_text : Bool → List ℕ
not_text true = codes "not "
not_text false = []

abbrev pub test_text : Test → List ℕ
test_text t = not_text t.negated ++ probe_text t.probe

-- TEST {and TEST}
abbrev pub tests_text : List Test → List ℕ
tests_text [] = []
tests_text (t ∷ ts) = test_text t ++ each_after (codes " and ") test_text ts

-- ` when ALL {or ALL}`, or nothing
abbrev pub alternatives_text : List (List Test) → List ℕ
alternatives_text [] = []
alternatives_text (c ∷ cs) = codes " when " ++ (tests_text c ++ each_after (codes " or ") tests_text cs)

-- an attribute with the space before it, or nothing if it isn't set
abbrev pub attribute_text : Attribute → Option ℕ → List ℕ
attribute_text k None = []
attribute_text k (Some n) = codes " " ++ (attribute_word k ++ (codes " " ++ decimal n))

-- the attributes that are set, in the order prio, weight, slack
abbrev pub attributes_text : Attrs → List ℕ
attributes_text a = attribute_text attribute.Prio a.prio ++ (attribute_text attribute.Weight a.weight ++ attribute_text attribute.Slack a.slack)

-- the unit of a limit with the space before it, or nothing if it is in packets
abbrev pub unit_text : Bound → List ℕ
unit_text bound.Packets = []
unit_text bound.Bytes = codes " bytes"
unit_text bound.PerFlow = codes " per flow"

-- a limit with the space before it, or nothing if there is none
abbrev pub limit_text : Bound → Option ℕ → List ℕ
limit_text b None = []
limit_text b (Some n) = codes " limit " ++ (decimal n ++ unit_text b)

abbrev pub keys_text : FlowGroup → List ℕ
keys_text group.Source = codes "src"
keys_text group.Target = codes "dst"
keys_text group.Hosts = codes "src dst"
keys_text group.FiveTuple = codes "5tuple"

-- by what flows are told apart, with the space before it, or nothing if it isn't given
abbrev pub flow_text : Option FlowGroup → List ℕ
flow_text None = []
flow_text (Some g) = codes " flow by " ++ keys_text g

-- the limits that are given, in packets, in bytes and for each flow, and then the flow group
abbrev pub queueing_text : Queueing → List ℕ
queueing_text q = limit_text bound.Packets q.packets ++ (limit_text bound.Bytes q.bytes ++ (limit_text bound.PerFlow q.per_flow ++ flow_text q.by))

-- names, each with the space before it
abbrev pub names_text : List (List ℕ) → List ℕ
names_text [] = []
names_text (n ∷ ns) = codes " " ++ (n ++ names_text ns)

-- `KEYWORD NAME LOW..HIGH = FIRST`
abbrev pub declaration_text : List ℕ → List ℕ → Span → List ℕ
declaration_text keyword n s = keyword ++ (n ++ (codes " " ++ span_text s))

-- `KEYWORD NAME = EXPR`
abbrev pub assignment_text : List ℕ → List ℕ → Phrase → List ℕ
assignment_text keyword n a = keyword ++ (n ++ (codes " = " ++ term_text a))

-- the line of a statement, without its line feed
abbrev pub statement_text : Sense → List ℕ
statement_text (version v) = codes "policy " ++ decimal v
statement_text (transaction n) = codes "transaction " ++ n
statement_text (keep n s) = declaration_text (codes "keep ") n s
statement_text (each n s) = declaration_text (codes "each ") n s
statement_text (push n a) = assignment_text (codes "push ") n a
statement_text (pop n a) = assignment_text (codes "pop ") n a
statement_text (class n a cs) = codes "class " ++ (n ++ (attributes_text a ++ guard_text cs))
statement_text (filter n a cs) = codes "class " ++ (n ++ (attributes_text a ++ alternatives_text cs))
statement_text (leaf n u a q ns) = codes "leaf " ++ (n ++ (codes " using " ++ (u ++ (attributes_text a ++ (queueing_text q ++ (codes " classes" ++ names_text ns))))))
statement_text (node n u a q ns) = codes "node " ++ (n ++ (codes " using " ++ (u ++ (attributes_text a ++ (queueing_text q ++ (codes " children" ++ names_text ns))))))

-- the lines of statements in order, each ended by a line feed
abbrev pub canonical_text : List Sense → List ℕ
canonical_text [] = []
canonical_text (s ∷ ss) = statement_text s ++ (codes "\n" ++ canonical_text ss)

nested_operands_have_parentheses : statement_text (push (codes "last") (two Add (word (codes "rank")) (two Div (two Mul (word (codes "len")) (number 1000)) (word (codes "weight"))))) ≡ codes "push last = rank + ((len * 1000) / weight)"
unfolding digits
nested_operands_have_parentheses = refl

arguments_have_no_parentheses : term_text (two Mul (two Min (word (codes "len")) (two Add (word (codes "prio")) (number 1))) (number 2)) ≡ codes "min(len, prio + 1) * 2"
unfolding digits
arguments_have_no_parentheses = refl

equal_ends_are_one_number : statement_text (class (codes "web") (record { prio = Some 1; weight = None; slack = Some 0 }) (condition.Field field.Proto 6 6 ∷ condition.Field field.Dport 80 81 ∷ [])) ≡ codes "class web prio 1 slack 0 when proto 6 and dport 80..81"
unfolding digits
equal_ends_are_one_number = refl

addresses_have_a_length : statement_text (class (codes "backup") (record { prio = None; weight = None; slack = None }) (condition.Dest 168361984 16 ∷ [])) ≡ codes "class backup when dst 10.9.0.0/16"
unfolding digits
addresses_have_a_length = refl

lines_have_ends : canonical_text (version 1 ∷ keep (codes "vt") (record { low = 0; high = 7; first = 0 }) ∷ leaf (codes "root") (codes "fifo") (record { prio = None; weight = Some 4; slack = None }) no_queueing (codes "a" ∷ codes "b" ∷ []) ∷ []) ≡ codes "policy 1\nkeep vt 0..7 = 0\nleaf root using fifo weight 4 classes a b\n"
unfolding digits
lines_have_ends = refl

a_limit_follows_the_attributes : canonical_text (version 2 ∷ leaf (codes "root") (codes "fifo") (record { prio = None; weight = Some 4; slack = None }) (only_packets (Some 64)) (codes "a" ∷ []) ∷ []) ≡ codes "policy 2\nleaf root using fifo weight 4 limit 64 classes a\n"
unfolding digits
a_limit_follows_the_attributes = refl

settings_in_order : statement_text (node (codes "root") (codes "wfq") (record { prio = Some 1; weight = Some 4; slack = Some 0 }) (record { packets = Some 64; bytes = Some 96000; per_flow = Some 8; by = Some group.Hosts }) (codes "a" ∷ [])) ≡ codes "node root using wfq prio 1 weight 4 slack 0 limit 64 limit 96000 bytes limit 8 per flow flow by src dst children a"
unfolding digits
settings_in_order = refl

keys_of_flows : map keys_text (group.Source ∷ group.Target ∷ group.Hosts ∷ group.FiveTuple ∷ []) ≡ codes "src" ∷ codes "dst" ∷ codes "src dst" ∷ codes "5tuple" ∷ []
keys_of_flows = refl

ranges_in_braces : map ranges_text ((range_at 80 80 ∷ []) ∷ (range_at 80 80 ∷ range_at 443 443 ∷ range_at 8000 8099 ∷ []) ∷ []) ≡ codes "80" ∷ codes "{80, 443, 8000..8099}" ∷ []
unfolding digits
ranges_in_braces = refl

-- the longest run of zeros is left out, and a mapped address has no dots
addresses_of_version_6 : map prefix_text (V6 (joined (0x2001 ∷ 0xdb8 ∷ 0 ∷ 0 ∷ 0 ∷ 0 ∷ 0 ∷ 0 ∷ [])) 32 ∷ V6 1 128 ∷ V6 (joined (0 ∷ 0 ∷ 0 ∷ 0 ∷ 0 ∷ 0xffff ∷ 0x0a00 ∷ 1 ∷ [])) 128 ∷ V6 0 0 ∷ []) ≡ codes "2001:db8::/32" ∷ codes "::1/128" ∷ codes "::ffff:a00:1/128" ∷ codes "::/0" ∷ []
unfolding digits hex_groups_text hex
addresses_of_version_6 = refl

flags_in_order : map flags_text (with_flag Fin (with_flag Ack no_flags) ∷ with_flag Cwr no_flags ∷ no_flags ∷ []) ≡ codes "fin+ack" ∷ codes "cwr" ∷ codes "none" ∷ []
flags_in_order = refl

alternatives_are_joined : alternatives_text ((test_at false (probe.Among (Named field.Proto) (range_at 6 6 ∷ [])) ∷ test_at true (probe.Flags (with_flag Syn no_flags) (with_flag Syn (with_flag Ack no_flags))) ∷ []) ∷ (test_at false (probe.Among Pcp (range_at 5 7 ∷ [])) ∷ []) ∷ []) ≡ codes " when proto 6 and not tcpflags syn/syn+ack or pcp 5..7"
unfolding digits
alternatives_are_joined = refl
