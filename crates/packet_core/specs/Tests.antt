-- The tests written in a policy, as tests on a packet.
use Rattle.std.specs.Prelude.{ℕ, ◌+◌, Bool, if◌then◌else◌, List, map}
use Rattle.std.specs.List.{list_all}
use Rattle.policy_text_defs.specs.declared.condition.FieldName.{FieldName}
use Rattle.policy_text_defs.specs.declared.condition.FieldName.TheVariants as name
use Rattle.policy_text_defs.specs.declared.condition.Condition.{Condition as WrittenCondition}
use Rattle.policy_text_defs.specs.declared.condition.Condition.TheVariants as condition
use Rattle.policy_text_defs.specs.declared.test.Range.{Range as WrittenRange}
use Rattle.policy_text_defs.specs.declared.test.TestField.{TestField as WrittenField}
use Rattle.policy_text_defs.specs.declared.test.TestField.TheVariants as field
use Rattle.policy_text_defs.specs.declared.test.Prefix.{Prefix as WrittenPrefix}
use Rattle.policy_text_defs.specs.declared.test.Prefix.TheVariants as prefix
use Rattle.policy_text_defs.specs.declared.test.TcpFlags.{TcpFlags}
use Rattle.policy_text_defs.specs.declared.test.Probe.{Probe as WrittenProbe}
use Rattle.policy_text_defs.specs.declared.test.Probe.TheVariants as probe
use Rattle.policy_text_defs.specs.declared.test.Test.{Test as Written}
use Rattle.packet_defs.specs.declared.extra.Header.{Header}
use Rattle.packet_defs.specs.Condition.{Field, vlan, dscp, proto, sport, dport, len, Condition, in_range}
use Rattle.packet_defs.specs.Condition as given
use Rattle.packet_defs.specs.Test.{TestField, named, pcp, ethertype, Range, Prefix, v4, v6, Probe, among, source, target, flags, ipv4, ipv6, Test, passes}

abbrev pub field_of : FieldName → Field
field_of name.Vlan = vlan
field_of name.Dscp = dscp
field_of name.Proto = proto
field_of name.Sport = sport
field_of name.Dport = dport
field_of name.Len = len

-- the conditions of versions 1 and 2
abbrev pub condition_of : WrittenCondition → Condition
condition_of (condition.Field f low high) = in_range (field_of f) low high
condition_of (condition.Source address bits) = given.source address bits
condition_of (condition.Dest address bits) = given.target address bits
condition_of condition.Ipv4 = given.ipv4
condition_of condition.Ipv6 = given.ipv6

abbrev pub conditions_of : List (List WrittenCondition) → List (List Condition)
conditions_of classes = map (λ conditions. map condition_of conditions) classes

abbrev pub test_field_of : WrittenField → TestField
test_field_of (field.Named f) = named (field_of f)
test_field_of field.Pcp = pcp
test_field_of field.Ethertype = ethertype

abbrev pub range_of : WrittenRange → Range
range_of r = record { low = r.low; high = r.high }

abbrev pub prefix_of : WrittenPrefix → Prefix
prefix_of (prefix.V4 address bits) = v4 address bits
prefix_of (prefix.V6 address bits) = v6 address bits

abbrev pub bit : Bool → ℕ → ℕ
bit b n = if b then n else 0

-- the flags as they are in the 14th byte of a TCP header (RFC 9293 3.1, RFC 3168 6.1)
abbrev pub flags_byte : TcpFlags → ℕ
flags_byte f = bit f.fin 1 + bit f.syn 2 + bit f.rst 4 + bit f.psh 8 + bit f.ack 16 + bit f.urg 32 + bit f.ece 64 + bit f.cwr 128

abbrev pub probe_of : WrittenProbe → Probe
probe_of (probe.Among f ranges) = among (test_field_of f) (map range_of ranges)
probe_of (probe.Source p) = source (prefix_of p)
probe_of (probe.Dest p) = target (prefix_of p)
probe_of (probe.Flags value mask) = flags (flags_byte value) (flags_byte mask)
probe_of probe.Ipv4 = ipv4
probe_of probe.Ipv6 = ipv6

abbrev pub test_of : Written → Test
test_of t = record { negated = t.negated; probe = probe_of t.probe }

-- the alternatives of a class
abbrev pub tests_of : List (List Written) → List (List Test)
tests_of alternatives = map (λ tests. map test_of tests) alternatives

-- the alternatives of each class
abbrev pub classes_of : List (List (List Written)) → List (List (List Test))
classes_of classes = map tests_of classes

-- a packet of this original length passes all of the tests
abbrev pub passes_all : Header → ℕ → List Written → Bool
passes_all header length tests = list_all (λ t. passes header length (test_of t)) tests
