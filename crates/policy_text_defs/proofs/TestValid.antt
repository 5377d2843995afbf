-- Tests that are written are valid, in one way only.
use Rattle.policy_text_defs.proofs.Prelude.{List, ℕ, ◌≡◌, Some, arith, codes, ◌≤◌, length, ◌<◌, AllByRecursion, AllByRecursion-prop, bytes_eq, Glyph}
use Rattle.std.proofs.Props.{props}
use Rattle.policy_text_defs.specs.declared.condition.FieldName.TheVariants as field_name
use Rattle.policy_text_defs.specs.declared.test.Range.{Range}
use Rattle.policy_text_defs.specs.declared.test.TestField.{TestField}
use Rattle.policy_text_defs.specs.declared.test.TestField.TheVariants.{Named, Pcp, Ethertype}
use Rattle.policy_text_defs.specs.declared.test.Prefix.{Prefix}
use Rattle.policy_text_defs.specs.declared.test.Prefix.TheVariants.{V4, V6}
use Rattle.policy_text_defs.specs.declared.test.Probe.{Probe}
use Rattle.policy_text_defs.specs.declared.test.Probe.TheVariants as probe
use Rattle.policy_text_defs.specs.declared.test.Test.{Test}
use Rattle.policy_text_defs.specs.Tests.{test_field_most, value_of, Separated, last_part, more_parts, IsRange, one_value, values, named_value, AreRanges, one_range, braced, IsPrefix, version_4, whole_6, prefix_6, IsProbe, among, source, dest, flags, ipv4, ipv6, IsTest, plain, negated, AreTests, Alternatives, unconditional, alternatives}
use Rattle.policy_text_defs.specs.Valid.{IsRangeOf, AreRangesOf, IsValidPrefix, IsValidProbe, IsValidTest, AreValidTests}
use Rattle.policy_text_defs.proofs.Segments.{written_small}
use Rattle.policy_text_defs.proofs.ConditionValid.{protocol_case, address_valid}

-- ---- each is valid

module _ {A : Type 0} {Part : List Glyph → A → Type 0} {Valid : A → Type 0} {s : Glyph} (valid : (ts : List Glyph) (a : A) → Part ts a → Valid a) where
  row_valid : (ts : List Glyph) (others : List A) → Separated Part s ts others → AllByRecursion Valid others
  row_valid ts others (last_part _ a is) = (valid ts a is, tt)
  row_valid gs others (more_parts ts us a bs is on) = (valid ts a is, row_valid us bs on)

some_parts : {A : Type 0} {Part : List Glyph → A → Type 0} {s : Glyph} (ts : List Glyph) (others : List A) → Separated Part s ts others → 0 < length others
some_parts ts others (last_part _ a is) = omega arith
some_parts gs others (more_parts ts us a bs is on) = omega arith

protocol_small : (f : TestField) (w : List ℕ) (n : ℕ) → value_of f w ≡ Some n → n ≤ test_field_most f
protocol_small (Named field_name.Proto) w n is = protocol_case (bytes_eq w (codes "tcp")) (bytes_eq w (codes "udp")) (bytes_eq w (codes "icmp")) n is
protocol_small (Named field_name.Vlan) w n is = absurd cc
protocol_small (Named field_name.Dscp) w n is = absurd cc
protocol_small (Named field_name.Sport) w n is = absurd cc
protocol_small (Named field_name.Dport) w n is = absurd cc
protocol_small (Named field_name.Len) w n is = absurd cc
protocol_small Pcp w n is = absurd cc
protocol_small Ethertype w n is = absurd cc

range_valid : (f : TestField) (ts : List Glyph) (r : Range) → IsRange f ts r → IsRangeOf f r
range_valid f ts r (one_value n below) = record { ordered = omega arith; below = below }
range_valid f ts r (values low high ordered below) = record { ordered = ordered; below = below }
range_valid f ts r (named_value w n is) = record { ordered = omega arith; below = protocol_small f w n is }

ranges_valid : (f : TestField) (ts : List Glyph) (rs : List Range) → AreRanges f ts rs → AreRangesOf f rs
ranges_valid f ts rs (one_range _ r is) = record { some = omega arith; each = (range_valid f ts r is, tt) }
ranges_valid f gs rs (braced ts _ are) = record { some = some_parts ts rs are; each = row_valid (range_valid f) ts rs are }

prefix_valid : (ts : List Glyph) (p : Prefix) → IsPrefix ts p → IsValidPrefix p
prefix_valid ts p (version_4 _ a l is) = address_valid ts a l is
prefix_valid ts p (whole_6 w segments is) = record { address = written_small w segments is; prefix = omega arith }
prefix_valid ts p (prefix_6 w segments l is low) = record { address = written_small w segments is; prefix = low }

probe_valid : (ts : List Glyph) (p : Probe) → IsProbe ts p → IsValidProbe p
probe_valid gs p (among f ts rs are) = ranges_valid f ts rs are
probe_valid gs p (source ts q is) = prefix_valid ts q is
probe_valid gs p (dest ts q is) = prefix_valid ts q is
probe_valid gs p (flags ts us v k value mask fits) = fits
probe_valid gs p ipv4 = tt
probe_valid gs p ipv6 = tt

test_valid : (ts : List Glyph) (t : Test) → IsTest ts t → IsValidTest t
test_valid ts t (plain _ p is) = probe_valid ts p is
test_valid gs t (negated ts p is) = probe_valid ts p is

tests_valid : (gs : List Glyph) (ts : List Test) → AreTests gs ts → AreValidTests ts
tests_valid gs ts are = record { some = some_parts gs ts are; each = row_valid test_valid gs ts are }

pub alternatives_valid : (ts : List Glyph) (cs : List (List Test)) → Alternatives ts cs → AllByRecursion AreValidTests cs
alternatives_valid ts cs unconditional = tt
alternatives_valid gs cs (alternatives ts _ are) = row_valid tests_valid ts cs are

-- ---- any two proofs are equal

ranges-prop : (f : TestField) (rs : List Range) → IsProp (AreRangesOf f rs)
ranges-prop f rs = hlevel (props, AllByRecursion-prop (IsRangeOf f) (λ r. hlevel props) rs)

prefix-prop : (p : Prefix) → IsProp (IsValidPrefix p)
prefix-prop (V4 a l) = hlevel props
prefix-prop (V6 a l) = hlevel props

probe-prop : (p : Probe) → IsProp (IsValidProbe p)
probe-prop (probe.Among f rs) = ranges-prop f rs
probe-prop (probe.Source p) = prefix-prop p
probe-prop (probe.Dest p) = prefix-prop p
probe-prop (probe.Flags v k) = hlevel props
probe-prop probe.Ipv4 = hlevel props
probe-prop probe.Ipv6 = hlevel props

tests-prop : (ts : List Test) → IsProp (AreValidTests ts)
tests-prop ts = hlevel (props, AllByRecursion-prop IsValidTest (λ t. probe-prop t.probe) ts)

pub alternatives-prop : (cs : List (List Test)) → IsProp (AllByRecursion AreValidTests cs)
alternatives-prop cs = AllByRecursion-prop AreValidTests tests-prop cs
