-- Prepared tests: their meaning, and which tests name an extra header field.
use Rattle.std.specs.Prelude.{ℕ, Bool, true, false, not, if◌then◌else◌, List, [], ◌∷◌}
use Rattle.std.specs.List.{list_all, list_any}
use Rattle.packet_defs.specs.declared.extra.Header.{Header}
use Rattle.packet_defs.specs.Condition.{is_present_and, has_version}
use Rattle.packet_defs.specs.Test.{TestField, named, pcp, ethertype, Probe, among, source, target, flags, ipv4, ipv6, Test, is_among, number_of, has_prefix, have_flags}
use Rattle.packet_core.specs.Tests.{test_field_of, prefix_of}
use Rattle.packet_core.specs.Ranges.{values}
use Rattle.packet_core.specs.declared.rules.Search.{Search}
use Rattle.packet_core.specs.declared.rules.Search.TheVariants as search
use Rattle.packet_core.specs.declared.rules.Rule.{Rule}
use Rattle.packet_core.specs.declared.rules.Rules.{Rules}

-- a prepared probe holds for a packet of this original length
abbrev pub is_found_by : Header → ℕ → Search → Bool
is_found_by header length (search.Among field ranges) = is_present_and (is_among (values ranges.all.items)) (number_of (test_field_of field) header length)
is_found_by header length (search.Source prefix) = has_prefix (prefix_of prefix) header header.fields.source
is_found_by header length (search.Target prefix) = has_prefix (prefix_of prefix) header header.fields.target
is_found_by header length (search.Flags value mask) = is_present_and (have_flags value mask) header.extra.flags
is_found_by header length search.Ipv4 = has_version 4 header.fields
is_found_by header length search.Ipv6 = has_version 6 header.fields

abbrev pub passes_by : Header → ℕ → Rule → Bool
passes_by header length rule = if rule.negated then not (is_found_by header length rule.search) else is_found_by header length rule.search

-- all rules of an alternative pass
abbrev pub all_pass : Header → ℕ → Rules → Bool
all_pass header length rules = list_all (passes_by header length) rules.all.items

-- there is no alternative, or one of them passes
abbrev pub one_passes : Header → ℕ → List Rules → Bool
one_passes header length [] = true
one_passes header length (rules ∷ others) = list_any (all_pass header length) (rules ∷ others)

-- the probe names an extra header field
abbrev pub is_extra : TestField → Bool
is_extra (named field) = false
is_extra pcp = true
is_extra ethertype = true

abbrev pub asks : Probe → Bool
asks (among field ranges) = is_extra field
asks (source prefix) = false
asks (target prefix) = false
asks (flags value mask) = true
asks ipv4 = false
asks ipv6 = false

-- a test of one of the classes names an extra header field
abbrev pub one_asks : List (List (List Test)) → Bool
one_asks classes = list_any (list_any (list_any (λ (t : Test). asks t.probe))) classes
