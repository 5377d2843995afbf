-- The names that the proofs of this crate take from outside, passed on from one place. Declares nothing.
pub use Rattle.std.proofs.Common.{◌∙◌, sym, ap, arith, length, map, subst, List, ℕ, ◌≡◌, refl, false, position, take, true, ◌+◌, ◌<◌, Bool, None, Option, Some, [], ◌++◌, ◌∷◌, ◌≤◌, drop, eqb, get_or, inl, inr, leb, if◌then◌else◌, lit<, min, ◌%◌, ◌&&◌, ◌*◌, ◌-◌, ◌/◌, ◌^◌}
pub use Rattle.std.proofs.lemmas.List.{length-map, take_all, map-append, map_more, nil_from_length, take_rest}
pub use Rattle.std.proofs.lemmas.List.Folds.{list_all-map}
pub use Rattle.std.specs.List.{list_all, position_or_len}
pub use Rattle.packet_defs.specs.Condition.{meets, class_of, agree, Field, dport, dscp, has_version, in_range, is_present_and, len, proto, sport, vlan}
pub use Rattle.packet_defs.specs.Test.{is_found, passes, belongs, class_among}
pub use Rattle.packet_defs.specs.Extra.{no_extra, extra_of, header_in}
pub use Rattle.packet_defs.specs.declared.extra.ExtraFields.{ExtraFields}
pub use Rattle.packet_defs.specs.declared.extra.Header.{Header}
pub use Rattle.packet_defs.specs.Internet.{ipv4_at, ipv6_at, no_fields, ipv4_fields, ipv6_fields, is_ipv4, is_ipv6}
pub use Rattle.packet_defs.specs.declared.fields.Fields.{Fields}
pub use Rattle.policy_core.specs.Parts.{HasCatchAll, class_in}
pub use Rattle.policy_core.specs.declared.parts.Class.{Class}
pub use Rattle.packet_defs.proofs.TestLaws.{position-map}
pub use Rattle.policy_text_defs.specs.declared.test.Test.{Test as Written}
pub use Rattle.packet_core.specs.Classes.{IsSorted, IsSortedByFields, AreBounds, AreRules, AreSame, AreTested, GivesEach}
pub use Rattle.packet_core.specs.Classifier.{policy_of, HasClassOf}
pub use Rattle.packet_core.specs.Tests.{field_of, range_of, probe_of, test_of, tests_of, classes_of, passes_all}
pub use Rattle.packet_core.specs.Rules.{is_found_by, passes_by, all_pass, one_passes, asks, one_asks}
pub use Rattle.packet_core.specs.Numbers.{numbers_of, holds, is_met, absent, address, number, place}
