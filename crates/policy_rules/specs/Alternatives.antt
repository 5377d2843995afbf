-- The conditions of versions 1 and 2 as tests.
use Rattle.std.specs.Prelude.{◌≡◌, refl, false, List, [], ◌∷◌, map}
use Rattle.policy_text_defs.specs.declared.condition.FieldName.TheVariants.{Proto}
use Rattle.policy_text_defs.specs.declared.condition.Condition.{Condition}
use Rattle.policy_text_defs.specs.declared.condition.Condition.TheVariants as condition
use Rattle.policy_text_defs.specs.declared.test.TestField.TheVariants.{Named}
use Rattle.policy_text_defs.specs.declared.test.Prefix.TheVariants.{V4}
use Rattle.policy_text_defs.specs.declared.test.Probe.{Probe}
use Rattle.policy_text_defs.specs.declared.test.Probe.TheVariants.{Among, Source, Dest, Ipv4, Ipv6}
use Rattle.policy_text_defs.specs.declared.test.Test.{Test}

abbrev pub probe_of : Condition → Probe
probe_of (condition.Field field low high) = Among (Named field) (record { low = low; high = high } ∷ [])
probe_of (condition.Source address bits) = Source (V4 address bits)
probe_of (condition.Dest address bits) = Dest (V4 address bits)
probe_of condition.Ipv4 = Ipv4
probe_of condition.Ipv6 = Ipv6

-- a test that isn't negated
abbrev pub test_of : Condition → Test
test_of c = record { negated = false; probe = probe_of c }

-- one alternative, or none if there is no condition
abbrev pub alternatives_of : List Condition → List (List Test)
alternatives_of [] = []
alternatives_of (c ∷ cs) = map test_of (c ∷ cs) ∷ []

-- `proto 6 and ipv4`
two_conditions : alternatives_of (condition.Field Proto 6 6 ∷ condition.Ipv4 ∷ []) ≡ (record { negated = false; probe = Among (Named Proto) (record { low = 6; high = 6 } ∷ []) } ∷ record { negated = false; probe = Ipv4 } ∷ []) ∷ []
two_conditions = refl
