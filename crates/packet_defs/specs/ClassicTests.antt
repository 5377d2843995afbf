-- The conditions of versions 1 and 2 as tests. The class of a packet is the same.
use Rattle.std.specs.Prelude.{◌≡◌, ℕ, Bool, true, false, refl, List, [], ◌∷◌, ◌&&◌, ◌||◌, Option, Some, None, map, position}
use Rattle.std.specs.List.{list_all}
use Rattle.packet_defs.specs.declared.extra.Header.{Header}
use Rattle.packet_defs.specs.Condition.{Condition, in_range, meets, class_of}
use Rattle.packet_defs.specs.Condition as condition
use Rattle.packet_defs.specs.Test.{Probe, among, named, source, target, ipv4, ipv6, v4, Test, passes, belongs, class_among}

abbrev pub probe_of : Condition → Probe
probe_of (in_range field low high) = among (named field) (record { low = low; high = high } ∷ [])
probe_of (condition.source address bits) = source (v4 address bits)
probe_of (condition.target address bits) = target (v4 address bits)
probe_of condition.ipv4 = ipv4
probe_of condition.ipv6 = ipv6

-- a test that isn't negated
abbrev pub test_of : Condition → Test
test_of c = record { negated = false; probe = probe_of c }

-- one alternative, or none if there is no condition
abbrev pub alternatives_of : List Condition → List (List Test)
alternatives_of [] = []
alternatives_of (c ∷ cs) = map test_of (c ∷ cs) ∷ []

-- each header of a packet gives it the same class by its conditions and by their tests
abbrev pub ClassicClassesAreKept : Type 0
ClassicClassesAreKept = (classes : List (List Condition)) (header : Header) (length : ℕ) → class_among (map alternatives_of classes) header length ≡ class_of classes header.fields length
