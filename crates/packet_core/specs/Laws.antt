-- The law of classic policies.
use Rattle.std.specs.Prelude.{◌≡◌, ℕ, List, map}
use Rattle.policy_text_defs.specs.declared.condition.Condition.{Condition}
use Rattle.packet_defs.specs.declared.extra.Header.{Header}
use Rattle.packet_defs.specs.Condition.{class_of}
use Rattle.packet_defs.specs.Test.{class_among}
use Rattle.policy_rules.specs.Alternatives.{alternatives_of}
use Rattle.packet_core.specs.Tests.{conditions_of, classes_of}

-- a policy of version 1 or 2 gives each packet the first class of which it meets all conditions
abbrev pub ClassicClassesAreKept : Type 0
ClassicClassesAreKept = (classes : List (List Condition)) (header : Header) (n : ℕ) → class_among (classes_of (map alternatives_of classes)) header n ≡ class_of (conditions_of classes) header.fields n
