-- The meaning of prepared classes, and the result of classifying a packet.
use Rattle.std.specs.Prelude.{◌≡◌, ◌<◌, ℕ, Some, None, List, length, map, position}
use Rattle.packet_defs.specs.declared.fields.Fields.{Fields}
use Rattle.packet_defs.specs.declared.extra.ExtraFields.{ExtraFields}
use Rattle.packet_defs.specs.declared.extra.Header.{Header}
use Rattle.packet_defs.specs.declared.packet.Packet.{Packet}
use Rattle.packet_defs.specs.Flow.{flow_of}
use Rattle.packet_defs.specs.Test.{belongs, class_among}
use Rattle.policy_text_defs.specs.declared.test.Test.{Test as Written}
use Rattle.policy_core.specs.declared.parts.Class.{Class}
use Rattle.policy_rules.specs.Resolved.{Resolved}
use Rattle.packet_core.specs.Tests.{tests_of, classes_of}
use Rattle.packet_core.specs.Numbers.{numbers_of, is_met}
use Rattle.packet_core.specs.Rules.{one_passes}
use Rattle.packet_core.specs.declared.bounds.Prepared.{Prepared}
use Rattle.packet_core.specs.declared.rules.Alternatives.{Alternatives}

-- each class is met by exactly the packets that belong to it
abbrev pub AreBounds : List Prepared → List Class → Type 0
AreBounds classes given = (header : Header) (n : ℕ) → map (is_met (numbers_of header.fields n)) classes ≡ map (λ (c : Class). belongs header n (tests_of c.conditions)) given

abbrev pub AreRules : List Alternatives → List Class → Type 0
AreRules classes given = (header : Header) (n : ℕ) → map (λ c. one_passes header n c.all.items) classes ≡ map (λ (c : Class). belongs header n (tests_of c.conditions)) given

-- for all packets, the first class that is met is the class that the policy gives
abbrev pub AreSame : List (List (List Written)) → List Prepared → Type 0
AreSame conditions classes = (header : Header) (n : ℕ) → position (is_met (numbers_of header.fields n)) classes ≡ class_among (classes_of conditions) header n

abbrev pub AreTested : List (List (List Written)) → List Alternatives → Type 0
AreTested conditions classes = (header : Header) (n : ℕ) → position (λ c. one_passes header n c.all.items) classes ≡ class_among (classes_of conditions) header n

-- for all packets, the policy gives some class
abbrev pub GivesEach : List (List (List Written)) → Type 0
GivesEach conditions = (header : Header) (n : ℕ) → class_among (classes_of conditions) header n ≡ None → ⊥

-- the packet got the class and the flow of this header, and is otherwise unchanged
pub record IsSorted (policy : Resolved) (header : Header) (old new : Packet) : Type 0 where
  pub class : class_among (classes_of policy.conditions) header old.len ≡ Some new.class
  pub there : new.class < length policy.policy.classes
  pub flow : new.flow ≡ flow_of header.fields
  pub number : new.number ≡ old.number
  pub len : new.len ≡ old.len
  pub moment : new.moment ≡ old.moment

-- the same with these fields, whatever its extra fields
abbrev pub IsSortedByFields : Resolved → Fields → Packet → Packet → Type 0
IsSortedByFields policy fields old new = (extra : ExtraFields) → IsSorted policy (record { fields = fields; extra = extra }) old new
