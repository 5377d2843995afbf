-- The ranges of the numbers in policy texts.
use Rattle.std.specs.Prelude.{◌≡◌, refl, ℕ, ◌-◌, ◌^◌, [], ◌∷◌, map}
use Rattle.rank_defs.specs.Shapes.{max_len, max_prio, max_weight, max_slack}
use Rattle.policy_text_defs.specs.declared.edition.Edition.{Edition}
use Rattle.policy_text_defs.specs.declared.edition.Edition.TheVariants.{Classic, Third}
use Rattle.policy_text_defs.specs.declared.attribute.Attribute.{Attribute}
use Rattle.policy_text_defs.specs.declared.attribute.Attribute.TheVariants as attribute
use Rattle.policy_text_defs.specs.declared.queueing.Bound.{Bound}
use Rattle.policy_text_defs.specs.declared.queueing.Bound.TheVariants as bound
use Rattle.policy_text_defs.specs.declared.condition.FieldName.{FieldName}
use Rattle.policy_text_defs.specs.declared.condition.FieldName.TheVariants as field

-- the least and greatest value of an attribute; a slack is in nanoseconds
abbrev pub attribute_least : Attribute → ℕ
attribute_least attribute.Prio = 0
attribute_least attribute.Weight = 1
attribute_least attribute.Slack = 0

abbrev pub attribute_most : Attribute → ℕ
attribute_most attribute.Prio = max_prio
attribute_most attribute.Weight = max_weight
attribute_most attribute.Slack = max_slack

-- the first version of the language
abbrev pub first_version : ℕ
first_version = 1

-- the greatest version that a statement of an edition may name
abbrev pub last_version : Edition → ℕ
last_version Classic = 2
last_version Third = 3

-- the least limit of a leaf or node, and the greatest one, in packets
abbrev pub limit_least : ℕ
limit_least = 1

abbrev pub limit_most : ℕ
limit_most = 4194304

-- the greatest limit, by what it counts
abbrev pub bound_most : Bound → ℕ
bound_most bound.Packets = limit_most
bound_most bound.Bytes = 4294967295
bound_most bound.PerFlow = limit_most

-- the greatest value of a field
abbrev pub field_most : FieldName → ℕ
field_most field.Vlan = 4095
field_most field.Dscp = 63
field_most field.Proto = 255
field_most field.Sport = 65535
field_most field.Dport = 65535
field_most field.Len = max_len

-- the greatest of the four numbers of an address, and the greatest prefix length
abbrev pub most_octet : ℕ
most_octet = 255

abbrev pub most_prefix : ℕ
most_prefix = 32

-- the greatest length of a policy text, in bytes
abbrev pub most_text : ℕ
most_text = 1048576

-- a weight divides, so it is never 0; a priority and a slack may be
least_numbers : map attribute_least (attribute.Prio ∷ attribute.Weight ∷ attribute.Slack ∷ []) ≡ 0 ∷ 1 ∷ 0 ∷ []
least_numbers = refl

-- a VLAN identifier has 12 bits, a DSCP 6, a protocol 8, a port 16
bits_of_fields : map field_most (field.Vlan ∷ field.Dscp ∷ field.Proto ∷ field.Sport ∷ field.Dport ∷ []) ≡ (2 ^ 12 - 1) ∷ (2 ^ 6 - 1) ∷ (2 ^ 8 - 1) ∷ (2 ^ 16 - 1) ∷ (2 ^ 16 - 1) ∷ []
bits_of_fields = refl

-- a limit in bytes has 32 bits
limits_by_unit : map bound_most (bound.Packets ∷ bound.Bytes ∷ bound.PerFlow ∷ []) ≡ (2 ^ 22) ∷ (2 ^ 32 - 1) ∷ (2 ^ 22) ∷ []
limits_by_unit = refl

-- a text of 1 MiB, and a limit of 4 Mi packets
powers_of_two : most_text ∷ limit_most ∷ [] ≡ (2 ^ 20) ∷ (2 ^ 22) ∷ []
powers_of_two = refl
