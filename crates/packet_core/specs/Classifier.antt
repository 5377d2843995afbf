-- The policy of a classifier.
use Rattle.std.specs.Prelude.{◌≡◌, ℕ}
use Rattle.packet_defs.specs.declared.extra.Header.{Header}
use Rattle.packet_defs.specs.Test.{class_among}
use Rattle.policy_rules.specs.Resolved.{Resolved}
use Rattle.packet_core.specs.Tests.{classes_of}
use Rattle.packet_core.specs.declared.classifier.Classifier.{Classifier}

-- the policy whose classes the classifier prepared
abbrev pub policy_of : Classifier → Resolved
policy_of classifier = classifier.policy.now

-- the second header has the fields of the first, and the policy gives it the same class
pub record HasClassOf (policy : Resolved) (given header : Header) : Type 0 where
  pub fields : header.fields ≡ given.fields
  pub class : (n : ℕ) → class_among (classes_of policy.conditions) header n ≡ class_among (classes_of policy.conditions) given n
