-- The statements that can be written: valid names, numbers in range, expressions not too deep.
use Rattle.std.specs.Prelude.{◌≡◌, refl, ℕ, ◌<◌, ◌≤◌, ◌^◌, true, List, length, Option, Some, None, IfSome, codes}
use Rattle.std.proofs.Common.{lit≤, arith}
use Rattle.std.specs.List.{AllByRecursion}
use Rattle.rank_defs.specs.declared.expression.Op.TheVariants as op
use Rattle.rank_defs.specs.declared.transaction.Span.{Span}
use Rattle.text_core.specs.Decimals.{max}
use Rattle.policy_text_defs.specs.declared.edition.Edition.{Edition}
use Rattle.policy_text_defs.specs.declared.edition.Edition.TheVariants.{Classic, Third}
use Rattle.policy_text_defs.specs.declared.attribute.Attrs.{Attrs}
use Rattle.policy_text_defs.specs.declared.attribute.Attribute.{Attribute}
use Rattle.policy_text_defs.specs.declared.attribute.Attribute.TheVariants as attribute
use Rattle.policy_text_defs.specs.declared.queueing.Queueing.{Queueing}
use Rattle.policy_text_defs.specs.declared.queueing.Bound.TheVariants as bound
use Rattle.policy_text_defs.specs.declared.condition.Condition.{Condition}
use Rattle.policy_text_defs.specs.declared.condition.Condition.TheVariants as condition
use Rattle.policy_text_defs.specs.declared.test.Range.{Range}
use Rattle.policy_text_defs.specs.declared.test.TestField.{TestField}
use Rattle.policy_text_defs.specs.declared.test.Prefix.{Prefix}
use Rattle.policy_text_defs.specs.declared.test.Prefix.TheVariants.{V4, V6}
use Rattle.policy_text_defs.specs.declared.test.Probe.{Probe}
use Rattle.policy_text_defs.specs.declared.test.Probe.TheVariants as probe
use Rattle.policy_text_defs.specs.declared.test.Test.{Test}
use Rattle.policy_text_defs.specs.Tests.{test_field_most, most_prefix_6, are_within}
use Rattle.policy_text_defs.specs.Words.{is_operand, is_target}
use Rattle.policy_text_defs.specs.EditionNames.{has_names}
use Rattle.policy_text_defs.specs.Editions.{is_of}
use Rattle.policy_text_defs.specs.Ranges.{attribute_least, attribute_most, field_most, most_prefix}
use Rattle.policy_text_defs.specs.Phrase.{Phrase, number, word, two, negation, choice, depth, most_depth}
use Rattle.policy_text_defs.specs.Sense.{Sense, version, transaction, keep, each, push, pop, class, filter, leaf, node}
use Rattle.policy_text_defs.specs.Statements.{IsName, IsSpan, IsVersion, IsLimit, AreNames}

-- numbers are at most `max`, and words are operands
abbrev pub HasOperands : Phrase → Type 0
HasOperands (number n) = n ≤ max
HasOperands (word w) = is_operand w ≡ true
HasOperands (negation a) = HasOperands a
HasOperands (choice a b c) = HasOperands a × HasOperands b × HasOperands c
HasOperands (two op a b) = HasOperands a × HasOperands b

-- a variable's range and first value
pub record IsValidSpan (s : Span) : Type 0 where
  pub ordered : IsSpan s
  pub low : s.low ≤ max
  pub high : s.high ≤ max
  pub first : s.first ≤ max

-- an expression within the depth limit
pub record IsValidPhrase (a : Phrase) : Type 0 where
  pub operands : HasOperands a
  pub low : depth a ≤ most_depth

-- a number that the attribute may have
pub record IsAttributeNumber (k : Attribute) (n : ℕ) : Type 0 where
  pub above : attribute_least k ≤ n
  pub below : n ≤ attribute_most k

-- an attribute that isn't set, or is set to such a number
abbrev pub IsValidAttribute : Attribute → Option ℕ → Type 0
IsValidAttribute k None = Unit {0}
IsValidAttribute k (Some n) = IsAttributeNumber k n

pub record AreValidAttributes (a : Attrs) : Type 0 where
  pub prio : IsValidAttribute attribute.Prio a.prio
  pub weight : IsValidAttribute attribute.Weight a.weight
  pub slack : IsValidAttribute attribute.Slack a.slack

-- each limit that is given is in its range
pub record AreValidLimits (q : Queueing) : Type 0 where
  pub packets : IfSome q.packets (IsLimit bound.Packets)
  pub bytes : IfSome q.bytes (IsLimit bound.Bytes)
  pub per_flow : IfSome q.per_flow (IsLimit bound.PerFlow)

-- an IPv4 address and the length of its prefix
pub record IsValidAddress (a l : ℕ) : Type 0 where
  pub address : a < 2 ^ 32
  pub prefix : l ≤ most_prefix

-- the ends of a range
pub record IsValidRange (low high most : ℕ) : Type 0 where
  pub ordered : low ≤ high
  pub below : high ≤ most

-- a condition whose range is within the field's range, or whose address is valid
abbrev pub IsValidCondition : Condition → Type 0
IsValidCondition (condition.Field f low high) = IsValidRange low high (field_most f)
IsValidCondition (condition.Source a l) = IsValidAddress a l
IsValidCondition (condition.Dest a l) = IsValidAddress a l
IsValidCondition condition.Ipv4 = Unit {0}
IsValidCondition condition.Ipv6 = Unit {0}

-- a range of values of the field
abbrev pub IsRangeOf : TestField → Range → Type 0
IsRangeOf f r = IsValidRange r.low r.high (test_field_most f)

-- at least one range of values of the field
pub record AreRangesOf (f : TestField) (rs : List Range) : Type 0 where
  pub some : 0 < length rs
  pub each : AllByRecursion (IsRangeOf f) rs

-- an IPv6 address and the length of its prefix
pub record IsValidAddress6 (a l : ℕ) : Type 0 where
  pub address : a < 2 ^ 128
  pub prefix : l ≤ most_prefix_6

abbrev pub IsValidPrefix : Prefix → Type 0
IsValidPrefix (V4 a l) = IsValidAddress a l
IsValidPrefix (V6 a l) = IsValidAddress6 a l

-- ranges of the field, a valid address, or flags of which the mask has each
abbrev pub IsValidProbe : Probe → Type 0
IsValidProbe (probe.Among f rs) = AreRangesOf f rs
IsValidProbe (probe.Source p) = IsValidPrefix p
IsValidProbe (probe.Dest p) = IsValidPrefix p
IsValidProbe (probe.Flags v k) = are_within v k ≡ true
IsValidProbe probe.Ipv4 = Unit {0}
IsValidProbe probe.Ipv6 = Unit {0}

abbrev pub IsValidTest : Test → Type 0
IsValidTest t = IsValidProbe t.probe

-- at least one test
pub record AreValidTests (ts : List Test) : Type 0 where
  pub some : 0 < length ts
  pub each : AllByRecursion IsValidTest ts

-- each part of the statement is valid, and a version is one of the edition
abbrev pub HasParts : Edition → Sense → Type 0
HasParts e (version v) = IsVersion e v
HasParts e (transaction n) = IsName n
HasParts e (keep n s) = IsName n × IsValidSpan s
HasParts e (each n s) = IsName n × IsValidSpan s
HasParts e (push n a) = (is_target n ≡ true) × IsValidPhrase a
HasParts e (pop n a) = IsName n × IsValidPhrase a
HasParts e (class n a cs) = IsName n × AreValidAttributes a × AllByRecursion IsValidCondition cs
HasParts e (filter n a cs) = IsName n × AreValidAttributes a × AllByRecursion AreValidTests cs
HasParts e (leaf n u a q ns) = IsName n × IsName u × AreValidAttributes a × AreValidLimits q × AreNames ns
HasParts e (node n u a q ns) = IsName n × IsName u × AreValidAttributes a × AreValidLimits q × AreNames ns

-- the statement can be written as a line of this edition
abbrev pub IsValidIn : Edition → Sense → Type 0
IsValidIn e s = HasParts e s × (has_names e s ≡ true) × (is_of e s ≡ true)

-- each part of the statement is valid in some edition; the third one has the versions of both
abbrev pub IsValid : Sense → Type 0
IsValid s = HasParts Third s

-- a push may set the rank, and a number may be the greatest one
a_push_to_the_rank : IsValidIn Classic (push (codes "rank") (two op.Add (word (codes "len")) (number 4611686018427387903)))
a_push_to_the_rank = ((refl, record { operands = (refl, lit≤ tt); low = lit≤ tt }), refl, refl)

-- the first value may be equal to both ends
a_span_of_one : IsValidIn Classic (keep (codes "vt") (record { low = 5; high = 5; first = 5 }))
a_span_of_one =
    let five : 5 ≤ 5 = lit≤ tt in
    let low : 5 ≤ max = lit≤ tt in
    ((refl, record { ordered = record { above = five; below = five }; low = low; high = low; first = low }), refl, refl)

-- version 3 is one of the third edition alone
version_3 : IsValidIn Third (version 3) × (IsValidIn Classic (version 3) → ⊥)
version_3 = ((record { above = lit≤ tt; below = lit≤ tt }, refl, refl), λ is. let below : 3 ≤ 2 = is.0.below in absurd (omega arith))
