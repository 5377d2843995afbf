-- Any two proofs that a statement can be printed are equal.
use Rattle.policy_text_defs.proofs.Prelude.{List, ℕ, Some, None, Option, AllByRecursion, AllByRecursion-prop, IfSome, Phrase, two, choice, negation, number, word, Sense, class, filter, each, keep, leaf, node, pop, push, transaction, version, IsLimit, IsName, AreNames, IsValidIn, HasParts, AreValidAttributes, HasOperands, IsValidCondition, IsValidAttribute, IsValidPhrase, Attribute, Attrs, Condition, Edition}
use Rattle.policy_text_defs.proofs.TestValid.{alternatives-prop}
use Rattle.std.proofs.Props.{props}
use Rattle.policy_text_defs.specs.declared.queueing.Queueing.{Queueing}
use Rattle.policy_text_defs.specs.declared.queueing.Bound.{Bound}
use Rattle.policy_text_defs.specs.declared.queueing.Bound.TheVariants as bound
use Rattle.policy_text_defs.specs.Valid.{AreValidLimits}
use Rattle.policy_text_defs.specs.declared.attribute.Attribute.TheVariants as attribute
use Rattle.policy_text_defs.specs.declared.condition.Condition.TheVariants as condition

names-prop : (a : Phrase) → IsProp (HasOperands a)
names-prop (number n) = hlevel props
names-prop (word w) = hlevel props
names-prop (negation a) = names-prop a
names-prop (choice a b c) = hlevel (props, names-prop a, names-prop b, names-prop c)
names-prop (two op a b) = hlevel (props, names-prop a, names-prop b)

phrase-prop : (a : Phrase) → IsProp (IsValidPhrase a)
phrase-prop a = hlevel (props, names-prop a)

attribute-prop : (k : Attribute) (v : Option ℕ) → IsProp (IsValidAttribute k v)
attribute-prop k None = hlevel props
attribute-prop k (Some n) = hlevel props

attributes-prop : (a : Attrs) → IsProp (AreValidAttributes a)
attributes-prop a = hlevel (props, attribute-prop attribute.Prio a.prio, attribute-prop attribute.Weight a.weight, attribute-prop attribute.Slack a.slack)

limit-prop : (b : Bound) (l : Option ℕ) → IsProp (IfSome l (IsLimit b))
limit-prop b None = hlevel props
limit-prop b (Some n) = hlevel props

limits-prop : (q : Queueing) → IsProp (AreValidLimits q)
limits-prop q = hlevel (props, limit-prop bound.Packets q.packets, limit-prop bound.Bytes q.bytes, limit-prop bound.PerFlow q.per_flow)

condition-prop : (c : Condition) → IsProp (IsValidCondition c)
condition-prop (condition.Field f low high) = hlevel props
condition-prop (condition.Source a l) = hlevel props
condition-prop (condition.Dest a l) = hlevel props
condition-prop condition.Ipv4 = hlevel props
condition-prop condition.Ipv6 = hlevel props

conditions-prop : (cs : List Condition) → IsProp (AllByRecursion IsValidCondition cs)
conditions-prop cs = AllByRecursion-prop IsValidCondition condition-prop cs

named-prop : (w : List ℕ) → IsProp (IsName w)
named-prop w = hlevel props

all-named-prop : (ns : List (List ℕ)) → IsProp (AllByRecursion IsName ns)
all-named-prop ns = AllByRecursion-prop IsName named-prop ns

are-names-prop : (ns : List (List ℕ)) → IsProp (AreNames ns)
are-names-prop ns = hlevel (props, all-named-prop ns)

parts-prop : (e : Edition) (s : Sense) → IsProp (HasParts e s)
parts-prop e (version v) = hlevel props
parts-prop e (transaction n) = hlevel props
parts-prop e (keep n s) = hlevel props
parts-prop e (each n s) = hlevel props
parts-prop e (push n a) = hlevel (props, phrase-prop a)
parts-prop e (pop n a) = hlevel (props, phrase-prop a)
parts-prop e (class n a cs) = hlevel (props, attributes-prop a, conditions-prop cs)
parts-prop e (filter n a cs) = hlevel (props, attributes-prop a, alternatives-prop cs)
parts-prop e (leaf n u a q ns) = hlevel (props, attributes-prop a, limits-prop q, are-names-prop ns)
parts-prop e (node n u a q ns) = hlevel (props, attributes-prop a, limits-prop q, are-names-prop ns)

pub IsValidIn-prop : (e : Edition) (s : Sense) → IsProp (IsValidIn e s)
IsValidIn-prop e s = hlevel (props, parts-prop e s)
