-- The tokens of a statement's canonical line, and the properties of a statement that has one.
use Rattle.policy_text_defs.proofs.Prelude.{List, ℕ, [], ◌∷◌, Some, ◌++◌, None, codes, Option, map, Glyph, text, figure, sign, Sense, class, filter, each, keep, leaf, node, pop, push, transaction, version, span_tokens, attribute_word, Attribute, Attrs}
use Rattle.policy_text_defs.proofs.TestTokens.{alternatives_tokens}
use Rattle.text_core.specs.declared.mark.Mark.TheVariants as m
use Rattle.policy_text_defs.specs.declared.attribute.Attribute.TheVariants as attribute
use Rattle.rank_defs.specs.declared.flow_group.FlowGroup.{FlowGroup}
use Rattle.rank_defs.specs.declared.flow_group.FlowGroup.TheVariants as group
use Rattle.policy_text_defs.specs.declared.queueing.Queueing.{Queueing}
use Rattle.policy_text_defs.specs.declared.queueing.Bound.{Bound}
use Rattle.policy_text_defs.specs.declared.queueing.Bound.TheVariants as bound
use Rattle.policy_text_defs.proofs.TermTokens.{tokens_of}
use Rattle.policy_text_defs.proofs.ConditionTokens.{guard_tokens}

abbrev pub attribute_tokens : Attribute → Option ℕ → List Glyph
attribute_tokens k None = []
attribute_tokens k (Some n) = text (attribute_word k) ∷ figure n ∷ []

abbrev pub attributes_tokens : Attrs → List Glyph
attributes_tokens a = attribute_tokens attribute.Prio a.prio ++ (attribute_tokens attribute.Weight a.weight ++ attribute_tokens attribute.Slack a.slack)

abbrev pub unit_tokens : Bound → List Glyph
unit_tokens bound.Packets = []
unit_tokens bound.Bytes = text (codes "bytes") ∷ []
unit_tokens bound.PerFlow = text (codes "per") ∷ text (codes "flow") ∷ []

abbrev pub limit_tokens : Bound → Option ℕ → List Glyph
limit_tokens b None = []
limit_tokens b (Some n) = text (codes "limit") ∷ figure n ∷ unit_tokens b

abbrev pub keys_tokens : FlowGroup → List Glyph
keys_tokens group.Source = text (codes "src") ∷ []
keys_tokens group.Target = text (codes "dst") ∷ []
keys_tokens group.Hosts = text (codes "src") ∷ text (codes "dst") ∷ []
keys_tokens group.FiveTuple = text (codes "5tuple") ∷ []

abbrev pub flow_tokens : Option FlowGroup → List Glyph
flow_tokens None = []
flow_tokens (Some g) = text (codes "flow") ∷ text (codes "by") ∷ keys_tokens g

abbrev pub queueing_tokens : Queueing → List Glyph
queueing_tokens q = limit_tokens bound.Packets q.packets ++ (limit_tokens bound.Bytes q.bytes ++ (limit_tokens bound.PerFlow q.per_flow ++ flow_tokens q.by))

abbrev pub statement_tokens : Sense → List Glyph
statement_tokens (version v) = text (codes "policy") ∷ figure v ∷ []
statement_tokens (transaction n) = text (codes "transaction") ∷ text n ∷ []
statement_tokens (keep n s) = text (codes "keep") ∷ text n ∷ span_tokens s
statement_tokens (each n s) = text (codes "each") ∷ text n ∷ span_tokens s
statement_tokens (push n a) = text (codes "push") ∷ text n ∷ sign m.Is ∷ tokens_of a
statement_tokens (pop n a) = text (codes "pop") ∷ text n ∷ sign m.Is ∷ tokens_of a
statement_tokens (class n a cs) = text (codes "class") ∷ text n ∷ attributes_tokens a ++ guard_tokens cs
statement_tokens (filter n a cs) = text (codes "class") ∷ text n ∷ attributes_tokens a ++ alternatives_tokens cs
statement_tokens (leaf n u a q ns) = text (codes "leaf") ∷ text n ∷ text (codes "using") ∷ text u ∷ attributes_tokens a ++ (queueing_tokens q ++ text (codes "classes") ∷ map text ns)
statement_tokens (node n u a q ns) = text (codes "node") ∷ text n ∷ text (codes "using") ∷ text u ∷ attributes_tokens a ++ (queueing_tokens q ++ text (codes "children") ∷ map text ns)
