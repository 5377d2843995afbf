-- The tokens of a canonical line have the form of its statement.
use Rattle.policy_text_defs.proofs.Prelude.{List, ℕ, [], ◌∷◌, ◌∙◌, ◌&&◌, map, append_assoc, text, Classic, Third, refl, ◌≡◌, Some, ◌++◌, subst, Bool, true, false, sym, None, codes, Option, append-nil, bytes_eq-Decides, ◌||◌, IfSome, bytes_eq, Glyph, Sense, class, filter, each, keep, leaf, node, pop, push, transaction, version, IsLimit, Attributes, IsForm, Limit, AttributesFrom, IsTarget, class_form, filter_form, is_of, each_form, keep_form, leaf_form, no_more, node_form, pop_form, push_form, rank_target, set, transaction_form, unlimited, unset, variable_target, version_form, with_attribute, attribute_value, HasParts, AreValidAttributes, IsValidAttribute, is_name, is_target, Attribute, Attrs, Edition}
use Rattle.policy_text_defs.proofs.TestTokens.{alternatives_tokens}
use Rattle.policy_text_defs.proofs.TestForms.{alternatives_form}
use Rattle.policy_text_defs.specs.declared.attribute.Attribute.TheVariants as attribute
use Rattle.rank_defs.specs.declared.flow_group.FlowGroup.{FlowGroup}
use Rattle.rank_defs.specs.declared.flow_group.FlowGroup.TheVariants as group
use Rattle.policy_text_defs.specs.declared.queueing.Queueing.{Queueing}
use Rattle.policy_text_defs.specs.declared.queueing.Bound.{Bound}
use Rattle.policy_text_defs.specs.declared.queueing.Bound.TheVariants as bound
use Rattle.policy_text_defs.specs.declared.setting.Settings.{Settings}
use Rattle.policy_text_defs.specs.Settings.{no_queueing, only_packets, is_open, has_only_packets, has_nothing, bound_value, with_bound, settings_of}
use Rattle.policy_text_defs.specs.Statements.{limited, leaf_settings_form, node_settings_form, BoundUnit, no_unit, bytes, per_flow, Keys, source_key, target_key, host_keys, flow_keys, SettingsFrom, settled, attribute_setting, limit_setting, flow_setting, AreSettings}
use Rattle.policy_text_defs.specs.Valid.{AreValidLimits}
use Rattle.policy_text_defs.proofs.TokenLaws.{both_true}
use Rattle.policy_text_defs.proofs.TermForms.{tokens_of-Spells}
use Rattle.policy_text_defs.proofs.ConditionForms.{guard_form}
use Rattle.policy_text_defs.proofs.ConditionTokens.{guard_tokens}
use Rattle.policy_text_defs.proofs.StatementTokens.{attribute_tokens, attributes_tokens, unit_tokens, limit_tokens, keys_tokens, flow_tokens, queueing_tokens, statement_tokens}

-- ---- attributes

abbrev set_option : Attribute → Option ℕ → Attrs → Attrs
set_option k None a = a
set_option k (Some n) a = with_attribute k n a

attribute_form : (k : Attribute) (v : Option ℕ) (ts : List Glyph) (a b : Attrs) → attribute_value k a ≡ None → IsValidAttribute k v → AttributesFrom (set_option k v a) ts b → AttributesFrom a (attribute_tokens k v ++ ts) b
attribute_form k None ts a b free is later = later
attribute_form k (Some n) ts a b free is later = set k n ts a b (record { unset = free; above = is.above; below = is.below }) later

prio_set : (v : Option ℕ) → set_option attribute.Prio v unset ≡ record { prio = v; weight = None; slack = None }
prio_set None = refl
prio_set (Some n) = refl

weight_set : (v w : Option ℕ) → set_option attribute.Weight w (record { prio = v; weight = None; slack = None }) ≡ record { prio = v; weight = w; slack = None }
weight_set v None = refl
weight_set v (Some n) = refl

slack_set : (v w x : Option ℕ) → set_option attribute.Slack x (record { prio = v; weight = w; slack = None }) ≡ record { prio = v; weight = w; slack = x }
slack_set v w None = refl
slack_set v w (Some n) = refl

pub attributes_form : (a : Attrs) → AreValidAttributes a → Attributes (attributes_tokens a) a
attributes_form a are =
    let P : Attrs → Type 0 = λ b. AttributesFrom b (attribute_tokens attribute.Weight a.weight ++ attribute_tokens attribute.Slack a.slack) a in
    let Q : Attrs → Type 0 = λ b. AttributesFrom b (attribute_tokens attribute.Slack a.slack) a in
    let R : Attrs → Type 0 = λ b. AttributesFrom b [] a in
    let S : List Glyph → Type 0 = λ ts. AttributesFrom (record { prio = a.prio; weight = a.weight; slack = None }) ts a in
    let last_set = subst R (sym (slack_set a.prio a.weight a.slack)) (no_more a) in
    let third : Q (record { prio = a.prio; weight = a.weight; slack = None }) = subst S (append-nil (attribute_tokens attribute.Slack a.slack)) (attribute_form attribute.Slack a.slack [] (record { prio = a.prio; weight = a.weight; slack = None }) a refl are.slack last_set) in
    let second : P (record { prio = a.prio; weight = None; slack = None }) = attribute_form attribute.Weight a.weight (attribute_tokens attribute.Slack a.slack) (record { prio = a.prio; weight = None; slack = None }) a refl are.weight (subst Q (sym (weight_set a.prio a.weight)) third) in
    attribute_form attribute.Prio a.prio (attribute_tokens attribute.Weight a.weight ++ attribute_tokens attribute.Slack a.slack) unset a refl are.prio (subst P (sym (prio_set a.prio)) second)

limit_form : (l : Option ℕ) → IfSome l (IsLimit bound.Packets) → Limit (limit_tokens bound.Packets l) l
limit_form None is = unlimited
limit_form (Some n) is = limited n is

-- ---- settings

-- attributes are settings
attributes_settings : (a b : Attrs) (ts us : List Glyph) (q : Queueing) (t : Settings) → AttributesFrom a ts b → SettingsFrom (settings_of b q) us t → SettingsFrom (settings_of a q) (ts ++ us) t
attributes_settings a b ts us q t (no_more _) later = later
attributes_settings a b ts us q t (set k n vs _ _ may on) later = attribute_setting k n (vs ++ us) (settings_of a q) t may (attributes_settings (with_attribute k n a) b vs us q t on later)

abbrev set_bound : Bound → Option ℕ → Queueing → Queueing
set_bound b None q = q
set_bound b (Some n) q = with_bound b n q

unit_form : (b : Bound) → BoundUnit (unit_tokens b) b
unit_form bound.Packets = no_unit
unit_form bound.Bytes = bytes
unit_form bound.PerFlow = per_flow

bound_form : (b : Bound) (v : Option ℕ) (ts : List Glyph) (a : Attrs) (q : Queueing) (t : Settings) → bound_value b q ≡ None → IfSome v (IsLimit b) → SettingsFrom (settings_of a (set_bound b v q)) ts t → SettingsFrom (settings_of a q) (limit_tokens b v ++ ts) t
bound_form b None ts a q t free is later = later
bound_form b (Some n) ts a q t free is later = limit_setting b n (unit_tokens b) ts (settings_of a q) t (unit_form b) (record { unset = free; is = is }) later

keys_form : (g : FlowGroup) → Keys (keys_tokens g) g
keys_form group.Source = source_key
keys_form group.Target = target_key
keys_form group.Hosts = host_keys
keys_form group.FiveTuple = flow_keys

flow_form : (v : Option FlowGroup) (a : Attrs) (x y z : Option ℕ) → SettingsFrom (settings_of a (record { packets = x; bytes = y; per_flow = z; by = None })) (flow_tokens v) (settings_of a (record { packets = x; bytes = y; per_flow = z; by = v }))
flow_form None a x y z = settled _
flow_form (Some g) a x y z =
    let q : Queueing = record { packets = x; bytes = y; per_flow = z; by = None } in
    let t : Settings = settings_of a (record { packets = x; bytes = y; per_flow = z; by = Some g }) in
    let P : List Glyph → Type 0 = λ ts. SettingsFrom (settings_of a q) (text (codes "flow") ∷ text (codes "by") ∷ ts) t in
    subst P (append-nil (keys_tokens g)) (flow_setting g (keys_tokens g) [] (settings_of a q) t (keys_form g) refl (settled t))

packets_set : (x : Option ℕ) → set_bound bound.Packets x no_queueing ≡ only_packets x
packets_set None = refl
packets_set (Some n) = refl

bytes_set : (x y : Option ℕ) → set_bound bound.Bytes y (only_packets x) ≡ record { packets = x; bytes = y; per_flow = None; by = None }
bytes_set x None = refl
bytes_set x (Some n) = refl

per_flow_set : (x y z : Option ℕ) → set_bound bound.PerFlow z (record { packets = x; bytes = y; per_flow = None; by = None }) ≡ record { packets = x; bytes = y; per_flow = z; by = None }
per_flow_set x y None = refl
per_flow_set x y (Some n) = refl

limits_form : (a : Attrs) (q : Queueing) → AreValidLimits q → SettingsFrom (settings_of a no_queueing) (queueing_tokens q) (settings_of a q)
limits_form a q are =
    let t : Settings = settings_of a q in
    let flows = flow_tokens q.by in
    let per = limit_tokens bound.PerFlow q.per_flow ++ flows in
    let some_bytes = limit_tokens bound.Bytes q.bytes ++ per in
    let two : Queueing = record { packets = q.packets; bytes = q.bytes; per_flow = None; by = None } in
    let third : SettingsFrom (settings_of a two) per t = bound_form bound.PerFlow q.per_flow flows a two t refl are.per_flow (subst (λ (r : Queueing). SettingsFrom (settings_of a r) flows t) (sym (per_flow_set q.packets q.bytes q.per_flow)) (flow_form q.by a q.packets q.bytes q.per_flow)) in
    let second : SettingsFrom (settings_of a (only_packets q.packets)) some_bytes t = bound_form bound.Bytes q.bytes per a (only_packets q.packets) t refl are.bytes (subst (λ (r : Queueing). SettingsFrom (settings_of a r) per t) (sym (bytes_set q.packets q.bytes)) third) in
    bound_form bound.Packets q.packets some_bytes a no_queueing t refl are.packets (subst (λ (r : Queueing). SettingsFrom (settings_of a r) some_bytes t) (sym (packets_set q.packets)) second)

settings_form : (a : Attrs) (q : Queueing) → AreValidAttributes a → AreValidLimits q → AreSettings (attributes_tokens a ++ queueing_tokens q) (settings_of a q)
settings_form a q are limits = attributes_settings unset a (attributes_tokens a) (queueing_tokens q) no_queueing (settings_of a q) (attributes_form a are) (limits_form a q limits)

-- ---- what the classic edition can write

or_left : (v : Bool) → v || false ≡ true → v ≡ true
or_left true is = refl
or_left false is = absurd cc

packets_case : (x y z : Option ℕ) (v : Option FlowGroup) → is_open y && (is_open z && is_open v) ≡ true → record { packets = x; bytes = y; per_flow = z; by = v } ≡ only_packets x
packets_case x None None None is = refl
packets_case x None None (Some g) is = absurd cc
packets_case x None (Some n) v is = absurd cc
packets_case x (Some n) z v is = absurd cc

packets_alone : (q : Queueing) → has_only_packets q ≡ true → q ≡ only_packets q.packets
packets_alone q is = packets_case q.packets q.bytes q.per_flow q.by is

nothing_case : (x : Option ℕ) (v : Bool) → is_open x && v ≡ true → only_packets x ≡ no_queueing
nothing_case None v is = refl
nothing_case (Some n) v is = absurd cc

nothing_alone : (q : Queueing) → has_nothing q ≡ true → q ≡ no_queueing
nothing_alone q is = packets_alone q (both_true (is_open q.packets) (has_only_packets q) is).1 ∙ nothing_case q.packets (has_only_packets q) is

-- ---- statements

leaf_tokens_form : (e : Edition) (n u : List ℕ) (a : Attrs) (q : Queueing) (ns : List (List ℕ)) → HasParts e (leaf n u a q ns) → is_of e (leaf n u a q ns) ≡ true → IsForm e (statement_tokens (leaf n u a q ns)) (leaf n u a q ns)
leaf_tokens_form Classic n u a q ns is may =
    let x = q.packets in
    let list : List Glyph = text (codes "classes") ∷ map text ns in
    let P : Queueing → Type 0 = λ r. IsForm Classic (statement_tokens (leaf n u a r ns)) (leaf n u a r ns) in
    let Q : List Glyph → Type 0 = λ ls. IsForm Classic (text (codes "leaf") ∷ text n ∷ text (codes "using") ∷ text u ∷ attributes_tokens a ++ (ls ++ list)) (leaf n u a (only_packets x) ns) in
    let plain = leaf_form refl n u (attributes_tokens a) (limit_tokens bound.Packets x) a x ns is.0 is.1 (attributes_form a is.2) (limit_form x is.3.packets) is.4 in
    subst P (sym (packets_alone q (or_left (has_only_packets q) may))) (subst Q (sym (append-nil (limit_tokens bound.Packets x))) plain)
leaf_tokens_form Third n u a q ns is may =
    let list : List Glyph = text (codes "classes") ∷ map text ns in
    let P : List Glyph → Type 0 = λ ts. IsForm Third (text (codes "leaf") ∷ text n ∷ text (codes "using") ∷ text u ∷ ts) (leaf n u a q ns) in
    subst P (append_assoc (attributes_tokens a) (queueing_tokens q) list) (leaf_settings_form refl n u (attributes_tokens a ++ queueing_tokens q) (settings_of a q) ns is.0 is.1 (settings_form a q is.2 is.3) is.4)

node_tokens_form : (e : Edition) (n u : List ℕ) (a : Attrs) (q : Queueing) (ns : List (List ℕ)) → HasParts e (node n u a q ns) → is_of e (node n u a q ns) ≡ true → IsForm e (statement_tokens (node n u a q ns)) (node n u a q ns)
node_tokens_form Classic n u a q ns is may =
    let P : Queueing → Type 0 = λ r. IsForm Classic (statement_tokens (node n u a r ns)) (node n u a r ns) in
    subst P (sym (nothing_alone q (or_left (has_nothing q) may))) (node_form refl n u (attributes_tokens a) a ns is.0 is.1 (attributes_form a is.2) is.4)
node_tokens_form Third n u a q ns is may =
    let list : List Glyph = text (codes "children") ∷ map text ns in
    let P : List Glyph → Type 0 = λ ts. IsForm Third (text (codes "node") ∷ text n ∷ text (codes "using") ∷ text u ∷ ts) (node n u a q ns) in
    subst P (append_assoc (attributes_tokens a) (queueing_tokens q) list) (node_settings_form refl n u (attributes_tokens a ++ queueing_tokens q) (settings_of a q) ns is.0 is.1 (settings_form a q is.2 is.3) is.4)

target_case : (w : List ℕ) (u v : Bool) → is_name w ≡ u → bytes_eq w (codes "rank") ≡ v → u || v ≡ true → IsTarget w
target_case w true v p q is = variable_target w p
target_case w false true p q is = subst IsTarget (sym ((bytes_eq-Decides w (codes "rank")).0 q)) rank_target
target_case w false false p q is = absurd cc

IsTarget-from : (w : List ℕ) → is_target w ≡ true → IsTarget w
IsTarget-from w is = target_case w (is_name w) (bytes_eq w (codes "rank")) refl refl is

-- the tokens of a statement's canonical line have the form of the statement
pub statement_form : (e : Edition) (s : Sense) → HasParts e s → is_of e s ≡ true → IsForm e (statement_tokens s) s
statement_form e (version v) is may = version_form v is
statement_form e (transaction n) is may = transaction_form n is
statement_form e (keep n s) is may = keep_form n s is.0 is.1.ordered
statement_form e (each n s) is may = each_form n s is.0 is.1.ordered
statement_form e (push n a) is may = push_form n _ a (IsTarget-from n is.0) (tokens_of-Spells a is.1.operands is.1.low)
statement_form e (pop n a) is may = pop_form n _ a is.0 (tokens_of-Spells a is.1.operands is.1.low)
statement_form e (class n a cs) is may = class_form may n (attributes_tokens a) (guard_tokens cs) a cs is.0 (attributes_form a is.1) (guard_form cs is.2)
statement_form e (filter n a cs) is may = filter_form may n (attributes_tokens a) (alternatives_tokens cs) a cs is.0 (attributes_form a is.1) (alternatives_form cs is.2)
statement_form e (leaf n u a q ns) is may = leaf_tokens_form e n u a q ns is may
statement_form e (node n u a q ns) is may = node_tokens_form e n u a q ns is may
