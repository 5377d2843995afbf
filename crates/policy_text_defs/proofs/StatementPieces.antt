-- The canonical line of a statement spells the statement's tokens.
use Rattle.policy_text_defs.proofs.Prelude.{List, ℕ, [], Bool, false, ◌||◌, has_tests, refl, ◌≡◌, ◌∷◌, Some, ◌++◌, true, None, arith, codes, ◌≤◌, Option, map, AllByRecursion, IfSome, Span, Glyph, text, IsApart, statement_text, attribute_text, attributes_text, limit_text, names_text, span_text, attribute_most, Sense, class, filter, is_of, each, keep, leaf, node, pop, push, transaction, version, IsLimit, IsName, span_tokens, IsValidIn, HasParts, IsVersion, has_name, has_names, has_words, is_plain_word, chosen, dialect_of, Dialect, list_all, ◌&&◌, AreValidAttributes, IsValidAttribute, IsValidSpan, is_word, attribute_word, Attribute, Attrs, Edition, Classic, Third, last_version}
use Rattle.policy_text_defs.proofs.TestPieces.{alternatives_apart, text_alternatives}
use Rattle.std.proofs.Math.Bool.{or-true}
use Rattle.text_core.specs.Decimals.{max}
use Rattle.text_core.specs.declared.dialect.Dialect.TheVariants as dialect
use Rattle.text_core.proofs.TextLaws.{says_run}
use Rattle.rank_defs.specs.declared.flow_group.FlowGroup.{FlowGroup}
use Rattle.rank_defs.specs.declared.flow_group.FlowGroup.TheVariants as group
use Rattle.policy_text_defs.specs.declared.queueing.Queueing.{Queueing}
use Rattle.policy_text_defs.specs.declared.queueing.Bound.{Bound}
use Rattle.policy_text_defs.specs.declared.queueing.Bound.TheVariants as bound
use Rattle.policy_text_defs.specs.Ranges.{bound_most}
use Rattle.policy_text_defs.specs.Settings.{is_open, has_only_packets, has_nothing}
use Rattle.policy_text_defs.specs.Canonical.{unit_text, keys_text, flow_text, queueing_text}
use Rattle.policy_text_defs.specs.Valid.{AreValidLimits}
use Rattle.policy_text_defs.specs.declared.attribute.Attribute.TheVariants as attribute
use Rattle.policy_text_defs.proofs.WordForms.{name_is_word, target_is_word}
use Rattle.policy_text_defs.proofs.Pieces.{IsPiece, apart-append, after, before, text_blank, text_is, text_word, text_name, text_number}
use Rattle.policy_text_defs.proofs.TokenLaws.{both_true}
use Rattle.policy_text_defs.proofs.TermPieces.{text_term}
use Rattle.policy_text_defs.proofs.ConditionPieces.{text_nothing, text_key, text_between, guard_boundary, text_guard}
use Rattle.policy_text_defs.proofs.StatementTokens.{attribute_tokens, attributes_tokens, unit_tokens, limit_tokens, keys_tokens, flow_tokens, queueing_tokens, statement_tokens}

-- ---- attributes

attribute_is_word : (k : Attribute) → is_plain_word (attribute_word k) ≡ true
attribute_is_word attribute.Prio = refl
attribute_is_word attribute.Weight = refl
attribute_is_word attribute.Slack = refl

attribute_small : (k : Attribute) (n : ℕ) → n ≤ attribute_most k → n ≤ max
attribute_small attribute.Prio n low = omega arith
attribute_small attribute.Weight n low = omega arith
attribute_small attribute.Slack n low = omega arith

text_attribute : {d : Dialect} (k : Attribute) (v : Option ℕ) → IsValidAttribute k v → IsPiece d IsApart (attribute_text k v) (attribute_tokens k v)
text_attribute k None is = text_nothing
text_attribute k (Some n) is = after text_blank (before (text_word (attribute_word k) (attribute_is_word k)) refl (after text_blank (text_number n (attribute_small k n is.below))))

attribute_boundary : (k : Attribute) (v : Option ℕ) → IsApart (attribute_text k v)
attribute_boundary k None = tt
attribute_boundary k (Some n) = refl

attributes_boundary : (a : Attrs) → IsApart (attributes_text a)
attributes_boundary a = apart-append (attribute_text attribute.Prio a.prio) _ (attribute_boundary attribute.Prio a.prio) (apart-append (attribute_text attribute.Weight a.weight) _ (attribute_boundary attribute.Weight a.weight) (attribute_boundary attribute.Slack a.slack))

text_attributes : {d : Dialect} (a : Attrs) → AreValidAttributes a → IsPiece d IsApart (attributes_text a) (attributes_tokens a)
text_attributes a are =
    before (text_attribute attribute.Prio a.prio are.prio) (apart-append (attribute_text attribute.Weight a.weight) _ (attribute_boundary attribute.Weight a.weight) (attribute_boundary attribute.Slack a.slack))
    (before (text_attribute attribute.Weight a.weight are.weight) (attribute_boundary attribute.Slack a.slack) (text_attribute attribute.Slack a.slack are.slack))

-- ---- limits and flow groups

unit_boundary : (b : Bound) → IsApart (unit_text b)
unit_boundary bound.Packets = tt
unit_boundary bound.Bytes = refl
unit_boundary bound.PerFlow = refl

text_unit : {d : Dialect} (b : Bound) → IsPiece d IsApart (unit_text b) (unit_tokens b)
text_unit bound.Packets = text_nothing
text_unit bound.Bytes = after text_blank (text_word (codes "bytes") refl)
text_unit bound.PerFlow = after text_blank (before (text_word (codes "per") refl) refl (after text_blank (text_word (codes "flow") refl)))

bound_small : (b : Bound) (n : ℕ) → n ≤ bound_most b → n ≤ max
bound_small bound.Packets n low = omega arith
bound_small bound.Bytes n low = omega arith
bound_small bound.PerFlow n low = omega arith

limit_boundary : (b : Bound) (l : Option ℕ) → IsApart (limit_text b l)
limit_boundary b None = tt
limit_boundary b (Some n) = refl

text_limit : {d : Dialect} (b : Bound) (l : Option ℕ) → IfSome l (IsLimit b) → IsPiece d IsApart (limit_text b l) (limit_tokens b l)
text_limit b None is = text_nothing
text_limit b (Some n) is = after text_blank (after (text_key {w = codes "limit"} refl) (before (text_number n (bound_small b n is.below)) (unit_boundary b) (text_unit b)))

flow_boundary : (v : Option FlowGroup) → IsApart (flow_text v)
flow_boundary None = tt
flow_boundary (Some g) = refl

-- a word that begins with a digit is one of the third edition
text_five : IsPiece dialect.Third IsApart (codes "5tuple") (text (codes "5tuple") ∷ [])
text_five = record { plain = refl; says = λ rest gs end later. says_run (codes "5tuple") rest gs refl refl refl end later }

text_keys : (g : FlowGroup) → IsPiece dialect.Third IsApart (keys_text g) (keys_tokens g)
text_keys group.Source = text_word (codes "src") refl
text_keys group.Target = text_word (codes "dst") refl
text_keys group.Hosts = before (text_word (codes "src") refl) refl (after text_blank (text_word (codes "dst") refl))
text_keys group.FiveTuple = text_five

text_flow : (e : Edition) (v : Option FlowGroup) → is_open v || has_tests e ≡ true → IsPiece (dialect_of e) IsApart (flow_text v) (flow_tokens v)
text_flow e None may = text_nothing
text_flow Classic (Some g) may = absurd cc
text_flow Third (Some g) may = after text_blank (after (text_key {w = codes "flow"} refl) (after (text_key {w = codes "by"} refl) (text_keys g)))

queueing_boundary : (q : Queueing) → IsApart (queueing_text q)
queueing_boundary q = apart-append (limit_text bound.Packets q.packets) _ (limit_boundary bound.Packets q.packets) (apart-append (limit_text bound.Bytes q.bytes) _ (limit_boundary bound.Bytes q.bytes) (apart-append (limit_text bound.PerFlow q.per_flow) _ (limit_boundary bound.PerFlow q.per_flow) (flow_boundary q.by)))

text_queueing : (e : Edition) (q : Queueing) → AreValidLimits q → is_open q.by || has_tests e ≡ true → IsPiece (dialect_of e) IsApart (queueing_text q) (queueing_tokens q)
text_queueing e q are may =
    let flows = flow_boundary q.by in
    let per = apart-append (limit_text bound.PerFlow q.per_flow) _ (limit_boundary bound.PerFlow q.per_flow) flows in
    let some_bytes = apart-append (limit_text bound.Bytes q.bytes) _ (limit_boundary bound.Bytes q.bytes) per in
    before (text_limit bound.Packets q.packets are.packets) some_bytes (before (text_limit bound.Bytes q.bytes are.bytes) per (before (text_limit bound.PerFlow q.per_flow are.per_flow) flows (text_flow e q.by may)))

-- flow groups are of the third edition
flow_case : (u v w x : Bool) → (u && (v && w)) || x ≡ true → w || x ≡ true
flow_case u v true x is = refl
flow_case u v w true is = or-true w
flow_case true true false false is = absurd cc
flow_case true false false false is = absurd cc
flow_case false v false false is = absurd cc

or_second : (u v x : Bool) → (u && v) || x ≡ true → v || x ≡ true
or_second u true x is = refl
or_second u false true is = refl
or_second true false false is = absurd cc
or_second false false false is = absurd cc

leaf_flow : (e : Edition) (q : Queueing) → has_only_packets q || has_tests e ≡ true → is_open q.by || has_tests e ≡ true
leaf_flow e q may = flow_case (is_open q.bytes) (is_open q.per_flow) (is_open q.by) (has_tests e) may

node_flow : (e : Edition) (q : Queueing) → has_nothing q || has_tests e ≡ true → is_open q.by || has_tests e ≡ true
node_flow e q may = leaf_flow e q (or_second (is_open q.packets) (has_only_packets q) (has_tests e) may)

-- ---- statements

names_boundary : (ns : List (List ℕ)) → IsApart (names_text ns)
names_boundary [] = tt
names_boundary (n ∷ ns) = refl

text_names : (e : Edition) (ns : List (List ℕ)) → AllByRecursion IsName ns → list_all (has_name e) ns ≡ true → IsPiece (dialect_of e) IsApart (names_text ns) (map text ns)
text_names e [] all has = text_nothing
text_names e (n ∷ ns) all has =
    let both = both_true (has_name e n) (list_all (has_name e) ns) has in
    after text_blank (before (text_name e n (name_is_word n all.0) both.0) (names_boundary ns) (text_names e ns all.1 both.1))

text_span : {d : Dialect} (s : Span) → IsValidSpan s → IsPiece d IsApart (span_text s) (span_tokens s)
text_span s is = before (text_between s.low s.high is.low is.high) refl (after text_is (text_number s.first is.first))

-- a keyword, a name, and bytes after them that don't continue a word
text_named : (e : Edition) {w n bs : List ℕ} {ts : List Glyph} → is_plain_word w ≡ true → is_word n ≡ true → has_name e n ≡ true → IsApart bs → IsPiece (dialect_of e) IsApart bs ts → IsPiece (dialect_of e) IsApart ((w ++ codes " ") ++ (n ++ bs)) (text w ∷ text n ∷ ts)
text_named e {n = n} key is has end t = after (text_key key) (before (text_name e n is has) end t)

last_small : (e : Edition) → last_version e ≤ 3
last_small Classic = omega arith
last_small Third = omega arith

-- a version has the same text in both dialects
pub text_version : {d : Dialect} (e : Edition) (v : ℕ) → IsVersion e v → IsPiece d IsApart (statement_text (version v)) (statement_tokens (version v))
text_version e v is =
    let below = is.below in
    let small = last_small e in
    let low : v ≤ max = omega arith in
    after (text_key {w = codes "policy"} refl) (text_number v low)

-- the canonical line of a statement spells its tokens
pub text_statement : (e : Edition) (s : Sense) → HasParts e s → has_names e s ≡ true → is_of e s ≡ true → IsPiece (dialect_of e) IsApart (statement_text s) (statement_tokens s)
text_statement e (version v) is has may = text_version e v is
text_statement e (transaction n) is has may = after (text_key {w = codes "transaction"} refl) (text_name e n (name_is_word n is) has)
text_statement e (keep n s) is has may = text_named e {w = codes "keep"} refl (name_is_word n is.0) has refl (after text_blank (text_span s is.1))
text_statement e (each n s) is has may = text_named e {w = codes "each"} refl (name_is_word n is.0) has refl (after text_blank (text_span s is.1))
text_statement e (push n a) is has may =
    let both = both_true (has_name e n) (has_words e a) has in
    text_named e {w = codes "push"} refl (target_is_word n is.0) both.0 refl (after text_is (text_term e a is.1.operands both.1))
text_statement e (pop n a) is has may =
    let both = both_true (has_name e n) (has_words e a) has in
    text_named e {w = codes "pop"} refl (name_is_word n is.0) both.0 refl (after text_is (text_term e a is.1.operands both.1))
text_statement e (class n a cs) is has may = text_named e {w = codes "class"} refl (name_is_word n is.0) has (apart-append (attributes_text a) _ (attributes_boundary a) (guard_boundary cs)) (before (text_attributes a is.1) (guard_boundary cs) (text_guard cs is.2))
text_statement Classic (filter n a cs) is has may = absurd cc
text_statement Third (filter n a cs) is has may = text_named Third {w = codes "class"} refl (name_is_word n is.0) has (apart-append (attributes_text a) _ (attributes_boundary a) (alternatives_apart cs)) (before (text_attributes a is.1) (alternatives_apart cs) (text_alternatives cs is.2))
text_statement e (leaf n u a q ns) is has may =
    let first = both_true (has_name e n) (has_name e u && list_all (has_name e) ns) has in
    let others = both_true (has_name e u) (list_all (has_name e) ns) first.1 in
    let names = after text_blank (before (text_word (codes "classes") refl) (names_boundary ns) (text_names e ns is.4.each others.1)) in
    let end = apart-append (queueing_text q) _ (queueing_boundary q) refl in
    let behind = before (text_name e u (name_is_word u is.1) others.0) (apart-append (attributes_text a) _ (attributes_boundary a) end) (before (text_attributes a is.2) end (before (text_queueing e q is.3 (leaf_flow e q may)) refl names)) in
    text_named e {w = codes "leaf"} refl (name_is_word n is.0) first.0 refl (after text_blank (after (text_key {w = codes "using"} refl) behind))
text_statement e (node n u a q ns) is has may =
    let first = both_true (has_name e n) (has_name e u && list_all (has_name e) ns) has in
    let others = both_true (has_name e u) (list_all (has_name e) ns) first.1 in
    let names = after text_blank (before (text_word (codes "children") refl) (names_boundary ns) (text_names e ns is.4.each others.1)) in
    let end = apart-append (queueing_text q) _ (queueing_boundary q) refl in
    let behind = before (text_name e u (name_is_word u is.1) others.0) (apart-append (attributes_text a) _ (attributes_boundary a) end) (before (text_attributes a is.2) end (before (text_queueing e q is.3 (node_flow e q may)) refl names)) in
    text_named e {w = codes "node"} refl (name_is_word n is.0) first.0 refl (after text_blank (after (text_key {w = codes "using"} refl) behind))

-- the first line of a text is a classic one, also if it chooses the third edition
pub text_opening : (s : Sense) → IsValidIn (chosen s) s → IsPiece (dialect_of Classic) IsApart (statement_text s) (statement_tokens s)
text_opening (version v) is = text_version (chosen (version v)) v is.0
text_opening (transaction n) is = text_statement Classic (transaction n) is.0 is.1 is.2
text_opening (keep n s) is = text_statement Classic (keep n s) is.0 is.1 is.2
text_opening (each n s) is = text_statement Classic (each n s) is.0 is.1 is.2
text_opening (push n a) is = text_statement Classic (push n a) is.0 is.1 is.2
text_opening (pop n a) is = text_statement Classic (pop n a) is.0 is.1 is.2
text_opening (class n a cs) is = text_statement Classic (class n a cs) is.0 is.1 is.2
text_opening (filter n a cs) is = absurd (let may = is.2 in cc)
text_opening (leaf n u a q ns) is = text_statement Classic (leaf n u a q ns) is.0 is.1 is.2
text_opening (node n u a q ns) is = text_statement Classic (node n u a q ns) is.0 is.1 is.2
