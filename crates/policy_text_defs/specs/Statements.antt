-- The forms of statements, over complete lists of tokens.
use Rattle.std.specs.Prelude.{◌≡◌, refl, ℕ, ◌≤◌, ◌<◌, true, List, [], ◌∷◌, ◌++◌, length, map, Option, Some, None, codes}
use Rattle.std.proofs.Common.{lit≤}
use Rattle.std.specs.List.{AllByRecursion}
use Rattle.rank_defs.specs.declared.transaction.Span.{Span}
use Rattle.text_core.specs.declared.mark.Mark.TheVariants as m
use Rattle.policy_text_defs.specs.declared.edition.Edition.{Edition}
use Rattle.policy_text_defs.specs.declared.edition.Mode.{Mode}
use Rattle.policy_text_defs.specs.declared.attribute.Attrs.{Attrs}
use Rattle.policy_text_defs.specs.declared.attribute.Attribute.{Attribute}
use Rattle.policy_text_defs.specs.declared.attribute.Attribute.TheVariants as attribute
use Rattle.rank_defs.specs.declared.flow_group.FlowGroup.{FlowGroup}
use Rattle.rank_defs.specs.declared.flow_group.FlowGroup.TheVariants as group
use Rattle.policy_text_defs.specs.declared.queueing.Bound.{Bound}
use Rattle.policy_text_defs.specs.declared.queueing.Bound.TheVariants as bound
use Rattle.policy_text_defs.specs.declared.setting.Settings.{Settings}
use Rattle.policy_text_defs.specs.declared.condition.FieldName.{FieldName}
use Rattle.policy_text_defs.specs.declared.condition.FieldName.TheVariants as field_name
use Rattle.policy_text_defs.specs.declared.condition.Condition.{Condition}
use Rattle.policy_text_defs.specs.declared.condition.Condition.TheVariants as condition
use Rattle.policy_text_defs.specs.Words.{is_name, attribute_word, field_word, protocol_of}
use Rattle.policy_text_defs.specs.Ranges.{attribute_least, attribute_most, first_version, last_version, limit_least, bound_most, field_most}
use Rattle.text_core.specs.Glyphs.{Glyph, text, figure, sign}
pub use Rattle.policy_text_defs.specs.Addresses.{Octets, AreOctets, address_of, octet_tokens, Address, whole, prefix}
use Rattle.policy_text_defs.specs.Phrase.{Phrase}
use Rattle.policy_text_defs.specs.Sense.{Sense, version, transaction, keep, each, push, pop, class, filter, leaf, node}
use Rattle.policy_text_defs.specs.Settings.{no_queueing, only_packets, bound_value, settings_of, with_attrs, with_limit, with_flow}
use Rattle.policy_text_defs.specs.Grammar.{Spells}
use Rattle.policy_text_defs.specs.Editions.{edition_at, has_conditions, has_tests}
use Rattle.policy_text_defs.specs.declared.test.Test.{Test}
use Rattle.policy_text_defs.specs.Tests.{Alternatives}
use Rattle.policy_text_defs.specs.EditionNames.{has_names}

-- NAME
abbrev pub IsName : List ℕ → Type 0
IsName w = is_name w ≡ true

-- NAME or `rank`
pub data IsTarget : List ℕ → Type 0 where
  variable_target : (w : List ℕ) → IsName w → IsTarget w
  rank_target : IsTarget (codes "rank")

-- LOW is at most FIRST, and FIRST at most HIGH
pub record IsSpan (s : Span) : Type 0 where
  pub above : s.low ≤ s.first
  pub below : s.first ≤ s.high

-- `LOW..HIGH = FIRST`
abbrev pub span_tokens : Span → List Glyph
span_tokens s = figure s.low ∷ sign m.DotDot ∷ figure s.high ∷ sign m.Is ∷ figure s.first ∷ []

-- no attribute
abbrev pub unset : Attrs
unset = record { prio = None; weight = None; slack = None }

-- the value of an attribute, if it is set
abbrev pub attribute_value : Attribute → Attrs → Option ℕ
attribute_value attribute.Prio a = a.prio
attribute_value attribute.Weight a = a.weight
attribute_value attribute.Slack a = a.slack

abbrev pub with_attribute : Attribute → ℕ → Attrs → Attrs
with_attribute attribute.Prio n a = record a { prio = Some n }
with_attribute attribute.Weight n a = record a { weight = Some n }
with_attribute attribute.Slack n a = record a { slack = Some n }

-- the number is in the attribute's range, and the attribute isn't set yet
pub record MaySet (k : Attribute) (n : ℕ) (a : Attrs) : Type 0 where
  pub unset : attribute_value k a ≡ None
  pub above : attribute_least k ≤ n
  pub below : n ≤ attribute_most k

-- attributes in any order, each at most once, and none that is already set
pub data AttributesFrom : Attrs → List Glyph → Attrs → Type 0 where
  no_more : (a : Attrs) → AttributesFrom a [] a
  set : (k : Attribute) (n : ℕ) (ts : List Glyph) (a b : Attrs) → MaySet k n a → AttributesFrom (with_attribute k n a) ts b → AttributesFrom a (text (attribute_word k) ∷ figure n ∷ ts) b

-- ATTRS
abbrev pub Attributes : List Glyph → Attrs → Type 0
Attributes ts a = AttributesFrom unset ts a

-- R: `N`, or `LOW..HIGH` with LOW at most HIGH
pub data Range : List Glyph → ℕ → ℕ → Type 0 where
  single : (n : ℕ) → Range (figure n ∷ []) n n
  between : (low high : ℕ) → low ≤ high → Range (figure low ∷ sign m.DotDot ∷ figure high ∷ []) low high

-- COND: `vlan R`, `dscp R`, `proto R`, `sport R`, `dport R`, `len R`, `proto tcp`, `proto udp`,
-- `proto icmp`, `src A`, `dst A`, `ipv4`, `ipv6`
pub data IsCondition : List Glyph → Condition → Type 0 where
  field : (f : FieldName) (ts : List Glyph) (low high : ℕ) → Range ts low high → high ≤ field_most f → IsCondition (text (field_word f) ∷ ts) (condition.Field f low high)
  protocol : (w : List ℕ) (n : ℕ) → protocol_of w ≡ Some n → IsCondition (text (codes "proto") ∷ text w ∷ []) (condition.Field field_name.Proto n n)
  source : (ts : List Glyph) (a l : ℕ) → Address ts a l → IsCondition (text (codes "src") ∷ ts) (condition.Source a l)
  dest : (ts : List Glyph) (a l : ℕ) → Address ts a l → IsCondition (text (codes "dst") ∷ ts) (condition.Dest a l)
  ipv4 : IsCondition (text (codes "ipv4") ∷ []) condition.Ipv4
  ipv6 : IsCondition (text (codes "ipv6") ∷ []) condition.Ipv6

-- COND {and COND}
pub data Conditions : List Glyph → List Condition → Type 0 where
  last : (ts : List Glyph) (c : Condition) → IsCondition ts c → Conditions ts (c ∷ [])
  also : (ts us : List Glyph) (c : Condition) (cs : List Condition) → IsCondition ts c → Conditions us cs → Conditions (ts ++ text (codes "and") ∷ us) (c ∷ cs)

-- [when COND {and COND}]
pub data Guard : List Glyph → List Condition → Type 0 where
  unguarded : Guard [] []
  guarded : (ts : List Glyph) (cs : List Condition) → Conditions ts cs → Guard (text (codes "when") ∷ ts) cs

-- a version that a statement of the edition may name
pub record IsVersion (e : Edition) (v : ℕ) : Type 0 where
  pub above : first_version ≤ v
  pub below : v ≤ last_version e

-- a limit of a leaf or node
pub record IsLimit (b : Bound) (n : ℕ) : Type 0 where
  pub above : limit_least ≤ n
  pub below : n ≤ bound_most b

-- [limit N]
pub data Limit : List Glyph → Option ℕ → Type 0 where
  unlimited : Limit [] None
  limited : (n : ℕ) → IsLimit bound.Packets n → Limit (text (codes "limit") ∷ figure n ∷ []) (Some n)

-- UNIT: `packets`, `bytes` or `per flow`; none means packets
pub data BoundUnit : List Glyph → Bound → Type 0 where
  no_unit : BoundUnit [] bound.Packets
  packets : BoundUnit (text (codes "packets") ∷ []) bound.Packets
  bytes : BoundUnit (text (codes "bytes") ∷ []) bound.Bytes
  per_flow : BoundUnit (text (codes "per") ∷ text (codes "flow") ∷ []) bound.PerFlow

-- KEYS: `src`, `dst`, `src dst` or `5tuple`
pub data Keys : List Glyph → FlowGroup → Type 0 where
  source_key : Keys (text (codes "src") ∷ []) group.Source
  target_key : Keys (text (codes "dst") ∷ []) group.Target
  host_keys : Keys (text (codes "src") ∷ text (codes "dst") ∷ []) group.Hosts
  flow_keys : Keys (text (codes "5tuple") ∷ []) group.FiveTuple

-- the number may be this limit, which isn't given yet
pub record MayLimit (b : Bound) (n : ℕ) (s : Settings) : Type 0 where
  pub unset : bound_value b s.queueing ≡ None
  pub is : IsLimit b n

-- attributes, `limit N UNIT` and `flow by KEYS`, in any order, each at most once, and none that is
-- already given; limits of different units are different settings
pub data SettingsFrom : Settings → List Glyph → Settings → Type 0 where
  settled : (s : Settings) → SettingsFrom s [] s
  attribute_setting : (k : Attribute) (n : ℕ) (ts : List Glyph) (s t : Settings) → MaySet k n s.attrs → SettingsFrom (with_attrs (with_attribute k n s.attrs) s) ts t → SettingsFrom s (text (attribute_word k) ∷ figure n ∷ ts) t
  limit_setting : (b : Bound) (n : ℕ) (us ts : List Glyph) (s t : Settings) → BoundUnit us b → MayLimit b n s → SettingsFrom (with_limit b n s) ts t → SettingsFrom s (text (codes "limit") ∷ figure n ∷ us ++ ts) t
  flow_setting : (g : FlowGroup) (us ts : List Glyph) (s t : Settings) → Keys us g → s.queueing.by ≡ None → SettingsFrom (with_flow g s) ts t → SettingsFrom s (text (codes "flow") ∷ text (codes "by") ∷ us ++ ts) t

-- SETTINGS
abbrev pub AreSettings : List Glyph → Settings → Type 0
AreSettings ts s = SettingsFrom (settings_of unset no_queueing) ts s

-- NAME {NAME}
pub record AreNames (names : List (List ℕ)) : Type 0 where
  pub some : 0 < length names
  pub each : AllByRecursion IsName names

-- the tokens of a line have the form of the statement in this edition
pub data IsForm (e : Edition) : List Glyph → Sense → Type 0 where
  version_form : (v : ℕ) → IsVersion e v → IsForm e (text (codes "policy") ∷ figure v ∷ []) (version v)
  transaction_form : (n : List ℕ) → IsName n → IsForm e (text (codes "transaction") ∷ text n ∷ []) (transaction n)
  keep_form : (n : List ℕ) (s : Span) → IsName n → IsSpan s → IsForm e (text (codes "keep") ∷ text n ∷ span_tokens s) (keep n s)
  each_form : (n : List ℕ) (s : Span) → IsName n → IsSpan s → IsForm e (text (codes "each") ∷ text n ∷ span_tokens s) (each n s)
  push_form : (n : List ℕ) (ts : List Glyph) (a : Phrase) → IsTarget n → Spells ts a → IsForm e (text (codes "push") ∷ text n ∷ sign m.Is ∷ ts) (push n a)
  pop_form : (n : List ℕ) (ts : List Glyph) (a : Phrase) → IsName n → Spells ts a → IsForm e (text (codes "pop") ∷ text n ∷ sign m.Is ∷ ts) (pop n a)
  class_form : has_conditions e ≡ true → (n : List ℕ) (ts us : List Glyph) (a : Attrs) (cs : List Condition) → IsName n → Attributes ts a → Guard us cs → IsForm e (text (codes "class") ∷ text n ∷ ts ++ us) (class n a cs)
  filter_form : has_tests e ≡ true → (n : List ℕ) (ts us : List Glyph) (a : Attrs) (cs : List (List Test)) → IsName n → Attributes ts a → Alternatives us cs → IsForm e (text (codes "class") ∷ text n ∷ ts ++ us) (filter n a cs)
  leaf_form : has_conditions e ≡ true → (n u : List ℕ) (ts ls : List Glyph) (a : Attrs) (l : Option ℕ) (ns : List (List ℕ)) → IsName n → IsName u → Attributes ts a → Limit ls l → AreNames ns → IsForm e (text (codes "leaf") ∷ text n ∷ text (codes "using") ∷ text u ∷ ts ++ (ls ++ text (codes "classes") ∷ map text ns)) (leaf n u a (only_packets l) ns)
  node_form : has_conditions e ≡ true → (n u : List ℕ) (ts : List Glyph) (a : Attrs) (ns : List (List ℕ)) → IsName n → IsName u → Attributes ts a → AreNames ns → IsForm e (text (codes "node") ∷ text n ∷ text (codes "using") ∷ text u ∷ ts ++ text (codes "children") ∷ map text ns) (node n u a no_queueing ns)
  leaf_settings_form : has_tests e ≡ true → (n u : List ℕ) (ts : List Glyph) (s : Settings) (ns : List (List ℕ)) → IsName n → IsName u → AreSettings ts s → AreNames ns → IsForm e (text (codes "leaf") ∷ text n ∷ text (codes "using") ∷ text u ∷ ts ++ text (codes "classes") ∷ map text ns) (leaf n u s.attrs s.queueing ns)
  node_settings_form : has_tests e ≡ true → (n u : List ℕ) (ts : List Glyph) (s : Settings) (ns : List (List ℕ)) → IsName n → IsName u → AreSettings ts s → AreNames ns → IsForm e (text (codes "node") ∷ text n ∷ text (codes "using") ∷ text u ∷ ts ++ text (codes "children") ∷ map text ns) (node n u s.attrs s.queueing ns)

-- the same in the edition in which the mode reads the statement, which has the names in it
pub record IsFormAt (m : Mode) (gs : List Glyph) (s : Sense) : Type 0 where
  pub form : IsForm (edition_at m s) gs s
  pub named : has_names (edition_at m s) s ≡ true

one_attribute_is_set : with_attribute attribute.Weight 3 (record { prio = Some 1; weight = None; slack = Some 0 }) ≡ record { prio = Some 1; weight = Some 3; slack = Some 0 }
one_attribute_is_set = refl

-- LOW and HIGH come before FIRST
the_first_value_is_last : span_tokens (record { low = 1; high = 9; first = 4 }) ≡ figure 1 ∷ sign m.DotDot ∷ figure 9 ∷ sign m.Is ∷ figure 4 ∷ []
the_first_value_is_last = refl

-- an address without a length has a prefix of 32 bits
a_whole_address : IsCondition (text (codes "dst") ∷ figure 0 ∷ sign m.Dot ∷ figure 0 ∷ sign m.Dot ∷ figure 0 ∷ sign m.Dot ∷ figure 255 ∷ []) (condition.Dest 255 32)
a_whole_address =
    let octets : Octets = record { first = 0; second = 0; third = 0; fourth = 255 } in
    dest (octet_tokens octets) 255 32 (whole octets (record { first = lit≤ tt; second = lit≤ tt; third = lit≤ tt; fourth = lit≤ tt }))
