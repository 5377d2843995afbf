-- Reading a statement from the left, token by token. It serves proofs, as Reading does.
use Rattle.std.specs.Prelude.{◌≡◌, refl, ℕ, nat_le, Bool, true, false, ◌&&◌, if◌then◌else◌, List, [], ◌∷◌, ◌++◌, map, Option, Some, None, codes}
use Rattle.rank_defs.specs.declared.transaction.Span.{Span}
use Rattle.text_core.specs.declared.mark.Mark.TheVariants as m
use Rattle.text_core.specs.Glyphs.{Glyph, text, figure, sign}
use Rattle.policy_text_defs.specs.declared.edition.Edition.TheVariants.{Classic, Third}
use Rattle.policy_text_defs.specs.declared.edition.Mode.{Mode}
use Rattle.policy_text_defs.specs.declared.edition.Mode.TheVariants.{Opening, Within}
use Rattle.policy_text_defs.specs.declared.attribute.Attrs.{Attrs}
use Rattle.policy_text_defs.specs.declared.attribute.Attribute.{Attribute}
use Rattle.rank_defs.specs.declared.flow_group.FlowGroup.{FlowGroup}
use Rattle.rank_defs.specs.declared.flow_group.FlowGroup.TheVariants as group
use Rattle.policy_text_defs.specs.declared.queueing.Bound.{Bound}
use Rattle.policy_text_defs.specs.declared.queueing.Bound.TheVariants as bound
use Rattle.policy_text_defs.specs.declared.setting.Setting.{Setting}
use Rattle.policy_text_defs.specs.declared.setting.Setting.TheVariants as setting
use Rattle.policy_text_defs.specs.declared.setting.Settings.{Settings}
use Rattle.policy_text_defs.specs.declared.condition.FieldName.{FieldName}
use Rattle.policy_text_defs.specs.declared.condition.FieldName.TheVariants as field_name
use Rattle.policy_text_defs.specs.declared.condition.Condition.{Condition}
use Rattle.policy_text_defs.specs.declared.condition.Condition.TheVariants as condition
use Rattle.policy_text_defs.specs.declared.condition.Subject.{Subject}
use Rattle.policy_text_defs.specs.declared.condition.Subject.TheVariants as subject
use Rattle.policy_text_defs.specs.declared.keyword.Keyword.{Keyword}
use Rattle.policy_text_defs.specs.declared.keyword.Keyword.TheVariants as keyword
use Rattle.policy_text_defs.specs.Words.{is_name, is_target, attribute_of, setting_of, bound_of, group_of, subject_of, protocol_of, keyword_of, passing}
use Rattle.policy_text_defs.specs.Ranges.{attribute_least, attribute_most, first_version, limit_least, limit_most, bound_most, field_most}
use Rattle.policy_text_defs.specs.Phrase.{most_open}
use Rattle.policy_text_defs.specs.Editions.{edition_at, last_at}
use Rattle.policy_text_defs.specs.EditionNames.{has_names}
use Rattle.policy_text_defs.specs.Sense.{Sense, version, transaction, keep, each, push, pop, class, filter, leaf, node}
use Rattle.policy_text_defs.specs.Statements.{unset, attribute_value, with_attribute}
use Rattle.policy_text_defs.specs.Settings.{no_queueing, only_packets, is_open, bound_value, settings_of, with_attrs, with_limit, with_flow}
unfoldable pub use Rattle.policy_text_defs.specs.TokenReading.{repeated, many, within, upper, address, prefix_length}
pub use Rattle.policy_text_defs.specs.TokenReading.{word_of, a_word, figure_of, a_number, number_to, word_ahead, octets_at}
use Rattle.policy_text_defs.specs.TestReading.{test_guard}
use Rattle.policy_text_defs.specs.Reading.{Reader, ◌>>=◌, ◌>>◌, pure, refuse, pick, given, next, mark, literal, ahead, expression, atom}

-- ---- names

unfoldable pub named_by : List ℕ → Reader (List ℕ)
named_by w = given (λ v. v) (passing is_name w)

abbrev pub name : Reader (List ℕ)
name = a_word >>= named_by

unfoldable pub target_by : List ℕ → Reader (List ℕ)
target_by w = given (λ v. v) (passing is_target w)

abbrev pub target : Reader (List ℕ)
target = a_word >>= target_by

-- ---- parts of statements

unfoldable pub spanned : Span → Reader Span
spanned s = if nat_le s.low s.first && nat_le s.first s.high then pure s else refuse

abbrev pub span_at : ℕ → ℕ → ℕ → Span
span_at low high first = record { low = low; high = high; first = first }

unfoldable pub span : Reader Span
span = do
  low ← a_number
  mark m.DotDot
  high ← a_number
  mark m.Is
  first ← a_number
  spanned (span_at low high first)

abbrev pub attribute_at : Glyph → Option Attribute
attribute_at (text w) = attribute_of w
attribute_at _ = None

abbrev pub is_unset : Attribute → Attrs → Bool
is_unset k a = pick (attribute_value k a) true (λ _. false)

unfoldable pub set_to : Attribute → Attrs → ℕ → Reader Attrs
set_to k a n = if is_unset k a && (nat_le (attribute_least k) n && nat_le n (attribute_most k)) then pure (with_attribute k n a) else refuse

abbrev pub set_next : Attribute → Attrs → Reader Attrs
set_next k a = a_number >>= set_to k a

abbrev pub attributes : Reader Attrs
attributes = many (ahead attribute_at) set_next unset

abbrev pub name_ahead : Glyph → Option (List ℕ)
name_ahead (text w) = passing is_name w
name_ahead _ = None

abbrev pub name_last : List ℕ → List (List ℕ) → Reader (List (List ℕ))
name_last w ns = pure (ns ++ w ∷ [])

unfoldable pub names : Reader (List (List ℕ))
names = name >>= (λ w. many (ahead name_ahead) name_last (w ∷ []))

unfoldable pub limit_by : ℕ → Reader (Option ℕ)
limit_by n = if nat_le limit_least n && nat_le n limit_most then pure (Some n) else refuse

-- the number after `limit`, or none if there is no `limit`
unfoldable pub limit : Reader (Option ℕ)
limit gs = pick (ahead (word_ahead (codes "limit")) gs) (Some (None, gs)) (λ t. (a_number >>= limit_by) t.1)

-- ---- settings

abbrev pub unit_ahead : Glyph → Option Bound
unit_ahead (text w) = bound_of w
unit_ahead _ = None

-- the rest of a unit after its first word
abbrev pub unit_rest : Bound → Reader Bound
unit_rest bound.Packets = pure bound.Packets
unit_rest bound.Bytes = pure bound.Bytes
unit_rest bound.PerFlow = literal (codes "flow") >>= (λ u. pure bound.PerFlow)

-- the unit of a limit, or packets if none follows
unfoldable pub unit : Reader Bound
unit gs = pick (ahead unit_ahead gs) (Some (bound.Packets, gs)) (λ t. unit_rest t.0 t.1)

unfoldable pub limit_to : Settings → ℕ → Bound → Reader Settings
limit_to s n b = if is_open (bound_value b s.queueing) && (nat_le limit_least n && nat_le n (bound_most b)) then pure (with_limit b n s) else refuse

-- a limit after its first word
abbrev pub limit_next : Settings → Reader Settings
limit_next s = do
  n ← a_number
  b ← unit
  limit_to s n b

-- the keys after `src`
unfoldable pub source_keys : Reader FlowGroup
source_keys gs = pick (ahead (word_ahead (codes "dst")) gs) (Some (group.Source, gs)) (λ t. Some (group.Hosts, t.1))

abbrev pub keys_by : Option FlowGroup → Reader FlowGroup
keys_by None = refuse
keys_by (Some group.Source) = source_keys
keys_by (Some group.Target) = pure group.Target
keys_by (Some group.Hosts) = pure group.Hosts
keys_by (Some group.FiveTuple) = pure group.FiveTuple

unfoldable pub keys : Reader FlowGroup
keys = a_word >>= (λ w. keys_by (group_of w))

unfoldable pub flow_to : Settings → FlowGroup → Reader Settings
flow_to s g = if is_open s.queueing.by then pure (with_flow g s) else refuse

-- a flow group after its first word
abbrev pub flow_next : Settings → Reader Settings
flow_next s = do
  literal (codes "by")
  g ← keys
  flow_to s g

abbrev pub setting_at : Glyph → Option Setting
setting_at (text w) = setting_of w
setting_at _ = None

abbrev pub setting_next : Setting → Settings → Reader Settings
setting_next (setting.Attribute k) s = set_next k s.attrs >>= (λ a. pure (with_attrs a s))
setting_next setting.Limit s = limit_next s
setting_next setting.Flow s = flow_next s

abbrev pub no_settings : Settings
no_settings = settings_of unset no_queueing

abbrev pub settings : Reader Settings
settings = many (ahead setting_at) setting_next no_settings

-- ---- conditions

unfoldable pub bounded : FieldName → ℕ → ℕ → Reader Condition
bounded f low high = if nat_le low high && nat_le high (field_most f) then pure (condition.Field f low high) else refuse

abbrev pub range_from : FieldName → ℕ → Reader Condition
range_from f low = upper low >>= bounded f low

abbrev pub protocol_by : Option ℕ → Reader Condition
protocol_by None = refuse
protocol_by (Some n) = pure (condition.Field field_name.Proto n n)

abbrev pub named_value : FieldName → List ℕ → Reader Condition
named_value field_name.Proto w = protocol_by (protocol_of w)
named_value _ w = refuse

abbrev pub bounds_at : FieldName → Glyph → Reader Condition
bounds_at f (figure n) = range_from f n
bounds_at f (text w) = named_value f w
bounds_at f (sign s) = refuse

abbrev pub bounds : FieldName → Reader Condition
bounds f = next >>= bounds_at f

unfoldable pub source_rest : Reader Condition
source_rest = do
  a ← address
  l ← prefix_length
  pure (condition.Source a l)

unfoldable pub dest_rest : Reader Condition
dest_rest = do
  a ← address
  l ← prefix_length
  pure (condition.Dest a l)

abbrev pub condition_by : Option Subject → Reader Condition
condition_by None = refuse
condition_by (Some (subject.Field f)) = bounds f
condition_by (Some subject.Source) = source_rest
condition_by (Some subject.Dest) = dest_rest
condition_by (Some subject.Ipv4) = pure condition.Ipv4
condition_by (Some subject.Ipv6) = pure condition.Ipv6

unfoldable pub a_condition : Reader Condition
a_condition = a_word >>= (λ w. condition_by (subject_of w))

abbrev pub condition_last : Unit {0} → List Condition → Reader (List Condition)
condition_last u cs = a_condition >>= (λ c. pure (cs ++ c ∷ []))

unfoldable pub conditions : Reader (List Condition)
conditions = a_condition >>= (λ c. many (ahead (word_ahead (codes "and"))) condition_last (c ∷ []))

unfoldable pub guard : Reader (List Condition)
guard gs = pick (ahead (word_ahead (codes "when")) gs) (Some ([], gs)) (λ t. conditions t.1)

-- ---- statements, after their first words

unfoldable pub version_by : Mode → ℕ → Reader Sense
version_by m n = if nat_le first_version n && nat_le n (last_at m) then pure (version n) else refuse

unfoldable pub transaction_rest : Reader Sense
transaction_rest = name >>= (λ n. pure (transaction n))

unfoldable pub keep_rest : Reader Sense
keep_rest = do
  n ← name
  s ← span
  pure (keep n s)

unfoldable pub each_rest : Reader Sense
each_rest = do
  n ← name
  s ← span
  pure (each n s)

unfoldable pub push_rest : Reader Sense
push_rest = do
  n ← target
  mark m.Is
  a ← expression (atom most_open)
  pure (push n a)

unfoldable pub pop_rest : Reader Sense
pop_rest = do
  n ← name
  mark m.Is
  a ← expression (atom most_open)
  pure (pop n a)

unfoldable pub class_rest : Reader Sense
class_rest = do
  n ← name
  a ← attributes
  cs ← guard
  pure (class n a cs)

unfoldable pub filter_rest : Reader Sense
filter_rest = do
  n ← name
  a ← attributes
  cs ← test_guard
  pure (filter n a cs)

-- a class of the edition; the first line of a text is a classic one
abbrev pub class_by : Mode → Reader Sense
class_by (Opening e) = class_rest
class_by (Within Classic) = class_rest
class_by (Within Third) = filter_rest

unfoldable pub leaf_rest : Reader Sense
leaf_rest = do
  n ← name
  literal (codes "using")
  u ← name
  a ← attributes
  l ← limit
  literal (codes "classes")
  ns ← names
  pure (leaf n u a (only_packets l) ns)

unfoldable pub leaf_settings_rest : Reader Sense
leaf_settings_rest = do
  n ← name
  literal (codes "using")
  u ← name
  s ← settings
  literal (codes "classes")
  ns ← names
  pure (leaf n u s.attrs s.queueing ns)

unfoldable pub node_rest : Reader Sense
node_rest = do
  n ← name
  literal (codes "using")
  u ← name
  a ← attributes
  literal (codes "children")
  ns ← names
  pure (node n u a no_queueing ns)

unfoldable pub node_settings_rest : Reader Sense
node_settings_rest = do
  n ← name
  literal (codes "using")
  u ← name
  s ← settings
  literal (codes "children")
  ns ← names
  pure (node n u s.attrs s.queueing ns)

-- leaves and nodes have settings only in the third edition
abbrev pub leaf_by : Mode → Reader Sense
leaf_by (Opening e) = leaf_rest
leaf_by (Within Classic) = leaf_rest
leaf_by (Within Third) = leaf_settings_rest

abbrev pub node_by : Mode → Reader Sense
node_by (Opening e) = node_rest
node_by (Within Classic) = node_rest
node_by (Within Third) = node_settings_rest

abbrev pub rest_by : Mode → Option Keyword → Reader Sense
rest_by m None = refuse
rest_by m (Some keyword.Policy) = a_number >>= version_by m
rest_by m (Some keyword.Transaction) = transaction_rest
rest_by m (Some keyword.Keep) = keep_rest
rest_by m (Some keyword.Each) = each_rest
rest_by m (Some keyword.Push) = push_rest
rest_by m (Some keyword.Pop) = pop_rest
rest_by m (Some keyword.Class) = class_by m
rest_by m (Some keyword.Leaf) = leaf_by m
rest_by m (Some keyword.Node) = node_by m

unfoldable pub a_form : Mode → Reader Sense
a_form m = a_word >>= (λ w. rest_by m (keyword_of w))

-- the statement, if the edition in which it is read has its names
unfoldable pub named_at : Mode → Sense → Reader Sense
named_at m s = if has_names (edition_at m s) s then pure s else refuse

unfoldable pub a_statement : Mode → Reader Sense
a_statement m = a_form m >>= named_at m

-- `policy 3` is a statement in the third edition, or as the first one if the reader reads it
the_third_version : map (λ (m : Mode). a_statement m (text (codes "policy") ∷ figure 3 ∷ [])) (Opening Third ∷ Opening Classic ∷ Within Third ∷ Within Classic ∷ []) ≡ Some (version 3, []) ∷ None ∷ Some (version 3, []) ∷ None ∷ []
unfolding a_statement a_form named_at version_by
the_third_version = refl

-- there is no version 0, and none above the last one
no_versions : map (λ n. a_statement (Opening Third) (text (codes "policy") ∷ figure n ∷ [])) (0 ∷ 1 ∷ 2 ∷ 4 ∷ []) ≡ None ∷ Some (version 1, []) ∷ Some (version 2, []) ∷ None ∷ []
unfolding a_statement a_form named_at version_by
no_versions = refl

-- only a line of the third edition may name `a-b`, and the first line of a text isn't one
names_are_of_one_edition : map (λ (m : Mode). a_statement m (text (codes "transaction") ∷ text (codes "a-b") ∷ [])) (Opening Third ∷ Within Classic ∷ Within Third ∷ []) ≡ None ∷ None ∷ Some (transaction (codes "a-b"), []) ∷ []
unfolding a_statement a_form named_at transaction_rest named_by
names_are_of_one_edition = refl

-- a protocol is at most 255, by its number or by its name
protocols : map (λ g. a_condition (text (codes "proto") ∷ g ∷ [])) (figure 255 ∷ figure 256 ∷ text (codes "udp") ∷ text (codes "gre") ∷ []) ≡ Some (condition.Field field_name.Proto 255 255, []) ∷ None ∷ Some (condition.Field field_name.Proto 17 17, []) ∷ None ∷ []
unfolding a_condition upper bounded
protocols = refl

-- a range's ends may be equal, but LOW may not be above HIGH; the last pair is too large for a port
ranges : map (λ (p : ℕ × ℕ). bounds field_name.Dport (figure p.0 ∷ sign m.DotDot ∷ figure p.1 ∷ [])) ((80, 80) ∷ (81, 80) ∷ (0, 65535) ∷ (0, 65536) ∷ []) ≡ Some (condition.Field field_name.Dport 80 80, []) ∷ None ∷ Some (condition.Field field_name.Dport 0 65535, []) ∷ None ∷ []
unfolding upper bounded
ranges = refl

-- an attribute may not be set twice, and a weight is at least 1
attributes_once : map (λ (k : List ℕ × ℕ). attributes (text (codes "weight") ∷ figure 3 ∷ text k.0 ∷ figure k.1 ∷ [])) ((codes "prio", 0) ∷ (codes "weight", 3) ∷ []) ≡ Some (record { prio = Some 0; weight = Some 3; slack = None }, []) ∷ None ∷ []
unfolding many repeated set_to
attributes_once = refl

-- each limit by its unit, and packets if there is none
units : map unit ([] ∷ (text (codes "packets") ∷ []) ∷ (text (codes "bytes") ∷ []) ∷ (text (codes "per") ∷ text (codes "flow") ∷ []) ∷ (text (codes "per") ∷ []) ∷ (text (codes "flow") ∷ []) ∷ []) ≡ Some (bound.Packets, []) ∷ Some (bound.Packets, []) ∷ Some (bound.Bytes, []) ∷ Some (bound.PerFlow, []) ∷ None ∷ Some (bound.Packets, text (codes "flow") ∷ []) ∷ []
unfolding unit
units = refl

-- the greatest limit depends on the unit, and no limit is 0
limits : map (λ (k : List ℕ × ℕ). settings (text (codes "limit") ∷ figure k.1 ∷ text k.0 ∷ [])) ((codes "packets", 4194304) ∷ (codes "packets", 4194305) ∷ (codes "packets", 0) ∷ (codes "bytes", 4294967295) ∷ (codes "bytes", 4294967296) ∷ (codes "bytes", 0) ∷ []) ≡ Some (settings_of unset (only_packets (Some 4194304)), []) ∷ None ∷ None ∷ Some (settings_of unset (record { packets = None; bytes = Some 4294967295; per_flow = None; by = None }), []) ∷ None ∷ None ∷ []
unfolding many repeated unit limit_to
limits = refl

limits_per_flow : map (λ n. settings (text (codes "limit") ∷ figure n ∷ text (codes "per") ∷ text (codes "flow") ∷ [])) (0 ∷ 1 ∷ 4194304 ∷ 4194305 ∷ []) ≡ None ∷ Some (settings_of unset (record { packets = None; bytes = None; per_flow = Some 1; by = None }), []) ∷ Some (settings_of unset (record { packets = None; bytes = None; per_flow = Some 4194304; by = None }), []) ∷ None ∷ []
unfolding many repeated unit limit_to
limits_per_flow = refl

-- `dst` after `src` belongs to the keys
flow_groups : map keys ((text (codes "src") ∷ []) ∷ (text (codes "dst") ∷ []) ∷ (text (codes "src") ∷ text (codes "dst") ∷ []) ∷ (text (codes "dst") ∷ text (codes "src") ∷ []) ∷ (text (codes "5tuple") ∷ []) ∷ (text (codes "ports") ∷ []) ∷ []) ≡ Some (group.Source, []) ∷ Some (group.Target, []) ∷ Some (group.Hosts, []) ∷ Some (group.Target, text (codes "src") ∷ []) ∷ Some (group.FiveTuple, []) ∷ None ∷ []
unfolding keys source_keys
flow_groups = refl

-- settings may have any order
settings_in_any_order : settings (text (codes "flow") ∷ text (codes "by") ∷ text (codes "src") ∷ text (codes "limit") ∷ figure 9 ∷ text (codes "bytes") ∷ text (codes "weight") ∷ figure 3 ∷ text (codes "limit") ∷ figure 2 ∷ text (codes "prio") ∷ figure 1 ∷ text (codes "classes") ∷ []) ≡ Some (settings_of (record { prio = Some 1; weight = Some 3; slack = None }) (record { packets = Some 2; bytes = Some 9; per_flow = None; by = Some group.Source }), text (codes "classes") ∷ [])
unfolding many repeated set_to unit limit_to keys source_keys flow_to
settings_in_any_order = refl

-- two limits may have different units, but each setting is given once
settings_once : map settings ((text (codes "limit") ∷ figure 2 ∷ text (codes "limit") ∷ figure 2 ∷ text (codes "bytes") ∷ []) ∷ (text (codes "limit") ∷ figure 2 ∷ text (codes "limit") ∷ figure 2 ∷ text (codes "packets") ∷ []) ∷ (text (codes "flow") ∷ text (codes "by") ∷ text (codes "dst") ∷ text (codes "flow") ∷ text (codes "by") ∷ text (codes "dst") ∷ []) ∷ (text (codes "weight") ∷ figure 2 ∷ text (codes "weight") ∷ figure 2 ∷ []) ∷ []) ≡ Some (settings_of unset (record { packets = Some 2; bytes = Some 2; per_flow = None; by = None }), []) ∷ None ∷ None ∷ None ∷ []
unfolding many repeated set_to unit limit_to keys source_keys flow_to
settings_once = refl

-- a limit in bytes is one of the third edition alone
limits_in_bytes : map (λ (m : Mode). a_statement m (text (codes "leaf") ∷ text (codes "root") ∷ text (codes "using") ∷ text (codes "fifo") ∷ text (codes "limit") ∷ figure 64 ∷ text (codes "bytes") ∷ text (codes "classes") ∷ text (codes "a") ∷ [])) (Opening Third ∷ Within Classic ∷ Within Third ∷ []) ≡ None ∷ None ∷ Some (leaf (codes "root") (codes "fifo") unset (record { packets = None; bytes = Some 64; per_flow = None; by = None }) (codes "a" ∷ []), []) ∷ []
unfolding a_statement a_form named_at leaf_rest leaf_settings_rest named_by names limit limit_by many repeated unit limit_to
limits_in_bytes = refl

-- so is a limit of a node, and a leaf may have the attributes after the limit only there
limits_of_nodes : map (λ (m : Mode). a_statement m (text (codes "node") ∷ text (codes "root") ∷ text (codes "using") ∷ text (codes "wfq") ∷ text (codes "limit") ∷ figure 64 ∷ text (codes "weight") ∷ figure 2 ∷ text (codes "children") ∷ text (codes "a") ∷ [])) (Within Classic ∷ Within Third ∷ []) ≡ None ∷ Some (node (codes "root") (codes "wfq") (record { prio = None; weight = Some 2; slack = None }) (only_packets (Some 64)) (codes "a" ∷ []), []) ∷ []
unfolding a_statement a_form named_at node_rest node_settings_rest named_by names many repeated set_to unit limit_to
limits_of_nodes = refl
