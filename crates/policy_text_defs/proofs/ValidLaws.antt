-- Statements that can be written are valid.
use Rattle.policy_text_defs.proofs.Prelude.{List, ℕ, [], refl, ◌≡◌, ◌∷◌, ◌++◌, true, arith, Option, suc, zero, AllByRecursion, IfSome, Op, Glyph, Atom, Expression, Form, GoesOn, IsOperand, Spells, alone, call_atom, compared, ends, grouped, if_atom, more, named, not_atom, number_atom, parens_atom, variable, word_atom, AtomOver, Compared, Grouped, NoForm, Phrase, two, most_open, Sense, IsLimit, Attributes, IsForm, Limit, AttributesFrom, IsTarget, class_form, filter_form, each_form, keep_form, leaf_form, no_more, node_form, pop_form, push_form, rank_target, set, transaction_form, unlimited, unset, variable_target, version_form, with_attribute, IsWritten, CarriesAt, IsValidIn, HasParts, Mode, Within, edition_at, dialect_at, AreValidAttributes, HasOperands, IsValidPhrase, IsAttributeNumber, is_name, is_target, is_operand, Attribute, Attrs, Edition, IsValid, Classic, Third, version, transaction, keep, each, push, pop, class, filter, leaf, node}
use Rattle.policy_text_defs.specs.declared.attribute.Attribute.TheVariants as attribute
use Rattle.std.proofs.Math.Bool.{or-true}
use Rattle.std.proofs.Math.Logic.{∥∥₁_elim}
use Rattle.policy_text_defs.proofs.ValidProps.{IsValidIn-prop}
use Rattle.policy_text_defs.proofs.ConditionValid.{guard_valid}
use Rattle.policy_text_defs.proofs.TestValid.{alternatives_valid}
use Rattle.policy_text_defs.proofs.StatementLaws.{form_kind}
use Rattle.policy_text_defs.specs.declared.queueing.Queueing.{Queueing}
use Rattle.policy_text_defs.specs.declared.queueing.Bound.{Bound}
use Rattle.policy_text_defs.specs.declared.queueing.Bound.TheVariants as bound
use Rattle.policy_text_defs.specs.declared.setting.Settings.{Settings}
use Rattle.policy_text_defs.specs.Settings.{no_queueing, only_packets, with_bound, settings_of, with_attrs, with_limit, with_flow}
use Rattle.policy_text_defs.specs.Statements.{limited, leaf_settings_form, node_settings_form, SettingsFrom, settled, attribute_setting, limit_setting, flow_setting, AreSettings}
use Rattle.policy_text_defs.specs.Valid.{AreValidLimits}
use Rattle.policy_text_defs.proofs.NumberLimits.{IsLexed, Says-lexed}

abbrev AreLexed : List Glyph → Type 0
AreLexed gs = AllByRecursion IsLexed gs

front : (gs hs : List Glyph) → AreLexed (gs ++ hs) → AreLexed gs
front [] hs all = tt
front (g ∷ gs) hs all = (all.0, front gs hs all.1)

back : (gs hs : List Glyph) → AreLexed (gs ++ hs) → AreLexed hs
back [] hs all = all
back (g ∷ gs) hs all = back gs hs all.1

-- ---- expressions

-- an expression that tokens of a line spell has valid operands
abbrev Sound : Form → Type 0
Sound Part = (ts : List Glyph) (a : Phrase) → AreLexed ts → Part ts a → HasOperands a

goes_on_names : {op : Glyph → Option Op} {Part : Form} → Sound Part → (a : Phrase) (us : List Glyph) (c : Phrase) → HasOperands a → AreLexed us → GoesOn op Part a us c → HasOperands c
goes_on_names sound a us c names all (ends _) = names
goes_on_names sound a gs d names all (more o g ts us _ b c is part later) = goes_on_names sound (two o a b) us c (names, sound ts b (front ts us all.1) part) (back ts us all.1) later

grouped_names : {op : Glyph → Option Op} {Part : Form} → Sound Part → Sound (Grouped op Part)
grouped_names sound gs d all (grouped ts us a c part on) = goes_on_names sound a us c (sound ts a (front ts us all) part) (back ts us all) on

compared_names : {Part : Form} → Sound Part → Sound (Compared Part)
compared_names sound gs c all (alone ts a part) = sound ts a all part
compared_names sound gs c all (compared o g ts us a b is left right) = (sound ts a (front ts (g ∷ us) all) left, sound us b (back ts (g ∷ us) all).1 right)

expression_names : {Atom : Form} → Sound Atom → Sound (Expression Atom)
expression_names sound = compared_names (grouped_names (grouped_names sound))

operand_is : (w : List ℕ) → IsOperand w → is_operand w ≡ true
operand_is w (named is) = rw is refl
operand_is w (variable is) = rw (is, or-true (is_name w)) refl

atom_names : {Inside : Form} → Sound Inside → Sound (AtomOver Inside)
atom_names sound gs c all (number_atom n) = all.0
atom_names sound gs c all (word_atom w is) = operand_is w is
atom_names sound gs c all (parens_atom ts a part) = sound ts a (front ts _ all.1) part
atom_names sound gs c all (call_atom o w ts us a b is left right) = (sound ts a (front ts _ all.1.1) left, sound us b (front us _ (back ts _ all.1.1).1) right)
atom_names sound gs c all (not_atom ts a part) = sound ts a (front ts _ all.1.1) part
atom_names sound gs c all (if_atom ts us vs a b d test then other) =
    let behind = (back ts _ all.1.1).1 in
    (sound ts a (front ts _ all.1.1) test, sound us b (front us _ behind) then, sound vs d (front vs _ (back us _ behind).1) other)

none_names : Sound NoForm
none_names ts a all part = absurd part

room_names : (room : ℕ) → Sound (Atom room)
room_names zero = atom_names none_names
room_names (suc room) = atom_names (expression_names (room_names room))

phrase_valid : (ts : List Glyph) (a : Phrase) → AreLexed ts → Spells ts a → IsValidPhrase a
phrase_valid ts a all spells = record { operands = expression_names (room_names most_open) ts a all spells.form; low = spells.low }

-- ---- attributes

with_valid : (k : Attribute) (n : ℕ) (a : Attrs) → IsAttributeNumber k n → AreValidAttributes a → AreValidAttributes (with_attribute k n a)
with_valid attribute.Prio n a is are = record { prio = is; weight = are.weight; slack = are.slack }
with_valid attribute.Weight n a is are = record { prio = are.prio; weight = is; slack = are.slack }
with_valid attribute.Slack n a is are = record { prio = are.prio; weight = are.weight; slack = is }

attributes_from : (a : Attrs) (ts : List Glyph) (b : Attrs) → AttributesFrom a ts b → AreValidAttributes a → AreValidAttributes b
attributes_from a ts b (no_more _) are = are
attributes_from a gs b (set k n ts _ _ may later) are = attributes_from (with_attribute k n a) ts b later (with_valid k n a (record { above = may.above; below = may.below }) are)

attributes_valid : (ts : List Glyph) (a : Attrs) → Attributes ts a → AreValidAttributes a
attributes_valid ts a is = attributes_from unset ts a is (record { prio = tt; weight = tt; slack = tt })

limit_valid : (ls : List Glyph) (l : Option ℕ) → Limit ls l → IfSome l (IsLimit bound.Packets)
limit_valid ls l unlimited = tt
limit_valid ls l (limited n is) = is

packets_valid : (ls : List Glyph) (l : Option ℕ) → Limit ls l → AreValidLimits (only_packets l)
packets_valid ls l is = record { packets = limit_valid ls l is; bytes = tt; per_flow = tt }

none_valid : AreValidLimits no_queueing
none_valid = record { packets = tt; bytes = tt; per_flow = tt }

-- ---- settings

record AreValidSettings (s : Settings) : Type 0 where
  attrs : AreValidAttributes s.attrs
  limits : AreValidLimits s.queueing

bound_valid : (b : Bound) (n : ℕ) (q : Queueing) → IsLimit b n → AreValidLimits q → AreValidLimits (with_bound b n q)
bound_valid bound.Packets n q is are = record { packets = is; bytes = are.bytes; per_flow = are.per_flow }
bound_valid bound.Bytes n q is are = record { packets = are.packets; bytes = is; per_flow = are.per_flow }
bound_valid bound.PerFlow n q is are = record { packets = are.packets; bytes = are.bytes; per_flow = is }

settings_from : (s : Settings) (ts : List Glyph) (t : Settings) → SettingsFrom s ts t → AreValidSettings s → AreValidSettings t
settings_from s ts t (settled _) are = are
settings_from s ts t (attribute_setting k n us _ _ may on) are = settings_from (with_attrs (with_attribute k n s.attrs) s) us t on (record { attrs = with_valid k n s.attrs (record { above = may.above; below = may.below }) are.attrs; limits = are.limits })
settings_from s ts t (limit_setting b n us vs _ _ is may on) are = settings_from (with_limit b n s) vs t on (record { attrs = are.attrs; limits = bound_valid b n s.queueing may.is are.limits })
settings_from s ts t (flow_setting g us vs _ _ is free on) are =
    let limits = are.limits in
    settings_from (with_flow g s) vs t on (record { attrs = are.attrs; limits = record { packets = limits.packets; bytes = limits.bytes; per_flow = limits.per_flow } })

settings_valid : (ts : List Glyph) (s : Settings) → AreSettings ts s → AreValidSettings s
settings_valid ts s are = settings_from (settings_of unset no_queueing) ts s are (record { attrs = record { prio = tt; weight = tt; slack = tt }; limits = none_valid })

-- ---- statements

target_is : (w : List ℕ) → IsTarget w → is_target w ≡ true
target_is w (variable_target _ is) = rw is refl
target_is w rank_target = refl

form_valid : (e : Edition) (gs : List Glyph) (s : Sense) → AreLexed gs → IsForm e gs s → HasParts e s
form_valid e gs s all (version_form v is) = is
form_valid e gs s all (transaction_form n name) = name
form_valid e gs s all (keep_form n span name ordered) = (name, record { ordered = ordered; low = all.1.1.0; high = all.1.1.1.1.0; first = all.1.1.1.1.1.1.0 })
form_valid e gs s all (each_form n span name ordered) = (name, record { ordered = ordered; low = all.1.1.0; high = all.1.1.1.1.0; first = all.1.1.1.1.1.1.0 })
form_valid e gs s all (push_form n ts a target spells) = (target_is n target, phrase_valid ts a all.1.1.1 spells)
form_valid e gs s all (pop_form n ts a name spells) = (name, phrase_valid ts a all.1.1.1 spells)
form_valid e gs s all (class_form may n ts us a cs name attributes guard) = (name, attributes_valid ts a attributes, guard_valid us cs guard)
form_valid e gs s all (filter_form may n ts us a cs name attributes are) = (name, attributes_valid ts a attributes, alternatives_valid us cs are)
form_valid e gs s all (leaf_form may n u ts ls a l ns name used attributes limit names) = (name, used, attributes_valid ts a attributes, packets_valid ls l limit, names)
form_valid e gs s all (node_form may n u ts a ns name used attributes names) = (name, used, attributes_valid ts a attributes, none_valid, names)
form_valid e gs s all (leaf_settings_form may n u ts t ns name used settings names) = let are = settings_valid ts t settings in (name, used, are.attrs, are.limits, names)
form_valid e gs s all (node_settings_form may n u ts t ns name used settings names) = let are = settings_valid ts t settings in (name, used, are.attrs, are.limits, names)

-- a statement on a line is valid in the edition in which it is read
pub CarriesAt_IsValidIn : (m : Mode) (line : List ℕ) (s : Sense) → CarriesAt m line s → IsValidIn (edition_at m s) s
CarriesAt_IsValidIn m line s c = (form_valid (edition_at m s) c.tokens s (Says-lexed (dialect_at m) line c.tokens c.says) c.form.form, c.form.named, form_kind (edition_at m s) c.tokens s c.form.form)

-- a statement that can be written is valid
pub IsWritten_IsValidIn : (e : Edition) (s : Sense) → IsWritten e s → IsValidIn e s
IsWritten_IsValidIn e s written = ∥∥₁_elim written (IsValidIn-prop e s) (λ l. CarriesAt_IsValidIn (Within e) l.line s l.carries)

-- the third edition has the versions of both
valid_in_some : (e : Edition) (s : Sense) → HasParts e s → IsValid s
valid_in_some Third s is = is
valid_in_some Classic (version v) is =
    let below = is.below in
    record { above = is.above; below = omega arith }
valid_in_some Classic (transaction n) is = is
valid_in_some Classic (keep n s) is = is
valid_in_some Classic (each n s) is = is
valid_in_some Classic (push n a) is = is
valid_in_some Classic (pop n a) is = is
valid_in_some Classic (class n a cs) is = is
valid_in_some Classic (filter n a cs) is = is
valid_in_some Classic (leaf n u a q ns) is = is
valid_in_some Classic (node n u a q ns) is = is

-- a statement that can be written in an edition is valid
pub IsWritten_IsValid : {e : Edition} (s : Sense) → IsWritten e s → IsValid s
IsWritten_IsValid {e} s written = valid_in_some e s (IsWritten_IsValidIn e s written).0

pub CarriesAt_IsValid : (m : Mode) (line : List ℕ) (s : Sense) → CarriesAt m line s → IsValid s
CarriesAt_IsValid m line s c = valid_in_some (edition_at m s) s (CarriesAt_IsValidIn m line s c).0
