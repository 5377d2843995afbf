-- The settings of leaves and nodes: the reader accepts exactly their form.
use Rattle.policy_text_defs.proofs.Prelude.{List, ℕ, [], refl, ◌≡◌, ◌∷◌, Some, ◌++◌, subst, true, sym, None, arith, codes, ◌≤◌, ◌∙◌, Option, ap, suc, zero, length, leb, ◌<◌, append_assoc, length-append, leb-true, le-leb, ◌&&◌, Glyph, text, figure, limit_least, ahead, pick, pure, Outcome, attribute_at, word_ahead, repeated, set_next, IsLimit, with_attribute, attribute_word, attribute_of, Attribute}
use Rattle.rank_defs.specs.declared.flow_group.FlowGroup.{FlowGroup}
use Rattle.rank_defs.specs.declared.flow_group.FlowGroup.TheVariants as group
use Rattle.policy_text_defs.specs.declared.attribute.Attribute.TheVariants as attribute
use Rattle.policy_text_defs.specs.declared.queueing.Bound.{Bound}
use Rattle.policy_text_defs.specs.declared.queueing.Bound.TheVariants as bound
use Rattle.policy_text_defs.specs.declared.setting.Setting.{Setting}
use Rattle.policy_text_defs.specs.declared.setting.Setting.TheVariants as setting
use Rattle.policy_text_defs.specs.declared.setting.Settings.{Settings}
use Rattle.policy_text_defs.specs.Ranges.{bound_most}
use Rattle.policy_text_defs.specs.Words.{setting_of, bound_of, group_of}
use Rattle.policy_text_defs.specs.Words.{attribute_setting as setting_if}
use Rattle.policy_text_defs.specs.Settings.{is_open, bound_value, with_attrs, with_limit, with_flow}
use Rattle.policy_text_defs.specs.Statements.{BoundUnit, no_unit, packets, bytes, per_flow, Keys, source_key, target_key, host_keys, flow_keys, MayLimit, SettingsFrom, settled, attribute_setting, limit_setting, flow_setting, AreSettings}
use Rattle.policy_text_defs.specs.StatementReading.{many, unit_ahead, unit_rest, unit, limit_to, limit_next, source_keys, keys_by, keys, flow_to, flow_next, setting_at, setting_next, no_settings, settings}
use Rattle.policy_text_defs.proofs.StepLaws.{With, steps, same_value, same_rest, stands, ahead_at, in_table, worded}
use Rattle.policy_text_defs.proofs.TokenLaws.{numbered, a_word_was, kept, Kept, both_true}
use Rattle.policy_text_defs.proofs.AttributeLaws.{attribute_is, attribute_of-word, attribute_was, set_reads}
use Rattle.policy_text_defs.proofs.ConditionLaws.{word_follows}
use Rattle.policy_text_defs.proofs.RepeatLaws.{Leads, Goes, no_step, onward, repeated_ends, repeated_more, many_was, leads_shrink}

-- ---- the words that begin settings

abbrev setting_word : Setting → List ℕ
setting_word (setting.Attribute k) = attribute_word k
setting_word setting.Limit = codes "limit"
setting_word setting.Flow = codes "flow"

attribute_case : (w : List ℕ) (k : Setting) (found : Option Attribute) → attribute_of w ≡ found → setting_if found ≡ Some k → w ≡ setting_word k
attribute_case w k None is e = absurd cc
attribute_case w k (Some a) is e = attribute_is w a is ∙ ap (λ o. pick o (attribute_word a) setting_word) e

setting_is : (w : List ℕ) (k : Setting) → setting_of w ≡ Some k → w ≡ setting_word k
setting_is w k e =
    let P : Setting → Type 0 = λ k. w ≡ setting_word k in
    in_table P w (codes "limit") setting.Limit k _ (λ s. s)
    (in_table P w (codes "flow") setting.Flow k _ (λ s. s)
    (attribute_case w k (attribute_of w) refl)) e

setting_at-is : (g : Glyph) (k : Setting) → setting_at g ≡ Some k → g ≡ text (setting_word k)
setting_at-is (text w) k e = ap text (setting_is w k e)
setting_at-is _ k e = absurd cc

setting_of-word : (k : Setting) → setting_of (setting_word k) ≡ Some k
setting_of-word (setting.Attribute attribute.Prio) = refl
setting_of-word (setting.Attribute attribute.Weight) = refl
setting_of-word (setting.Attribute attribute.Slack) = refl
setting_of-word setting.Limit = refl
setting_of-word setting.Flow = refl

open_case : {A : Type 0} (found : Option A) → is_open found ≡ true → found ≡ None
open_case None e = refl
open_case (Some n) e = absurd cc

-- ---- units

abbrev bound_word : Bound → List ℕ
bound_word bound.Packets = codes "packets"
bound_word bound.Bytes = codes "bytes"
bound_word bound.PerFlow = codes "per"

bound_is : (w : List ℕ) (b : Bound) → bound_of w ≡ Some b → w ≡ bound_word b
bound_is w b e =
    let P : Bound → Type 0 = λ b. w ≡ bound_word b in
    in_table P w (codes "packets") bound.Packets b _ (λ s. s)
    (in_table P w (codes "bytes") bound.Bytes b _ (λ s. s)
    (in_table P w (codes "per") bound.PerFlow b _ (λ s. s)
    (λ none. absurd cc))) e

unit_ahead-is : (g : Glyph) (b : Bound) → unit_ahead g ≡ Some b → g ≡ text (bound_word b)
unit_ahead-is (text w) b e = ap text (bound_is w b e)
unit_ahead-is _ b e = absurd cc

-- one word is all of the unit
word_unit : (w : List ℕ) (b c : Bound) (gs left : List Glyph) → BoundUnit (text w ∷ []) b → pure b gs ≡ Some (c, left) → With BoundUnit (text w ∷ gs) c left
word_unit w b c gs left is e = record { front = text w ∷ []; split = ap (λ l. text w ∷ l) (same_rest b c gs left e); is = subst (BoundUnit (text w ∷ [])) (same_value b c gs left e) is }

unit_rest_was : (b c : Bound) (gs left : List Glyph) → unit_rest b gs ≡ Some (c, left) → With BoundUnit (text (bound_word b) ∷ gs) c left
unit_rest_was bound.Packets c gs left e = word_unit (codes "packets") bound.Packets c gs left packets e
unit_rest_was bound.Bytes c gs left e = word_unit (codes "bytes") bound.Bytes c gs left bytes e
unit_rest_was bound.PerFlow c gs left e =
    let a = steps _ _ _ _ e in
    let front : List Glyph = text (codes "per") ∷ text (codes "flow") ∷ [] in
    record { front = front; split = ap (λ l. text (codes "per") ∷ l) (worded (codes "flow") gs a.left a.value a.read ∙ ap (λ l. text (codes "flow") ∷ l) (same_rest bound.PerFlow c a.left left a.next)); is = subst (BoundUnit front) (same_value bound.PerFlow c a.left left a.next) per_flow }

unit_case : (b : Bound) (gs left : List Glyph) (found : Outcome Bound) → ahead unit_ahead gs ≡ found → pick found (pure bound.Packets gs) (λ t. unit_rest t.0 t.1) ≡ Some (b, left) → With BoundUnit gs b left
unit_case b gs left None is e = record { front = []; split = same_rest bound.Packets b gs left e; is = subst (BoundUnit []) (same_value bound.Packets b gs left e) no_unit }
unit_case b gs left (Some t) is e =
    let stand = stands unit_ahead gs t.1 t.0 is in
    let was = unit_rest_was t.0 b t.1 left e in
    record { front = was.front; split = stand.split ∙ ap (λ g. g ∷ t.1) (unit_ahead-is stand.glyph t.0 stand.is) ∙ was.split; is = was.is }

unit_was : (b : Bound) (gs left : List Glyph) → unit gs ≡ Some (b, left) → With BoundUnit gs b left
unfolding unit
unit_was b gs left e = unit_case b gs left (ahead unit_ahead gs) refl e

unit_reads : (b : Bound) (us gs : List Glyph) → BoundUnit us b → ahead unit_ahead gs ≡ None → unit (us ++ gs) ≡ Some (b, gs)
unfolding unit
unit_reads b us gs no_unit none = rw none refl
unit_reads b us gs packets none = refl
unit_reads b us gs bytes none = refl
unit_reads b us gs per_flow none = refl

-- ---- keys

-- the first word of the keys; none begin so with both addresses
abbrev group_word : FlowGroup → List ℕ
group_word group.Source = codes "src"
group_word group.Target = codes "dst"
group_word group.Hosts = []
group_word group.FiveTuple = codes "5tuple"

group_is : (w : List ℕ) (g : FlowGroup) → group_of w ≡ Some g → w ≡ group_word g
group_is w g e =
    let P : FlowGroup → Type 0 = λ g. w ≡ group_word g in
    in_table P w (codes "src") group.Source g _ (λ s. s)
    (in_table P w (codes "dst") group.Target g _ (λ s. s)
    (in_table P w (codes "5tuple") group.FiveTuple g _ (λ s. s)
    (λ none. absurd cc))) e

word_key : (w : List ℕ) (k g : FlowGroup) (gs left : List Glyph) → Keys (text w ∷ []) k → pure k gs ≡ Some (g, left) → With Keys (text w ∷ gs) g left
word_key w k g gs left is e = record { front = text w ∷ []; split = ap (λ l. text w ∷ l) (same_rest k g gs left e); is = subst (Keys (text w ∷ [])) (same_value k g gs left e) is }

source_case : (g : FlowGroup) (gs left : List Glyph) (found : Outcome (Unit {0})) → ahead (word_ahead (codes "dst")) gs ≡ found → pick found (pure group.Source gs) (λ t. pure group.Hosts t.1) ≡ Some (g, left) → With Keys (text (codes "src") ∷ gs) g left
source_case g gs left None is e = word_key (codes "src") group.Source g gs left source_key e
source_case g gs left (Some t) is e =
    let front : List Glyph = text (codes "src") ∷ text (codes "dst") ∷ [] in
    record { front = front; split = ap (λ l. text (codes "src") ∷ l) (word_follows (codes "dst") gs t.1 t.0 is ∙ ap (λ l. text (codes "dst") ∷ l) (same_rest group.Hosts g t.1 left e)); is = subst (Keys front) (same_value group.Hosts g t.1 left e) host_keys }

source_was : (g : FlowGroup) (gs left : List Glyph) → source_keys gs ≡ Some (g, left) → With Keys (text (codes "src") ∷ gs) g left
unfolding source_keys
source_was g gs left e = source_case g gs left (ahead (word_ahead (codes "dst")) gs) refl e

word_keys : (k g : FlowGroup) (gs left : List Glyph) → group_of (group_word k) ≡ Some k → keys_by (Some k) gs ≡ Some (g, left) → With Keys (text (group_word k) ∷ gs) g left
word_keys group.Source g gs left is e = source_was g gs left e
word_keys group.Target g gs left is e = word_key (codes "dst") group.Target g gs left target_key e
word_keys group.Hosts g gs left is e = absurd cc
word_keys group.FiveTuple g gs left is e = word_key (codes "5tuple") group.FiveTuple g gs left flow_keys e

keys_case : (w : List ℕ) (found : Option FlowGroup) (g : FlowGroup) (gs left : List Glyph) → group_of w ≡ found → keys_by found gs ≡ Some (g, left) → With Keys (text w ∷ gs) g left
keys_case w None g gs left is e = absurd cc
keys_case w (Some k) g gs left is e =
    let same = group_is w k is in
    subst (λ v. With Keys (text v ∷ gs) g left) (sym same) (word_keys k g gs left (subst (λ v. group_of v ≡ Some k) same is) e)

keys_was : (g : FlowGroup) (gs left : List Glyph) → keys gs ≡ Some (g, left) → With Keys gs g left
unfolding keys
keys_was g gs left e =
    let a = steps _ _ _ _ e in
    let was = keys_case a.value (group_of a.value) g a.left left refl a.next in
    record { front = was.front; split = a_word_was gs a.left a.value a.read ∙ was.split; is = was.is }

keys_reads : (g : FlowGroup) (us gs : List Glyph) → Keys us g → ahead (word_ahead (codes "dst")) gs ≡ None → keys (us ++ gs) ≡ Some (g, gs)
unfolding keys source_keys
keys_reads g us gs source_key none = rw none refl
keys_reads g us gs target_key none = refl
keys_reads g us gs host_keys none = refl
keys_reads g us gs flow_keys none = refl

-- ---- one setting

limit_to_was : (s t : Settings) (n : ℕ) (b : Bound) (gs left : List Glyph) → limit_to s n b gs ≡ Some (t, left) → Kept (is_open (bound_value b s.queueing) && (leb limit_least n && leb n (bound_most b))) (with_limit b n s) t gs left
unfolding limit_to
limit_to_was s t n b gs left e = kept (is_open (bound_value b s.queueing) && (leb limit_least n && leb n (bound_most b))) (with_limit b n s) t gs left e

limit_to_reads : (s : Settings) (n : ℕ) (b : Bound) (gs : List Glyph) → MayLimit b n s → limit_to s n b gs ≡ Some (with_limit b n s, gs)
unfolding limit_to
limit_to_reads s n b gs may = rw (may.unset, le-leb limit_least n may.is.above, le-leb n (bound_most b) may.is.below) refl

flow_to_was : (s t : Settings) (g : FlowGroup) (gs left : List Glyph) → flow_to s g gs ≡ Some (t, left) → Kept (is_open s.queueing.by) (with_flow g s) t gs left
unfolding flow_to
flow_to_was s t g gs left e = kept (is_open s.queueing.by) (with_flow g s) t gs left e

flow_to_reads : (s : Settings) (g : FlowGroup) (gs : List Glyph) → s.queueing.by ≡ None → flow_to s g gs ≡ Some (with_flow g s, gs)
unfolding flow_to
flow_to_reads s g gs free = rw free refl

-- tokens that give one setting, before any others
record Extends (s : Settings) (ts : List Glyph) (t : Settings) : Type 0 where
  some : 0 < length ts
  on : (us : List Glyph) (u : Settings) → SettingsFrom t us u → SettingsFrom s (ts ++ us) u

attribute_extends : (k : Attribute) (s t : Settings) (hs is : List Glyph) → setting_next (setting.Attribute k) s hs ≡ Some (t, is) → Leads Extends s (text (attribute_word k) ∷ hs) t is
attribute_extends k s t hs is e =
    let a = steps (set_next k s.attrs hs) (λ a. pure (with_attrs a s)) t is e in
    let l = attribute_was k s.attrs a.value (text (attribute_word k) ∷ hs) hs a.left (ahead_at attribute_at (text (attribute_word k)) hs k (attribute_of-word k)) a.read in
    let same : with_attrs (with_attribute l.is.key l.is.value s.attrs) s ≡ t = ap (λ a. with_attrs a s) l.is.same ∙ same_value (with_attrs a.value s) t a.left is a.next in
    record {
      front = l.front;
      split = l.split ∙ ap (λ r. l.front ++ r) (same_rest (with_attrs a.value s) t a.left is a.next);
      is = record {
        some = let two : length l.front ≡ 2 = ap length l.is.tokens in omega arith;
        on = λ us u later.
            let P : List Glyph → Type 0 = λ ts. SettingsFrom s (ts ++ us) u in
            let from = subst (λ (v : Settings). SettingsFrom v us u) (sym same) later in
            subst P (sym l.is.tokens) (attribute_setting l.is.key l.is.value us s u l.is.may from);
      };
    }

limit_extends : (s t : Settings) (hs is : List Glyph) → limit_next s hs ≡ Some (t, is) → Leads Extends s (text (codes "limit") ∷ hs) t is
limit_extends s t hs is e =
    let a = steps _ _ _ _ e in
    let b = steps _ _ _ _ a.next in
    let was = limit_to_was s t a.value b.value b.left is b.next in
    let u = unit_was b.value a.left b.left b.read in
    let free = both_true (is_open (bound_value b.value s.queueing)) (leb limit_least a.value && leb a.value (bound_most b.value)) was.is in
    let both = both_true (leb limit_least a.value) (leb a.value (bound_most b.value)) free.1 in
    let limit : IsLimit b.value a.value = record { above = leb-true limit_least a.value both.0; below = leb-true a.value (bound_most b.value) both.1 } in
    let may : MayLimit b.value a.value s = record { unset = open_case (bound_value b.value s.queueing) free.0; is = limit } in
    let behind : a.left ≡ u.front ++ is = u.split ∙ ap (λ l. u.front ++ l) was.rest in
    record {
      front = text (codes "limit") ∷ figure a.value ∷ u.front;
      split = ap (λ l. text (codes "limit") ∷ l) (numbered hs a.left a.value a.read ∙ ap (λ l. figure a.value ∷ l) behind);
      is = record { some = omega arith; on = λ us v later. limit_setting b.value a.value u.front us s v u.is may (subst (λ (x : Settings). SettingsFrom x us v) (sym was.same) later) };
    }

flow_extends : (s t : Settings) (hs is : List Glyph) → flow_next s hs ≡ Some (t, is) → Leads Extends s (text (codes "flow") ∷ hs) t is
flow_extends s t hs is e =
    let a = steps _ _ _ _ e in
    let b = steps _ _ _ _ a.next in
    let was = flow_to_was s t b.value b.left is b.next in
    let k = keys_was b.value a.left b.left b.read in
    let behind : a.left ≡ k.front ++ is = k.split ∙ ap (λ l. k.front ++ l) was.rest in
    record {
      front = text (codes "flow") ∷ text (codes "by") ∷ k.front;
      split = ap (λ l. text (codes "flow") ∷ l) (worded (codes "by") hs a.left a.value a.read ∙ ap (λ l. text (codes "by") ∷ l) behind);
      is = record { some = omega arith; on = λ us v later. flow_setting b.value k.front us s v k.is (open_case s.queueing.by was.is) (subst (λ (x : Settings). SettingsFrom x us v) (sym was.same) later) };
    }

word_extends : (k : Setting) (s t : Settings) (hs is : List Glyph) → setting_next k s hs ≡ Some (t, is) → Leads Extends s (text (setting_word k) ∷ hs) t is
word_extends (setting.Attribute k) s t hs is e = attribute_extends k s t hs is e
word_extends setting.Limit s t hs is e = limit_extends s t hs is e
word_extends setting.Flow s t hs is e = flow_extends s t hs is e

setting_was : (k : Setting) (s t : Settings) (gs hs is : List Glyph) → ahead setting_at gs ≡ Some (k, hs) → setting_next k s hs ≡ Some (t, is) → Leads Extends s gs t is
setting_was k s t gs hs is found e =
    let stand = stands setting_at gs hs k found in
    let P : List Glyph → Type 0 = λ l. Leads Extends s l t is in
    subst P (sym (stand.split ∙ ap (λ g. g ∷ hs) (setting_at-is stand.glyph k stand.is))) (word_extends k s t hs is e)

-- ---- all settings

settle : (s t : Settings) (ts : List Glyph) → Goes Extends s ts t → SettingsFrom s ts t
settle s t ts (no_step _) = settled s
settle s t ts (onward us vs _ u _ is on) = is.on vs t (settle u t vs on)

pub settings_were : (s : Settings) (gs left : List Glyph) → settings gs ≡ Some (s, left) → With AreSettings gs s left
settings_were s gs left e =
    let leads = many_was _ _ setting_was no_settings s gs left e in
    record { front = leads.front; split = leads.split; is = settle no_settings s leads.front leads.is }

-- the tokens begin neither with a unit nor with the rest of keys
record Apart (gs : List Glyph) : Type 0 where
  unit : ahead unit_ahead gs ≡ None
  host : ahead (word_ahead (codes "dst")) gs ≡ None

attribute_apart : (k : Attribute) (gs : List Glyph) → Apart (text (attribute_word k) ∷ gs)
attribute_apart attribute.Prio gs = record { unit = refl; host = refl }
attribute_apart attribute.Weight gs = record { unit = refl; host = refl }
attribute_apart attribute.Slack gs = record { unit = refl; host = refl }

settings_apart : (s t : Settings) (ts rest : List Glyph) → SettingsFrom s ts t → Apart rest → Apart (ts ++ rest)
settings_apart s t ts rest (settled _) apart = apart
settings_apart s t ts rest (attribute_setting k n us _ _ may on) apart = attribute_apart k _
settings_apart s t ts rest (limit_setting b n us vs _ _ is may on) apart = record { unit = refl; host = refl }
settings_apart s t ts rest (flow_setting g us vs _ _ is free on) apart = record { unit = refl; host = refl }

-- what may follow settings
pub record EndSettings (rest : List Glyph) : Type 0 where
  apart : Apart rest
  pub none : ahead setting_at rest ≡ None

pub list_ends : (gs : List Glyph) → EndSettings (text (codes "classes") ∷ gs) × EndSettings (text (codes "children") ∷ gs)
list_ends gs = (record { apart = record { unit = refl; host = refl }; none = refl }, record { apart = record { unit = refl; host = refl }; none = refl })

settings_read : (s t : Settings) (ts rest : List Glyph) (k : ℕ) → SettingsFrom s ts t → EndSettings rest → length (ts ++ rest) ≤ k → repeated (ahead setting_at) setting_next k s (ts ++ rest) ≡ Some (t, rest)
settings_read s t ts rest k (settled _) ends enough = repeated_ends _ _ k s rest ends.none
settings_read s t ts rest zero (attribute_setting a n us _ _ may on) ends enough = absurd (omega arith)
settings_read s t ts rest (suc k) (attribute_setting a n us _ _ may on) ends enough =
    let u : Settings = with_attrs (with_attribute a n s.attrs) s in
    repeated_more _ _ k (setting.Attribute a) s u (text (attribute_word a) ∷ figure n ∷ (us ++ rest)) (figure n ∷ (us ++ rest)) (us ++ rest) (ahead_at setting_at (text (attribute_word a)) (figure n ∷ (us ++ rest)) (setting.Attribute a) (setting_of-word (setting.Attribute a))) (rw (set_reads a n s.attrs (us ++ rest) may) refl)
    ∙ settings_read u t us rest k on ends (omega arith)
settings_read s t ts rest zero (limit_setting b n us vs _ _ is may on) ends enough = absurd (omega arith)
settings_read s t ts rest (suc k) (limit_setting b n us vs _ _ is may on) ends enough =
    let u : Settings = with_limit b n s in
    let apart = settings_apart u t vs rest on ends.apart in
    let step : limit_next s (figure n ∷ (us ++ (vs ++ rest))) ≡ Some (u, vs ++ rest) = rw (unit_reads b us (vs ++ rest) is apart.unit, limit_to_reads s n b (vs ++ rest) may) refl in
    let same : length ((us ++ vs) ++ rest) ≡ length (us ++ (vs ++ rest)) = ap length (append_assoc us vs rest) in
    repeated_more _ _ k setting.Limit s u (text (codes "limit") ∷ figure n ∷ ((us ++ vs) ++ rest)) (figure n ∷ ((us ++ vs) ++ rest)) (vs ++ rest) refl (ap (λ l. limit_next s (figure n ∷ l)) (append_assoc us vs rest) ∙ step)
    ∙ settings_read u t vs rest k on ends (omega (arith, length-append us (vs ++ rest)))
settings_read s t ts rest zero (flow_setting g us vs _ _ is free on) ends enough = absurd (omega arith)
settings_read s t ts rest (suc k) (flow_setting g us vs _ _ is free on) ends enough =
    let u : Settings = with_flow g s in
    let apart = settings_apart u t vs rest on ends.apart in
    let step : flow_next s (text (codes "by") ∷ (us ++ (vs ++ rest))) ≡ Some (u, vs ++ rest) = rw (keys_reads g us (vs ++ rest) is apart.host, flow_to_reads s g (vs ++ rest) free) refl in
    let same : length ((us ++ vs) ++ rest) ≡ length (us ++ (vs ++ rest)) = ap length (append_assoc us vs rest) in
    repeated_more _ _ k setting.Flow s u (text (codes "flow") ∷ text (codes "by") ∷ ((us ++ vs) ++ rest)) (text (codes "by") ∷ ((us ++ vs) ++ rest)) (vs ++ rest) refl (ap (λ l. flow_next s (text (codes "by") ∷ l)) (append_assoc us vs rest) ∙ step)
    ∙ settings_read u t vs rest k on ends (omega (arith, length-append us (vs ++ rest)))

pub read_settings : (s : Settings) (ts rest : List Glyph) → AreSettings ts s → EndSettings rest → settings (ts ++ rest) ≡ Some (s, rest)
unfolding many
read_settings s ts rest are ends = settings_read no_settings s ts rest (length (ts ++ rest)) are ends (omega arith)

pub setting_shrinks : (k : Setting) (s t : Settings) (gs hs is : List Glyph) → ahead setting_at gs ≡ Some (k, hs) → setting_next k s hs ≡ Some (t, is) → length is < length gs
setting_shrinks k s t gs hs is found e = let l = setting_was k s t gs hs is found e in leads_shrink s t gs is l l.is.some
