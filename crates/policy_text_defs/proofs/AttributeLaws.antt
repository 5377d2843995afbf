-- Attributes and lists of names: the readers accept exactly their forms.
use Rattle.policy_text_defs.proofs.Prelude.{List, ℕ, [], refl, ◌≡◌, ◌∷◌, Some, ◌++◌, subst, Bool, true, false, sym, None, arith, codes, ◌≤◌, ◌∙◌, Option, ap, suc, cond, zero, length, leb, ◌<◌, append_assoc, map, leb-true, le-leb, append-nil, AllByRecursion, ◌&&◌, Glyph, text, figure, attribute_most, attribute_least, ahead, pick, attribute_at, attributes, repeated, is_unset, name_ahead, name_last, set_next, IsName, Attributes, AreNames, AttributesFrom, no_more, set, unset, with_attribute, attribute_value, MaySet, is_name, attribute_word, attribute_of, Attribute, Attrs}
use Rattle.policy_text_defs.specs.declared.attribute.Attribute.TheVariants as attribute
use Rattle.policy_text_defs.specs.StatementReading.{many, set_to, names}
use Rattle.policy_text_defs.proofs.StepLaws.{With, steps, same_value, same_rest, stands, ahead_at, in_table}
use Rattle.policy_text_defs.proofs.TokenLaws.{numbered, kept, Kept, both_true, named_reads, name_was}
use Rattle.policy_text_defs.proofs.RepeatLaws.{Leads, Goes, no_step, onward, repeated_ends, repeated_more, many_was, leads_shrink}

-- ---- attributes

pub attribute_of-word : (k : Attribute) → attribute_of (attribute_word k) ≡ Some k
attribute_of-word attribute.Prio = refl
attribute_of-word attribute.Weight = refl
attribute_of-word attribute.Slack = refl

pub attribute_is : (w : List ℕ) (k : Attribute) → attribute_of w ≡ Some k → w ≡ attribute_word k
attribute_is w k e =
    let P : Attribute → Type 0 = λ k. w ≡ attribute_word k in
    in_table P w (codes "prio") attribute.Prio k _ (λ s. s)
    (in_table P w (codes "weight") attribute.Weight k _ (λ s. s)
    (in_table P w (codes "slack") attribute.Slack k _ (λ s. s)
    (λ none. absurd cc))) e

attribute_at-is : (g : Glyph) (k : Attribute) → attribute_at g ≡ Some k → g ≡ text (attribute_word k)
attribute_at-is (text w) k e = ap text (attribute_is w k e)
attribute_at-is _ k e = absurd cc

unset_case : (found : Option ℕ) → pick found true (λ _. false) ≡ true → found ≡ None
unset_case None e = refl
unset_case (Some n) e = absurd cc

pub set_reads : (k : Attribute) (n : ℕ) (a : Attrs) (gs : List Glyph) → MaySet k n a → set_to k a n gs ≡ Some (with_attribute k n a, gs)
unfolding set_to
set_reads k n a gs may = rw (may.unset, le-leb (attribute_least k) n may.above, le-leb n (attribute_most k) may.below) refl

set_was : (k : Attribute) (n : ℕ) (a b : Attrs) (gs left : List Glyph) → set_to k a n gs ≡ Some (b, left) → Kept (is_unset k a && (leb (attribute_least k) n && leb n (attribute_most k))) (with_attribute k n a) b gs left
unfolding set_to
set_was k n a b gs left e = kept (is_unset k a && (leb (attribute_least k) n && leb n (attribute_most k))) (with_attribute k n a) b gs left e

pub attributes_read : (a b : Attrs) (ts rest : List Glyph) (k : ℕ) → AttributesFrom a ts b → ahead attribute_at rest ≡ None → length (ts ++ rest) ≤ k → repeated (ahead attribute_at) set_next k a (ts ++ rest) ≡ Some (b, rest)
attributes_read a b ts rest k (no_more _) ends enough = repeated_ends _ _ k a rest ends
attributes_read a b ts rest zero (set t n us _ _ may on) ends enough = absurd (omega arith)
attributes_read a b ts rest (suc k) (set t n us _ _ may on) ends enough =
    repeated_more _ _ k t a (with_attribute t n a) (text (attribute_word t) ∷ figure n ∷ (us ++ rest)) (figure n ∷ (us ++ rest)) (us ++ rest) (ahead_at attribute_at (text (attribute_word t)) (figure n ∷ (us ++ rest)) t (attribute_of-word t)) (set_reads t n a (us ++ rest) may)
    ∙ attributes_read (with_attribute t n a) b us rest k on ends (omega arith)

-- one attribute is set
pub record IsSet (a : Attrs) (ts : List Glyph) (b : Attrs) : Type 0 where
  pub key : Attribute
  pub value : ℕ
  pub tokens : ts ≡ text (attribute_word key) ∷ figure value ∷ []
  pub may : MaySet key value a
  pub same : with_attribute key value a ≡ b

pub attribute_was : (k : Attribute) (a b : Attrs) (gs hs is : List Glyph) → ahead attribute_at gs ≡ Some (k, hs) → set_next k a hs ≡ Some (b, is) → Leads IsSet a gs b is
attribute_was k a b gs hs is found e =
    let stand = stands attribute_at gs hs k found in
    let first = steps _ _ _ _ e in
    let w = set_was k first.value a b first.left is first.next in
    let one = both_true (is_unset k a) (leb (attribute_least k) first.value && leb first.value (attribute_most k)) w.is in
    let two = both_true (leb (attribute_least k) first.value) (leb first.value (attribute_most k)) one.1 in
    let number : hs ≡ figure first.value ∷ is = numbered hs first.left first.value first.read ∙ ap (λ l. figure first.value ∷ l) w.rest in
    let may : MaySet k first.value a = record { unset = unset_case (attribute_value k a) one.0; above = leb-true (attribute_least k) first.value two.0; below = leb-true first.value (attribute_most k) two.1 } in
    record { front = text (attribute_word k) ∷ figure first.value ∷ []; split = stand.split ∙ ap (λ g. g ∷ hs) (attribute_at-is stand.glyph k stand.is) ∙ ap (λ l. text (attribute_word k) ∷ l) number; is = record { key = k; value = first.value; tokens = refl; may = may; same = w.same } }

sets : (a b : Attrs) (ts : List Glyph) → Goes IsSet a ts b → AttributesFrom a ts b
sets a b ts (no_step _) = no_more a
sets a b ts (onward us vs _ c _ is on) =
    let later : AttributesFrom (with_attribute is.key is.value a) vs b = subst (λ d. AttributesFrom d vs b) (sym is.same) (sets c b vs on) in
    let P : List Glyph → Type 0 = λ l. AttributesFrom a (l ++ vs) b in
    subst P (sym is.tokens) (set is.key is.value vs a b is.may later)

pub attributes_were : (a : Attrs) (gs left : List Glyph) → attributes gs ≡ Some (a, left) → With Attributes gs a left
attributes_were a gs left e =
    let leads = many_was _ _ attribute_was unset a gs left e in
    record { front = leads.front; split = leads.split; is = sets unset a leads.front leads.is }

pub read_attributes : (a : Attrs) (ts rest : List Glyph) → Attributes ts a → ahead attribute_at rest ≡ None → attributes (ts ++ rest) ≡ Some (a, rest)
unfolding many
read_attributes a ts rest is ends = attributes_read unset a ts rest (length (ts ++ rest)) is ends (omega arith)

-- ---- names

pub names_read : (acc ns : List (List ℕ)) (k : ℕ) → AllByRecursion IsName ns → length ns ≤ k → repeated (ahead name_ahead) name_last k acc (map text ns) ≡ Some (acc ++ ns, [])
names_read acc [] k all enough = repeated_ends _ _ k acc [] refl ∙ ap (λ l. Some (l, [])) (sym (append-nil acc))
names_read acc (n ∷ ns) zero all enough = absurd (omega arith)
names_read acc (n ∷ ns) (suc k) all enough =
    let here : name_ahead (text n) ≡ Some n = rw all.0 refl in
    repeated_more _ _ k n acc (acc ++ n ∷ []) (text n ∷ map text ns) (map text ns) (map text ns) (ahead_at name_ahead (text n) (map text ns) n here) refl
    ∙ names_read (acc ++ n ∷ []) ns k all.1 (omega arith)
    ∙ ap (λ l. Some (l, [])) (append_assoc acc (n ∷ []) ns)

mapped : (ns : List (List ℕ)) → length ns ≤ length (map text ns)
mapped [] = omega arith
mapped (n ∷ ns) = let later = mapped ns in omega arith

-- one name follows
record IsNamed (acc : List (List ℕ)) (ts : List Glyph) (b : List (List ℕ)) : Type 0 where
  name : List ℕ
  tokens : ts ≡ text name ∷ []
  is : IsName name
  same : acc ++ name ∷ [] ≡ b

-- the first token is a name
record IsNameToken (g : Glyph) (w : List ℕ) : Type 0 where
  token : g ≡ text w
  is : IsName w

name_ahead-case : (v : Bool) (w u : List ℕ) → is_name w ≡ v → cond v (Some w) None ≡ Some u → IsNameToken (text w) u
name_ahead-case true w u is e = let same : w ≡ u = ap (λ o. pick o w (λ x. x)) e in record { token = ap text same; is = subst IsName same is }
name_ahead-case false w u is e = absurd cc

name_ahead-is : (g : Glyph) (w : List ℕ) → name_ahead g ≡ Some w → IsNameToken g w
name_ahead-is (text v) w e = name_ahead-case (is_name v) v w refl e
name_ahead-is _ w e = absurd cc

name_last_was : (w : List ℕ) (a b : List (List ℕ)) (gs hs is : List Glyph) → ahead name_ahead gs ≡ Some (w, hs) → name_last w a hs ≡ Some (b, is) → Leads IsNamed a gs b is
name_last_was w a b gs hs is found e =
    let stand = stands name_ahead gs hs w found in
    let token = name_ahead-is stand.glyph w stand.is in
    record { front = text w ∷ []; split = stand.split ∙ ap (λ g. g ∷ hs) token.token ∙ ap (λ l. text w ∷ l) (same_rest (a ++ w ∷ []) b hs is e); is = record { name = w; tokens = refl; is = token.is; same = same_value (a ++ w ∷ []) b hs is e } }

-- names follow
record MoreNames (acc : List (List ℕ)) (ts : List Glyph) (b : List (List ℕ)) : Type 0 where
  names : List (List ℕ)
  tokens : ts ≡ map text names
  each : AllByRecursion IsName names
  same : acc ++ names ≡ b

follow : (a b : List (List ℕ)) (ts : List Glyph) → Goes IsNamed a ts b → MoreNames a ts b
follow a b ts (no_step _) = record { names = []; tokens = refl; each = tt; same = append-nil a }
follow a b ts (onward us vs _ c _ is on) =
    let later = follow c b vs on in
    record { names = is.name ∷ later.names; tokens = ap (λ l. l ++ vs) is.tokens ∙ ap (λ l. text is.name ∷ l) later.tokens; each = (is.is, later.each); same = sym (append_assoc a (is.name ∷ []) later.names) ∙ ap (λ l. l ++ later.names) is.same ∙ later.same }

-- names were read
pub record WithNames (gs : List Glyph) (ns : List (List ℕ)) (left : List Glyph) : Type 0 where
  pub split : gs ≡ map text ns ++ left
  pub are : AreNames ns

names_from : (w : List ℕ) (ns : List (List ℕ)) (gs hs left : List Glyph) → gs ≡ text w ∷ hs → IsName w → Leads (Goes IsNamed) (w ∷ []) hs ns left → WithNames gs ns left
names_from w ns gs hs left first is leads =
    let more = follow (w ∷ []) ns leads.front leads.is in
    let behind : hs ≡ map text more.names ++ left = leads.split ∙ ap (λ l. l ++ left) more.tokens in
    let made : AreNames (w ∷ more.names) = record { some = omega arith; each = (is, more.each) } in
    record { split = first ∙ ap (λ l. text w ∷ l) behind ∙ ap (λ l. map text l ++ left) more.same; are = subst AreNames more.same made }

pub names_were : (ns : List (List ℕ)) (gs left : List Glyph) → names gs ≡ Some (ns, left) → WithNames gs ns left
unfolding names
names_were ns gs left e =
    let first = steps _ _ _ _ e in
    let named = name_was first.value gs first.left first.read in
    names_from first.value ns gs first.left left named.split named.is (many_was _ _ name_last_was (first.value ∷ []) ns first.left left first.next)

pub read_names : (ns : List (List ℕ)) → AreNames ns → names (map text ns) ≡ Some (ns, [])
unfolding names many
read_names [] are = absurd (omega (arith, are.some))
read_names (n ∷ ns) are =
    rw (named_reads n (map text ns) are.each.0) (names_read (n ∷ []) ns (length (map text ns)) are.each.1 (mapped ns))

pub attribute_shrinks : (k : Attribute) (a b : Attrs) (gs hs is : List Glyph) → ahead attribute_at gs ≡ Some (k, hs) → set_next k a hs ≡ Some (b, is) → length is < length gs
attribute_shrinks k a b gs hs is found e = let l = attribute_was k a b gs hs is found e in leads_shrink a b gs is l (let two : length l.front ≡ 2 = ap length l.is.tokens in omega arith)

pub name_shrinks : (w : List ℕ) (a b : List (List ℕ)) (gs hs is : List Glyph) → ahead name_ahead gs ≡ Some (w, hs) → name_last w a hs ≡ Some (b, is) → length is < length gs
name_shrinks w a b gs hs is found e = let l = name_last_was w a b gs hs is found e in leads_shrink a b gs is l (let one : length l.front ≡ 1 = ap length l.is.tokens in omega arith)
