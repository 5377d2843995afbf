-- Statements: reading all tokens accepts exactly the forms.
use Rattle.policy_text_defs.proofs.Prelude.{List, ℕ, [], refl, ◌≡◌, ◌∷◌, Some, ◌++◌, subst, sym, None, codes, ◌∙◌, Option, ap, leb, map, leb-true, le-leb, append-nil, ◌&&◌, Span, Glyph, text, figure, sign, first_version, last_version, ahead, pure, Reader, ◌>>=◌, literal, ◌>>◌, Sense, class, filter, each, keep, leaf, node, pop, push, transaction, version, a_number, attribute_at, attributes, name, limit, names, rest_by, span, IsName, Attributes, Guard, IsForm, Limit, guarded, span_tokens, unguarded, AreNames, class_form, filter_form, has_conditions, has_tests, is_of, each_form, keep_form, leaf_form, node_form, pop_form, push_form, transaction_form, version_form, IsSpan, IsVersion, keyword_of, Attrs, Condition, Bool, true, false, cond, arith, ◌≤◌, IsFormAt, has_names, Edition, Classic, Third, Mode, Opening, Within, chosen, edition_at, last_at}
use Rattle.text_core.specs.declared.mark.Mark.TheVariants as m
use Rattle.policy_text_defs.specs.declared.keyword.Keyword.{Keyword}
use Rattle.policy_text_defs.specs.declared.keyword.Keyword.TheVariants as keyword
use Rattle.policy_text_defs.specs.StatementReading.{version_by, transaction_rest, keep_rest, each_rest, push_rest, pop_rest, class_rest, filter_rest, class_by, leaf_rest, node_rest, leaf_settings_rest, node_settings_rest, leaf_by, node_by, settings, a_form, named_at, a_statement}
use Rattle.policy_text_defs.proofs.StepLaws.{With, steps, same_value, same_rest, marked, worded, in_table}
use Rattle.policy_text_defs.proofs.TokenLaws.{numbered, a_word_was, kept, Kept, both_true, named_reads, name_was, target_reads, target_was, span_reads, span_was}
use Rattle.policy_text_defs.proofs.ExpressionLaws.{Spells-read, read-Spells}
use Rattle.policy_text_defs.proofs.AttributeLaws.{read_attributes, attributes_were, read_names, names_were}
use Rattle.policy_text_defs.specs.declared.test.Test.{Test}
use Rattle.policy_text_defs.specs.Tests.{Alternatives, unconditional, alternatives}
use Rattle.policy_text_defs.proofs.GuardLaws.{read_guard, guard_was}
use Rattle.policy_text_defs.proofs.TestLaws.{test_guard_was, read_test_guard}
use Rattle.policy_text_defs.proofs.LimitLaws.{limit_was, read_limit, limit_ends}
use Rattle.policy_text_defs.proofs.SettingLaws.{settings_were, read_settings, list_ends}
use Rattle.std.proofs.Math.Bool.{or-true}
use Rattle.policy_text_defs.specs.declared.queueing.Queueing.{Queueing}
use Rattle.policy_text_defs.specs.declared.setting.Settings.{Settings}
use Rattle.policy_text_defs.specs.Settings.{no_queueing, only_packets, has_only_packets, has_nothing}
use Rattle.policy_text_defs.specs.Statements.{AreSettings, leaf_settings_form, node_settings_form}

-- how a statement begins
abbrev keyword_word : Keyword → List ℕ
keyword_word keyword.Policy = codes "policy"
keyword_word keyword.Transaction = codes "transaction"
keyword_word keyword.Keep = codes "keep"
keyword_word keyword.Each = codes "each"
keyword_word keyword.Push = codes "push"
keyword_word keyword.Pop = codes "pop"
keyword_word keyword.Class = codes "class"
keyword_word keyword.Leaf = codes "leaf"
keyword_word keyword.Node = codes "node"

keyword_is : (w : List ℕ) (k : Keyword) → keyword_of w ≡ Some k → w ≡ keyword_word k
keyword_is w k e =
    let P : Keyword → Type 0 = λ k. w ≡ keyword_word k in
    in_table P w (codes "policy") keyword.Policy k _ (λ h. h)
    (in_table P w (codes "transaction") keyword.Transaction k _ (λ h. h)
    (in_table P w (codes "keep") keyword.Keep k _ (λ h. h)
    (in_table P w (codes "each") keyword.Each k _ (λ h. h)
    (in_table P w (codes "push") keyword.Push k _ (λ h. h)
    (in_table P w (codes "pop") keyword.Pop k _ (λ h. h)
    (in_table P w (codes "class") keyword.Class k _ (λ h. h)
    (in_table P w (codes "leaf") keyword.Leaf k _ (λ h. h)
    (in_table P w (codes "node") keyword.Node k _ (λ h. h)
    (λ none. absurd cc))))))))) e

-- ---- each result of reading has its form

-- the tokens after the first word, and the value, as they were read
formed : (ed : Edition) (w : List ℕ) (ts gs : List Glyph) (r s : Sense) → IsForm ed (text w ∷ ts) r → gs ≡ ts → r ≡ s → IsForm ed (text w ∷ gs) s
formed ed w ts gs r s is split same = let P : List Glyph → Type 0 = λ l. IsForm ed (text w ∷ l) s in subst P (sym split) (subst (IsForm ed (text w ∷ ts)) same is)

version_was : (m : Mode) (n : ℕ) (gs : List Glyph) (s : Sense) → version_by m n gs ≡ Some (s, []) → Kept (leb first_version n && leb n (last_at m)) (version n) s gs []
unfolding version_by
version_was m n gs s e = kept (leb first_version n && leb n (last_at m)) (version n) s gs [] e

version_case : (v : ℕ) (b : Bool) → leb v (last_version Classic) ≡ b → first_version ≤ v → v ≤ last_version Third → IsVersion (cond b Classic Third) v
version_case v true is above below = record { above = above; below = leb-true v (last_version Classic) is }
version_case v false is above below = record { above = above; below = below }

-- a version that the mode allows is one of the edition in which it is read
version_fits : (m : Mode) (v : ℕ) → first_version ≤ v → v ≤ last_at m → IsVersion (edition_at m (version v)) v
version_fits (Opening Classic) v above below = record { above = above; below = below }
version_fits (Opening Third) v above below = version_case v (leb v (last_version Classic)) refl above below
version_fits (Within e) v above below = record { above = above; below = below }

version_sound : (m : Mode) (gs : List Glyph) (s : Sense) → (a_number >>= version_by m) gs ≡ Some (s, []) → IsForm (edition_at m s) (text (codes "policy") ∷ gs) s
version_sound m gs s e =
    let a = steps (a_number gs) (version_by m) s [] e in
    let k = version_was m a.value a.left s a.next in
    let both = both_true (leb first_version a.value) (leb a.value (last_at m)) k.is in
    let fits : IsVersion (edition_at m (version a.value)) a.value = version_fits m a.value (leb-true first_version a.value both.0) (leb-true a.value (last_at m) both.1) in
    let is : IsVersion (edition_at m s) a.value = subst (λ (t : Sense). IsVersion (edition_at m t) a.value) k.same fits in
    let split : gs ≡ figure a.value ∷ [] = numbered gs a.left a.value a.read ∙ ap (λ l. figure a.value ∷ l) k.rest in
    formed (edition_at m s) (codes "policy") (figure a.value ∷ []) gs (version a.value) s (version_form a.value is) split k.same

transaction_sound : (ed : Edition) (gs : List Glyph) (s : Sense) → transaction_rest gs ≡ Some (s, []) → IsForm ed (text (codes "transaction") ∷ gs) s
unfolding transaction_rest
transaction_sound ed gs s e =
    let a = steps _ _ _ _ e in
    let n = name_was a.value gs a.left a.read in
    let split : gs ≡ text a.value ∷ [] = n.split ∙ ap (λ l. text a.value ∷ l) (same_rest (transaction a.value) s a.left [] a.next) in
    formed ed (codes "transaction") (text a.value ∷ []) gs (transaction a.value) s (transaction_form a.value n.is) split (same_value (transaction a.value) s a.left [] a.next)

-- a variable's declaration, under its keyword
module _ (ed : Edition) (w : List ℕ) (made : List ℕ → Span → Sense) (form : (n : List ℕ) (r : Span) → IsName n → IsSpan r → IsForm ed (text w ∷ text n ∷ span_tokens r) (made n r)) where
  declaration_sound : (gs : List Glyph) (s : Sense) → (name >>= (λ n. span >>= (λ r. pure (made n r)))) gs ≡ Some (s, []) → IsForm ed (text w ∷ gs) s
  declaration_sound gs s e =
      let a = steps _ _ _ _ e in
      let b = steps _ _ _ _ a.next in
      let n = name_was a.value gs a.left a.read in
      let r = span_was b.value a.left b.left b.read in
      let range : a.left ≡ span_tokens b.value = r.split ∙ ap (λ l. span_tokens b.value ++ l) (same_rest (made a.value b.value) s b.left [] b.next) in
      formed ed w (text a.value ∷ span_tokens b.value) gs (made a.value b.value) s (form a.value b.value n.is r.is) (n.split ∙ ap (λ l. text a.value ∷ l) range) (same_value (made a.value b.value) s b.left [] b.next)

keep_sound : (ed : Edition) (gs : List Glyph) (s : Sense) → keep_rest gs ≡ Some (s, []) → IsForm ed (text (codes "keep") ∷ gs) s
unfolding keep_rest
keep_sound ed gs s e = declaration_sound ed (codes "keep") keep keep_form gs s e

each_sound : (ed : Edition) (gs : List Glyph) (s : Sense) → each_rest gs ≡ Some (s, []) → IsForm ed (text (codes "each") ∷ gs) s
unfolding each_rest
each_sound ed gs s e = declaration_sound ed (codes "each") each each_form gs s e

push_sound : (ed : Edition) (gs : List Glyph) (s : Sense) → push_rest gs ≡ Some (s, []) → IsForm ed (text (codes "push") ∷ gs) s
unfolding push_rest
push_sound ed gs s e =
    let a = steps _ _ _ _ e in
    let b = steps _ _ _ _ a.next in
    let c = steps _ _ _ _ b.next in
    let n = target_was a.value gs a.left a.read in
    let spells = Spells-read b.left c.left c.value c.read (same_rest (push a.value c.value) s c.left [] c.next) in
    formed ed (codes "push") (text a.value ∷ sign m.Is ∷ b.left) gs (push a.value c.value) s (push_form a.value b.left c.value n.is spells) (n.split ∙ ap (λ l. text a.value ∷ l) (marked m.Is a.left b.left b.value b.read)) (same_value (push a.value c.value) s c.left [] c.next)

pop_sound : (ed : Edition) (gs : List Glyph) (s : Sense) → pop_rest gs ≡ Some (s, []) → IsForm ed (text (codes "pop") ∷ gs) s
unfolding pop_rest
pop_sound ed gs s e =
    let a = steps _ _ _ _ e in
    let b = steps _ _ _ _ a.next in
    let c = steps _ _ _ _ b.next in
    let n = name_was a.value gs a.left a.read in
    let spells = Spells-read b.left c.left c.value c.read (same_rest (pop a.value c.value) s c.left [] c.next) in
    formed ed (codes "pop") (text a.value ∷ sign m.Is ∷ b.left) gs (pop a.value c.value) s (pop_form a.value b.left c.value n.is spells) (n.split ∙ ap (λ l. text a.value ∷ l) (marked m.Is a.left b.left b.value b.read)) (same_value (pop a.value c.value) s c.left [] c.next)

class_sound : (ed : Edition) → (gs : List Glyph) (s : Sense) → ((n : List ℕ) (a : Attrs) (cs : List Condition) → class n a cs ≡ s → has_conditions ed ≡ true) → class_rest gs ≡ Some (s, []) → IsForm ed (text (codes "class") ∷ gs) s
unfolding class_rest
class_sound ed gs s may e =
    let a = steps _ _ _ _ e in
    let b = steps _ _ _ _ a.next in
    let c = steps _ _ _ _ b.next in
    let n = name_was a.value gs a.left a.read in
    let w = attributes_were b.value a.left b.left b.read in
    let g = guard_was c.value b.left c.left c.read in
    let r : Sense = class a.value b.value c.value in
    let same : r ≡ s = same_value r s c.left [] c.next in
    let guards : b.left ≡ g.front = g.split ∙ ap (λ l. g.front ++ l) (same_rest r s c.left [] c.next) ∙ append-nil g.front in
    let split : gs ≡ text a.value ∷ w.front ++ g.front = n.split ∙ ap (λ l. text a.value ∷ l) (w.split ∙ ap (λ l. w.front ++ l) guards) in
    formed ed (codes "class") (text a.value ∷ w.front ++ g.front) gs r s (class_form (may a.value b.value c.value same) a.value w.front g.front b.value c.value n.is w.is g.is) split same

filter_sound : (ed : Edition) → has_tests ed ≡ true → (gs : List Glyph) (s : Sense) → filter_rest gs ≡ Some (s, []) → IsForm ed (text (codes "class") ∷ gs) s
unfolding filter_rest
filter_sound ed third gs s e =
    let a = steps _ _ _ _ e in
    let b = steps _ _ _ _ a.next in
    let c = steps _ _ _ _ b.next in
    let n = name_was a.value gs a.left a.read in
    let w = attributes_were b.value a.left b.left b.read in
    let g = test_guard_was c.value b.left c.left c.read in
    let r : Sense = filter a.value b.value c.value in
    let guards : b.left ≡ g.front = g.split ∙ ap (λ l. g.front ++ l) (same_rest r s c.left [] c.next) ∙ append-nil g.front in
    let split : gs ≡ text a.value ∷ w.front ++ g.front = n.split ∙ ap (λ l. text a.value ∷ l) (w.split ∙ ap (λ l. w.front ++ l) guards) in
    formed ed (codes "class") (text a.value ∷ w.front ++ g.front) gs r s (filter_form third a.value w.front g.front b.value c.value n.is w.is g.is) split (same_value r s c.left [] c.next)

class_by_sound : (m : Mode) (gs : List Glyph) (s : Sense) → class_by m gs ≡ Some (s, []) → IsForm (edition_at m s) (text (codes "class") ∷ gs) s
class_by_sound (Opening Classic) gs s e = class_sound Classic gs s (λ n a cs same. refl) e
class_by_sound (Opening Third) gs s e = class_sound (chosen s) gs s (λ n a cs same. subst (λ (t : Sense). has_conditions (chosen t) ≡ true) same refl) e
class_by_sound (Within Classic) gs s e = class_sound Classic gs s (λ n a cs same. refl) e
class_by_sound (Within Third) gs s e = filter_sound Third refl gs s e

-- the same in the edition of the statement
formed_in : (ed : Sense → Edition) (w : List ℕ) (ts gs : List Glyph) (r s : Sense) → IsForm (ed r) (text w ∷ ts) r → gs ≡ ts → r ≡ s → IsForm (ed s) (text w ∷ gs) s
formed_in ed w ts gs r s is split same = let P : List Glyph → Type 0 = λ l. IsForm (ed s) (text w ∷ l) s in subst P (sym split) (subst (λ (t : Sense). IsForm (ed t) (text w ∷ ts) t) same is)

-- a leaf or node after its keyword, given the forms of the two parts before its list
module _ (ed : Sense → Edition) {A L : Type 0} (w list : List ℕ) (first : Reader A) (First : List Glyph → A → Type 0) (first_was : (a : A) (gs left : List Glyph) → first gs ≡ Some (a, left) → With First gs a left) (further : Reader L) (Is : List Glyph → L → Type 0) (further_was : (l : L) (gs left : List Glyph) → further gs ≡ Some (l, left) → With Is gs l left) (made : List ℕ → List ℕ → A → L → List (List ℕ) → Sense)
    (form : (n u : List ℕ) (ts ls : List Glyph) (a : A) (l : L) (ns : List (List ℕ)) → IsName n → IsName u → First ts a → Is ls l → AreNames ns → IsForm (ed (made n u a l ns)) (text w ∷ text n ∷ text (codes "using") ∷ text u ∷ ts ++ (ls ++ text list ∷ map text ns)) (made n u a l ns)) where
  abbrev vertex_rest : Reader Sense
  vertex_rest = do
    n ← name
    literal (codes "using")
    u ← name
    a ← first
    l ← further
    literal list
    ns ← names
    pure (made n u a l ns)

  vertex_sound : (gs : List Glyph) (s : Sense) → vertex_rest gs ≡ Some (s, []) → IsForm (ed s) (text w ∷ gs) s
  vertex_sound gs s e =
      let a = steps _ _ _ _ e in
      let b = steps _ _ _ _ a.next in
      let c = steps _ _ _ _ b.next in
      let d = steps _ _ _ _ c.next in
      let v = steps _ _ _ _ d.next in
      let f = steps _ _ _ _ v.next in
      let h = steps _ _ _ _ f.next in
      let n = name_was a.value gs a.left a.read in
      let u = name_was c.value b.left c.left c.read in
      let k = first_was d.value c.left d.left d.read in
      let o = further_was v.value d.left v.left v.read in
      let ns = names_were h.value f.left h.left h.read in
      let r : Sense = made a.value c.value d.value v.value h.value in
      let listed : f.left ≡ map text h.value = ns.split ∙ ap (λ l. map text h.value ++ l) (same_rest r s h.left [] h.next) ∙ append-nil (map text h.value) in
      let lists : v.left ≡ text list ∷ map text h.value = worded list v.left f.left f.value f.read ∙ ap (λ l. text list ∷ l) listed in
      let behind : d.left ≡ o.front ++ text list ∷ map text h.value = o.split ∙ ap (λ l. o.front ++ l) lists in
      let parts : c.left ≡ k.front ++ (o.front ++ text list ∷ map text h.value) = k.split ∙ ap (λ l. k.front ++ l) behind in
      let using : a.left ≡ text (codes "using") ∷ text c.value ∷ k.front ++ (o.front ++ text list ∷ map text h.value) = worded (codes "using") a.left b.left b.value b.read ∙ ap (λ l. text (codes "using") ∷ l) (u.split ∙ ap (λ l. text c.value ∷ l) parts) in
      formed_in ed w (text a.value ∷ text (codes "using") ∷ text c.value ∷ k.front ++ (o.front ++ text list ∷ map text h.value)) gs r s (form a.value c.value k.front o.front d.value v.value h.value n.is u.is k.is o.is ns.are) (n.split ∙ ap (λ l. text a.value ∷ l) using) (same_value r s h.left [] h.next)

leaf_sound : (ed : Sense → Edition) → ((n u : List ℕ) (a : Attrs) (l : Option ℕ) (ns : List (List ℕ)) → has_conditions (ed (leaf n u a (only_packets l) ns)) ≡ true) → (gs : List Glyph) (s : Sense) → leaf_rest gs ≡ Some (s, []) → IsForm (ed s) (text (codes "leaf") ∷ gs) s
unfolding leaf_rest
leaf_sound ed may gs s e = vertex_sound ed (codes "leaf") (codes "classes") attributes Attributes attributes_were limit Limit limit_was (λ n u a l ns. leaf n u a (only_packets l) ns) (λ n u ts ls a l ns. leaf_form (may n u a l ns) n u ts ls a l ns) gs s e

-- nothing more follows the attributes or settings
abbrev NoMore : List Glyph → Unit {0} → Type 0
NoMore ls l = ls ≡ []

no_more_was : (l : Unit {0}) (gs left : List Glyph) → pure tt gs ≡ Some (l, left) → With NoMore gs l left
no_more_was l gs left e = record { front = []; split = same_rest tt l gs left e; is = refl }

node_plain : (e : Edition) → has_conditions e ≡ true → (n u : List ℕ) (ts ls : List Glyph) (a : Attrs) (l : Unit {0}) (ns : List (List ℕ)) → IsName n → IsName u → Attributes ts a → NoMore ls l → AreNames ns → IsForm e (text (codes "node") ∷ text n ∷ text (codes "using") ∷ text u ∷ ts ++ (ls ++ text (codes "children") ∷ map text ns)) (node n u a no_queueing ns)
node_plain e may n u ts ls a l ns is using attrs none are =
    let P : List Glyph → Type 0 = λ ls. IsForm e (text (codes "node") ∷ text n ∷ text (codes "using") ∷ text u ∷ ts ++ (ls ++ text (codes "children") ∷ map text ns)) (node n u a no_queueing ns) in
    subst P (sym none) (node_form may n u ts a ns is using attrs are)

node_sound : (ed : Sense → Edition) → ((n u : List ℕ) (a : Attrs) (ns : List (List ℕ)) → has_conditions (ed (node n u a no_queueing ns)) ≡ true) → (gs : List Glyph) (s : Sense) → node_rest gs ≡ Some (s, []) → IsForm (ed s) (text (codes "node") ∷ gs) s
unfolding node_rest
node_sound ed may gs s e = vertex_sound ed (codes "node") (codes "children") attributes Attributes attributes_were (pure tt) NoMore no_more_was (λ n u a l ns. node n u a no_queueing ns) (λ n u ts ls a l ns. node_plain (ed (node n u a no_queueing ns)) (may n u a ns) n u ts ls a l ns) gs s e

leaf_settled : (n u : List ℕ) (ts ls : List Glyph) (t : Settings) (l : Unit {0}) (ns : List (List ℕ)) → IsName n → IsName u → AreSettings ts t → NoMore ls l → AreNames ns → IsForm Third (text (codes "leaf") ∷ text n ∷ text (codes "using") ∷ text u ∷ ts ++ (ls ++ text (codes "classes") ∷ map text ns)) (leaf n u t.attrs t.queueing ns)
leaf_settled n u ts ls t l ns is using set none are =
    let P : List Glyph → Type 0 = λ ls. IsForm Third (text (codes "leaf") ∷ text n ∷ text (codes "using") ∷ text u ∷ ts ++ (ls ++ text (codes "classes") ∷ map text ns)) (leaf n u t.attrs t.queueing ns) in
    subst P (sym none) (leaf_settings_form refl n u ts t ns is using set are)

leaf_settings_sound : (gs : List Glyph) (s : Sense) → leaf_settings_rest gs ≡ Some (s, []) → IsForm Third (text (codes "leaf") ∷ gs) s
unfolding leaf_settings_rest
leaf_settings_sound gs s e = vertex_sound (λ _. Third) (codes "leaf") (codes "classes") settings AreSettings settings_were (pure tt) NoMore no_more_was (λ n u t l ns. leaf n u t.attrs t.queueing ns) leaf_settled gs s e

node_settled : (n u : List ℕ) (ts ls : List Glyph) (t : Settings) (l : Unit {0}) (ns : List (List ℕ)) → IsName n → IsName u → AreSettings ts t → NoMore ls l → AreNames ns → IsForm Third (text (codes "node") ∷ text n ∷ text (codes "using") ∷ text u ∷ ts ++ (ls ++ text (codes "children") ∷ map text ns)) (node n u t.attrs t.queueing ns)
node_settled n u ts ls t l ns is using set none are =
    let P : List Glyph → Type 0 = λ ls. IsForm Third (text (codes "node") ∷ text n ∷ text (codes "using") ∷ text u ∷ ts ++ (ls ++ text (codes "children") ∷ map text ns)) (node n u t.attrs t.queueing ns) in
    subst P (sym none) (node_settings_form refl n u ts t ns is using set are)

node_settings_sound : (gs : List Glyph) (s : Sense) → node_settings_rest gs ≡ Some (s, []) → IsForm Third (text (codes "node") ∷ gs) s
unfolding node_settings_rest
node_settings_sound gs s e = vertex_sound (λ _. Third) (codes "node") (codes "children") settings AreSettings settings_were (pure tt) NoMore no_more_was (λ n u t l ns. node n u t.attrs t.queueing ns) node_settled gs s e

leaf_by_sound : (m : Mode) (gs : List Glyph) (s : Sense) → leaf_by m gs ≡ Some (s, []) → IsForm (edition_at m s) (text (codes "leaf") ∷ gs) s
leaf_by_sound (Opening Classic) gs s e = leaf_sound (λ _. Classic) (λ n u a l ns. refl) gs s e
leaf_by_sound (Opening Third) gs s e = leaf_sound chosen (λ n u a l ns. refl) gs s e
leaf_by_sound (Within Classic) gs s e = leaf_sound (λ _. Classic) (λ n u a l ns. refl) gs s e
leaf_by_sound (Within Third) gs s e = leaf_settings_sound gs s e

node_by_sound : (m : Mode) (gs : List Glyph) (s : Sense) → node_by m gs ≡ Some (s, []) → IsForm (edition_at m s) (text (codes "node") ∷ gs) s
node_by_sound (Opening Classic) gs s e = node_sound (λ _. Classic) (λ n u a ns. refl) gs s e
node_by_sound (Opening Third) gs s e = node_sound chosen (λ n u a ns. refl) gs s e
node_by_sound (Within Classic) gs s e = node_sound (λ _. Classic) (λ n u a ns. refl) gs s e
node_by_sound (Within Third) gs s e = node_settings_sound gs s e

keyword_sound : (m : Mode) (k : Keyword) (gs : List Glyph) (s : Sense) → rest_by m (Some k) gs ≡ Some (s, []) → IsForm (edition_at m s) (text (keyword_word k) ∷ gs) s
keyword_sound m keyword.Policy gs s e = version_sound m gs s e
keyword_sound m keyword.Transaction gs s e = transaction_sound (edition_at m s) gs s e
keyword_sound m keyword.Keep gs s e = keep_sound (edition_at m s) gs s e
keyword_sound m keyword.Each gs s e = each_sound (edition_at m s) gs s e
keyword_sound m keyword.Push gs s e = push_sound (edition_at m s) gs s e
keyword_sound m keyword.Pop gs s e = pop_sound (edition_at m s) gs s e
keyword_sound m keyword.Class gs s e = class_by_sound m gs s e
keyword_sound m keyword.Leaf gs s e = leaf_by_sound m gs s e
keyword_sound m keyword.Node gs s e = node_by_sound m gs s e

by_keyword : (m : Mode) (w : List ℕ) (gs : List Glyph) (s : Sense) (found : Option Keyword) → keyword_of w ≡ found → rest_by m found gs ≡ Some (s, []) → IsForm (edition_at m s) (text w ∷ gs) s
by_keyword m w gs s None is e = absurd cc
by_keyword m w gs s (Some k) is e = subst (λ v. IsForm (edition_at m s) (text v ∷ gs) s) (sym (keyword_is w k is)) (keyword_sound m k gs s e)

form_read : (m : Mode) (gs : List Glyph) (s : Sense) → a_form m gs ≡ Some (s, []) → IsForm (edition_at m s) gs s
unfolding a_form
form_read m gs s e =
    let a = steps _ _ _ _ e in
    subst (λ l. IsForm (edition_at m s) l s) (sym (a_word_was gs a.left a.value a.read)) (by_keyword m a.value a.left s (keyword_of a.value) refl a.next)

named_was : (m : Mode) (t s : Sense) (gs : List Glyph) → named_at m t gs ≡ Some (s, []) → Kept (has_names (edition_at m t) t) t s gs []
unfolding named_at
named_was m t s gs e = kept (has_names (edition_at m t) t) t s gs [] e

pub IsForm-read : (m : Mode) (gs : List Glyph) (s : Sense) → a_statement m gs ≡ Some (s, []) → IsFormAt m gs s
unfolding a_statement
IsForm-read m gs s e =
    let a = steps (a_form m gs) (named_at m) s [] e in
    let k = named_was m a.value s a.left a.next in
    record {
      form = form_read m gs s (a.read ∙ ap (pure a.value) k.rest ∙ ap (λ (t : Sense). pure t []) k.same);
      named = subst (λ (t : Sense). has_names (edition_at m t) t ≡ true) k.same k.is;
    }

-- ---- each form is read

guard_ends : (ts : List Glyph) (cs : List Condition) → Guard ts cs → ahead attribute_at ts ≡ None
guard_ends ts cs unguarded = refl
guard_ends ts cs (guarded us _ are) = refl

alternatives_end : (ts : List Glyph) (cs : List (List Test)) → Alternatives ts cs → ahead attribute_at ts ≡ None
alternatives_end ts cs unconditional = refl
alternatives_end ts cs (alternatives us _ are) = refl

abbrev leaf_of : Edition → Reader Sense
leaf_of Classic = leaf_rest
leaf_of Third = leaf_settings_rest

abbrev node_of : Edition → Reader Sense
node_of Classic = node_rest
node_of Third = node_settings_rest

-- the mode reads classes, leaves and nodes as those of the statement's edition
abbrev ReadsKind : Mode → Edition → Sense → Type 0
ReadsKind m e (class n a cs) = class_by m ≡ class_rest
ReadsKind m e (filter n a cs) = class_by m ≡ filter_rest
ReadsKind m e (leaf n u a q ns) = leaf_by m ≡ leaf_of e
ReadsKind m e (node n u a q ns) = node_by m ≡ node_of e
ReadsKind m e _ = Unit {0}

span_alone : (s : Span) → span_tokens s ++ [] ≡ span_tokens s
span_alone s = refl

-- a form of an edition is read in each mode that allows the versions of the edition
read_form : (mode : Mode) (ed : Edition) (gs : List Glyph) (s : Sense) → last_version ed ≤ last_at mode → ReadsKind mode ed s → IsForm ed gs s → a_form mode gs ≡ Some (s, [])
unfolding a_form version_by transaction_rest keep_rest each_rest push_rest pop_rest class_rest filter_rest leaf_rest node_rest leaf_settings_rest node_settings_rest
read_form mode ed gs s fits kind (version_form v is) =
    let last = is.below in
    let below : v ≤ last_at mode = omega arith in
    rw (le-leb first_version v is.above, le-leb v (last_at mode) below) refl
read_form mode ed gs s fits kind (transaction_form n is) = rw (named_reads n [] is) refl
read_form mode ed gs s fits kind (keep_form n r is range) = rw (named_reads n (span_tokens r) is, span_reads r [] range) refl
read_form mode ed gs s fits kind (each_form n r is range) = rw (named_reads n (span_tokens r) is, span_reads r [] range) refl
read_form mode ed gs s fits kind (push_form n ts a is spells) = rw (target_reads n (sign m.Is ∷ ts) is, read-Spells ts a spells) refl
read_form mode ed gs s fits kind (pop_form n ts a is spells) = rw (named_reads n (sign m.Is ∷ ts) is, read-Spells ts a spells) refl
read_form mode ed gs s fits kind (class_form may n ts us a cs is attrs guards) = rw (kind, named_reads n (ts ++ us) is, read_attributes a ts us attrs (guard_ends us cs guards), read_guard cs us guards) refl
read_form mode ed gs s fits kind (filter_form may n ts us a cs is attrs are) = rw (kind, named_reads n (ts ++ us) is, read_attributes a ts us attrs (alternatives_end us cs are), read_test_guard cs us are) refl
read_form mode Third gs s fits kind (leaf_form third n u ts ls a l ns is using attrs may are) = absurd cc
read_form mode Classic gs s fits kind (leaf_form classic n u ts ls a l ns is using attrs may are) =
    let list : List Glyph = text (codes "classes") ∷ map text ns in
    let how : leaf_by mode ≡ leaf_rest = kind in
    rw (how, named_reads n (text (codes "using") ∷ text u ∷ (ts ++ (ls ++ list))) is, named_reads u (ts ++ (ls ++ list)) using, read_attributes a ts (ls ++ list) attrs (limit_ends l ls (map text ns) may), read_limit l ls (map text ns) may, read_names ns are) refl
read_form mode Third gs s fits kind (node_form third n u ts a ns is using attrs are) = absurd cc
read_form mode Classic gs s fits kind (node_form classic n u ts a ns is using attrs are) =
    let list : List Glyph = text (codes "children") ∷ map text ns in
    let how : node_by mode ≡ node_rest = kind in
    rw (how, named_reads n (text (codes "using") ∷ text u ∷ (ts ++ list)) is, named_reads u (ts ++ list) using, read_attributes a ts list attrs refl, read_names ns are) refl
read_form mode Classic gs s fits kind (leaf_settings_form third n u ts t ns is using set are) = absurd cc
read_form mode Third gs s fits kind (leaf_settings_form third n u ts t ns is using set are) =
    let list : List Glyph = text (codes "classes") ∷ map text ns in
    let how : leaf_by mode ≡ leaf_settings_rest = kind in
    rw (how, named_reads n (text (codes "using") ∷ text u ∷ (ts ++ list)) is, named_reads u (ts ++ list) using, read_settings t ts list set (list_ends (map text ns)).0, read_names ns are) refl
read_form mode Classic gs s fits kind (node_settings_form third n u ts t ns is using set are) = absurd cc
read_form mode Third gs s fits kind (node_settings_form third n u ts t ns is using set are) =
    let list : List Glyph = text (codes "children") ∷ map text ns in
    let how : node_by mode ≡ node_settings_rest = kind in
    rw (how, named_reads n (text (codes "using") ∷ text u ∷ (ts ++ list)) is, named_reads u (ts ++ list) using, read_settings t ts list set (list_ends (map text ns)).1, read_names ns are) refl

last_case : (b : Bool) → last_version (cond b Classic Third) ≤ last_version Third
last_case true = omega arith
last_case false = omega arith

last_chosen : (s : Sense) → last_version (chosen s) ≤ last_version Third
last_chosen (version v) = last_case (leb v (last_version Classic))
last_chosen (transaction n) = omega arith
last_chosen (keep n s) = omega arith
last_chosen (each n s) = omega arith
last_chosen (push n a) = omega arith
last_chosen (pop n a) = omega arith
last_chosen (class n a cs) = omega arith
last_chosen (filter n a cs) = omega arith
last_chosen (leaf n u a q ns) = omega arith
last_chosen (node n u a q ns) = omega arith

-- the mode allows the versions of the edition in which it reads a statement
last_fits : (m : Mode) (s : Sense) → last_version (edition_at m s) ≤ last_at m
last_fits (Opening Classic) s = omega arith
last_fits (Opening Third) s = last_chosen s
last_fits (Within e) s = omega arith

-- a form is of a kind that its edition has
pub form_kind : (ed : Edition) (gs : List Glyph) (s : Sense) → IsForm ed gs s → is_of ed s ≡ true
form_kind ed gs s (version_form v is) = refl
form_kind ed gs s (transaction_form n is) = refl
form_kind ed gs s (keep_form n r is range) = refl
form_kind ed gs s (each_form n r is range) = refl
form_kind ed gs s (push_form n ts a is spells) = refl
form_kind ed gs s (pop_form n ts a is spells) = refl
form_kind ed gs s (class_form may n ts us a cs is attrs guards) = may
form_kind ed gs s (filter_form may n ts us a cs is attrs are) = may
form_kind ed gs s (leaf_form may n u ts ls a l ns is using attrs limit are) = refl
form_kind ed gs s (node_form may n u ts a ns is using attrs are) = refl
form_kind ed gs s (leaf_settings_form may n u ts t ns is using set are) = rw (may, or-true (has_only_packets t.queueing)) refl
form_kind ed gs s (node_settings_form may n u ts t ns is using set are) = rw (may, or-true (has_nothing t.queueing)) refl

class_kind : (m : Mode) (n : List ℕ) (a : Attrs) (cs : List Condition) → has_conditions (edition_at m (class n a cs)) ≡ true → class_by m ≡ class_rest
class_kind (Opening e) n a cs may = refl
class_kind (Within Classic) n a cs may = refl
class_kind (Within Third) n a cs may = absurd cc

filter_kind : (m : Mode) (n : List ℕ) (a : Attrs) (cs : List (List Test)) → has_tests (edition_at m (filter n a cs)) ≡ true → class_by m ≡ filter_rest
filter_kind (Opening Classic) n a cs may = absurd cc
filter_kind (Opening Third) n a cs may = absurd cc
filter_kind (Within Classic) n a cs may = absurd cc
filter_kind (Within Third) n a cs may = refl

leaf_kind : (m : Mode) (n u : List ℕ) (a : Attrs) (q : Queueing) (ns : List (List ℕ)) → leaf_by m ≡ leaf_of (edition_at m (leaf n u a q ns))
leaf_kind (Opening Classic) n u a q ns = refl
leaf_kind (Opening Third) n u a q ns = refl
leaf_kind (Within Classic) n u a q ns = refl
leaf_kind (Within Third) n u a q ns = refl

node_kind : (m : Mode) (n u : List ℕ) (a : Attrs) (q : Queueing) (ns : List (List ℕ)) → node_by m ≡ node_of (edition_at m (node n u a q ns))
node_kind (Opening Classic) n u a q ns = refl
node_kind (Opening Third) n u a q ns = refl
node_kind (Within Classic) n u a q ns = refl
node_kind (Within Third) n u a q ns = refl

kind_reads : (m : Mode) (s : Sense) → is_of (edition_at m s) s ≡ true → ReadsKind m (edition_at m s) s
kind_reads m (class n a cs) may = class_kind m n a cs may
kind_reads m (filter n a cs) may = filter_kind m n a cs may
kind_reads m (version v) may = tt
kind_reads m (transaction n) may = tt
kind_reads m (keep n s) may = tt
kind_reads m (each n s) may = tt
kind_reads m (push n a) may = tt
kind_reads m (pop n a) may = tt
kind_reads m (leaf n u a q ns) may = leaf_kind m n u a q ns
kind_reads m (node n u a q ns) may = node_kind m n u a q ns

pub read-IsForm : (m : Mode) (gs : List Glyph) (s : Sense) → IsFormAt m gs s → a_statement m gs ≡ Some (s, [])
unfolding a_statement named_at
read-IsForm m gs s is = rw (read_form m (edition_at m s) gs s (last_fits m s) (kind_reads m s (form_kind (edition_at m s) gs s is.form)) is.form, is.named) refl

-- tokens are the form of at most one statement
pub IsForm-one : (m : Mode) (gs : List Glyph) (s t : Sense) → IsFormAt m gs s → IsFormAt m gs t → s ≡ t
IsForm-one m gs s t one other = same_value s t [] [] (sym (read-IsForm m gs s one) ∙ read-IsForm m gs t other)
