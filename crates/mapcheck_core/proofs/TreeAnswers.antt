-- A text is only one tree, or has only one error.
use Rattle.mapcheck_core.proofs.Prelude.{◌≡◌, sym, List, ℕ, subst, ◌∙◌, ap, [], refl, arith, ◌∷◌, inr, Some, length, ◌≤◌, inl, ◌++◌, ◌⊎◌, Err, Result, Ok, length-append, MatchResult, Says-one, Glyph, statements_of, Topology, inner, read_on, IsTreeFault, nothing, IsLarge, TreeGives, TreeLine, one_tree, tree, written, IsSmall, IsTreeLineFault, IsTreeText, at_line, large, most_tree_bytes, no_line, second, IsOnlyTree, TreeFault}
use Rattle.tree_defs.specs.Tree.{leaf}
use Rattle.mapcheck_core.specs.declared.tree_fault.TreeFault.TheVariants as fault
use Rattle.mapcheck_core.specs.TreeTexts.{no_form, too_long}
use Rattle.mapcheck_core.proofs.GiveLaws.{Give-one, Tells, IsFirstAtFault-one, Give-right}
use Rattle.mapcheck_core.proofs.ReadLaws.{read-written}

no_glyph : (t : Topology) → [] ≡ written t → ⊥
no_glyph (leaf u) e = cc
no_glyph (inner u ts) e = cc

-- a line has one tree, or none
pub TreeGives-one : (n : ℕ) (l : List ℕ) (s t : List TreeLine) → TreeGives n l s → TreeGives n l t → s ≡ t
TreeGives-one n l _ _ (nothing clean says) (nothing also say) = refl
TreeGives-one n l _ _ (nothing clean says) (tree t also say b) = absurd (no_glyph t (Says-one l [] (written t) says say))
TreeGives-one n l _ _ (tree t clean says b) (nothing also say) = absurd (no_glyph t (Says-one l [] (written t) say says))
TreeGives-one n l _ _ (tree t clean says b) (tree u also say c) =
    let glyphs : written t ≡ written u = Says-one l (written t) (written u) says say in
    let same : Some t ≡ Some u = sym (read-written t b) ∙ ap (λ (gs : List Glyph). read_on gs [] []) glyphs ∙ read-written u c in
    let one : t ≡ u = cc in
    ap (one_tree n) one

-- at most one tree
abbrev AtMostOne : List TreeLine → Type 0
AtMostOne ts = length ts ≤ 1

not_wrong : (before : List TreeLine) (n : ℕ) (l : List ℕ) (s after : List TreeLine) → IsTreeLineFault before n l → TreeGives n l s → AtMostOne (before ++ (s ++ after)) → ⊥
not_wrong before n l s after (no_form few f) g few_all = f s g
not_wrong before n l s after (second t one h) g few_all =
    let same : s ≡ one_tree n t = TreeGives-one n l s (one_tree n t) g h in
    let size : length s ≡ 1 = ap length same in
    let all = length-append before (s ++ after) in
    let behind = length-append s after in
    omega arith

is_few : (before : List TreeLine) (n : ℕ) (l : List ℕ) → IsTreeLineFault before n l → AtMostOne before
is_few before n l (no_form few f) = few
is_few before n l (second t one h) = omega arith

TreeGives-tells : Tells TreeGives IsTreeLineFault AtMostOne
TreeGives-tells = record { one = TreeGives-one; right = is_few; wrong = not_wrong }

none_one : (n : ℕ) (t : Topology) → [] ≡ one_tree n t → ⊥
none_one n t e = cc

one_tree_one : (m n : ℕ) (t u : Topology) → one_tree m t ≡ one_tree n u → (m ≡ n) × (t ≡ u)
one_tree_one m n t u e = (ap first_line e, ap (first_tree t) e)
  where
    first_line : List TreeLine → ℕ
    first_line [] = 0
    first_line (l ∷ ls) = l.line

    first_tree : Topology → List TreeLine → Topology
    first_tree none [] = none
    first_tree none (l ∷ ls) = l.tree

same_only : (text : List ℕ) (m n : ℕ) (t u : Topology) → IsOnlyTree text m t → IsOnlyTree text n u → (m ≡ n) × (t ≡ u)
same_only text m n t u a b = one_tree_one m n t u (Give-one TreeGives TreeGives-one 1 (statements_of text) (one_tree m t) (one_tree n u) a.give b.give)

pub IsTreeText-one : (text : List ℕ) (t u : Topology) → IsTreeText text t → IsTreeText text u → t ≡ u
IsTreeText-one text t u a b = (same_only text a.line b.line t u a.only b.only).1

small_large : (t u : Topology) → t ≡ u → IsSmall t → IsLarge u → ⊥
small_large t u e small big = not_both u (subst IsSmall e small) big
  where
    not_both : (u : Topology) → IsSmall u → IsLarge u → ⊥
    not_both u small (inl many) = let few = small.0 in omega arith
    not_both u small (inr deep) = let low = small.1 in omega arith

pub IsTreeText-IsTreeFault : (text : List ℕ) (t : Topology) (f : TreeFault) → IsTreeText text t → IsTreeFault text f → ⊥
IsTreeText-IsTreeFault text t _ a (too_long long) = let short : length text ≤ most_tree_bytes = a.only.short in omega arith
IsTreeText-IsTreeFault text t _ a (at_line n short f) = Give-right TreeGives IsTreeLineFault AtMostOne TreeGives-tells (statements_of text) (one_tree a.line t) n a.only.give (omega arith) f
IsTreeText-IsTreeFault text t _ a (no_line short none) = none_one a.line t (Give-one TreeGives TreeGives-one 1 (statements_of text) [] (one_tree a.line t) none a.only.give)
IsTreeText-IsTreeFault text t _ a (large n u only l) = small_large t u (same_only text a.line n t u a.only only).1 a.small l

pub IsTreeFault-one : (text : List ℕ) (f g : TreeFault) → IsTreeFault text f → IsTreeFault text g → f ≡ g
IsTreeFault-one text _ _ (too_long long) (too_long also) = refl
IsTreeFault-one text _ _ (too_long long) (at_line n short f) = absurd (omega arith)
IsTreeFault-one text _ _ (too_long long) (no_line short none) = absurd (omega arith)
IsTreeFault-one text _ _ (too_long long) (large n t only l) = let short : length text ≤ most_tree_bytes = only.short in absurd (omega arith)
IsTreeFault-one text _ _ (at_line n short f) (too_long long) = absurd (omega arith)
IsTreeFault-one text _ _ (at_line n short f) (at_line k low g) = ap fault.Line (IsFirstAtFault-one TreeGives IsTreeLineFault AtMostOne TreeGives-tells (statements_of text) n k f g)
IsTreeFault-one text _ _ (at_line n short f) (no_line low none) = absurd (Give-right TreeGives IsTreeLineFault AtMostOne TreeGives-tells (statements_of text) [] n none (omega arith) f)
IsTreeFault-one text _ _ (at_line n short f) (large k t only l) = absurd (Give-right TreeGives IsTreeLineFault AtMostOne TreeGives-tells (statements_of text) (one_tree k t) n only.give (omega arith) f)
IsTreeFault-one text _ _ (no_line short none) (too_long long) = absurd (omega arith)
IsTreeFault-one text _ _ (no_line short none) (at_line n low f) = absurd (Give-right TreeGives IsTreeLineFault AtMostOne TreeGives-tells (statements_of text) [] n none (omega arith) f)
IsTreeFault-one text _ _ (no_line short none) (no_line low also) = refl
IsTreeFault-one text _ _ (no_line short none) (large k t only l) = absurd (none_one k t (Give-one TreeGives TreeGives-one 1 (statements_of text) [] (one_tree k t) none only.give))
IsTreeFault-one text _ _ (large k t only l) (too_long long) = let short : length text ≤ most_tree_bytes = only.short in absurd (omega arith)
IsTreeFault-one text _ _ (large k t only l) (at_line n short f) = absurd (Give-right TreeGives IsTreeLineFault AtMostOne TreeGives-tells (statements_of text) (one_tree k t) n only.give (omega arith) f)
IsTreeFault-one text _ _ (large k t only l) (no_line short none) = absurd (none_one k t (Give-one TreeGives TreeGives-one 1 (statements_of text) [] (one_tree k t) none only.give))
IsTreeFault-one text _ _ (large k t only l) (large n u also m) = ap fault.Large (same_only text k n t u only also).0

-- ---- consequences of an answer

pub accepted : {R : Type 0} (shape : R → Topology) (text : List ℕ) (r : Result R TreeFault) (t : Topology) → MatchResult r (λ x. IsTreeText text (shape x)) (λ f. (f ≡ fault.NoMemory) ⊎ IsTreeFault text f) → IsTreeText text t → MatchResult r (λ x. shape x ≡ t) (λ f. f ≡ fault.NoMemory)
accepted shape text (Ok x) t right is = IsTreeText-one text (shape x) t right is
accepted shape text (Err f) t (inl memory) is = memory
accepted shape text (Err f) t (inr wrong) is = absurd (IsTreeText-IsTreeFault text t f is wrong)

pub refused : {R : Type 0} (shape : R → Topology) (text : List ℕ) (r : Result R TreeFault) (f : TreeFault) → MatchResult r (λ x. IsTreeText text (shape x)) (λ g. (g ≡ fault.NoMemory) ⊎ IsTreeFault text g) → IsTreeFault text f → MatchResult r (λ x. ⊥) (λ g. (g ≡ f) ⊎ (g ≡ fault.NoMemory))
refused shape text (Ok x) f right wrong = IsTreeText-IsTreeFault text (shape x) f right wrong
refused shape text (Err g) f (inl memory) wrong = inr memory
refused shape text (Err g) f (inr other) wrong = inl (IsTreeFault-one text g f other wrong)
