-- The last class, statement by statement.
use Rattle.policy_rules.proofs.Prelude.{◌∙◌, ap, List, ◌≡◌, sym, ℕ, [], ◌∷◌, refl, ◌++◌, take, false, Bool, length, true, not, ◌+◌, ◌<◌, get_or, true≢false, IsTrue, ◌↔◌, Entry, sense_of, class, filtered, pop, push, transaction, version, each, keep, leaf, node, Attrs, Condition, Statement, Each, Keep, Leaf, Node, Pop, Push, Version, Class, Filter, Test, Transaction, has_catch_all, has_catch_all_behind, entries_of, Name, is_catch_all}
use Rattle.policy_rules.proofs.Lines.{Line, entry_of, entries-more}

behind-cons : (found : Bool) (e : Entry) (es : List Entry) → has_catch_all_behind found (e ∷ es) ≡ has_catch_all_behind (is_catch_all found e.1) es
behind-cons found (n, version v) es = refl
behind-cons found (n, transaction t) es = refl
behind-cons found (n, keep v s) es = refl
behind-cons found (n, each v s) es = refl
behind-cons found (n, push v t) es = refl
behind-cons found (n, pop v t) es = refl
behind-cons found (n, class c a []) es = refl
behind-cons found (n, filtered c a []) es = refl
behind-cons found (n, class c a (x ∷ cs)) es = refl
behind-cons found (n, filtered c a (x ∷ cs)) es = refl
behind-cons found (n, leaf l u a q ns) es = refl
behind-cons found (n, node l u a q ns) es = refl

behind-push : (found : Bool) (es : List Entry) (e : Entry) → has_catch_all_behind found (es ++ e ∷ []) ≡ is_catch_all (has_catch_all_behind found es) e.1
behind-push found [] e = behind-cons found e []
behind-push found (f ∷ es) e =
    behind-cons found f (es ++ e ∷ [])
    ∙ behind-push (is_catch_all found f.1) es e
    ∙ ap (λ b. is_catch_all b e.1) (sym (behind-cons found f es))

pub catch_all-more : (lines : List Line) (i : ℕ) (l : Line) → i < length lines → l ≡ get_or lines i l
    → has_catch_all (entries_of (take (i + 1) lines)) ≡ is_catch_all (has_catch_all (entries_of (take i lines))) (sense_of l.1)
catch_all-more lines i l within is = ap has_catch_all (entries-more lines i l within is) ∙ behind-push false (entries_of (take i lines)) (entry_of l)

is_nil : {X : Type 0} → List X → Bool
is_nil [] = true
is_nil (x ∷ xs) = false

not_nil : {X : Type 0} (x : X) (xs : List X) → ¬ (x ∷ xs ≡ [])
unfolding is_nil
not_nil {X} x xs e = true≢false (ap (λ (l : List X). not (is_nil l)) e)

caught : (found empty : Bool) (n : Name) (a : Attrs) (cs : List Condition) → IsTrue empty ↔ (cs ≡ []) → empty ≡ is_catch_all found (class n a cs)
caught found true n a [] told = refl
caught found false n a [] told = told.1 refl
caught found true n a (c ∷ cs) told = absurd (not_nil c cs (told.0 refl))
caught found false n a (c ∷ cs) told = refl

caught-filtered : (found empty : Bool) (n : Name) (a : Attrs) (ts : List (List Test)) → IsTrue empty ↔ (ts ≡ []) → empty ≡ is_catch_all found (filtered n a ts)
caught-filtered found true n a [] told = refl
caught-filtered found false n a [] told = told.1 refl
caught-filtered found true n a (t ∷ ts) told = absurd (not_nil t ts (told.0 refl))
caught-filtered found false n a (t ∷ ts) told = refl

-- the step at a class, and at any other statement
pub at_class : (found empty : Bool) (s : Statement) (n : Name) (a : Attrs) (cs : List Condition) → s ≡ Class n a cs → IsTrue empty ↔ (cs ≡ []) → empty ≡ is_catch_all found (sense_of s)
at_class found empty s n a cs is told = caught found empty n a cs told ∙ sym (ap (λ t. is_catch_all found (sense_of t)) is)

pub at_filter : (found empty : Bool) (s : Statement) (n : Name) (a : Attrs) (ts : List (List Test)) → s ≡ Filter n a ts → IsTrue empty ↔ (ts ≡ []) → empty ≡ is_catch_all found (sense_of s)
at_filter found empty s n a ts is told = caught-filtered found empty n a ts told ∙ sym (ap (λ t. is_catch_all found (sense_of t)) is)

pub at_another : (found : Bool) (s : Statement) → ((n : Name) (a : Attrs) (cs : List Condition) → ¬ (s ≡ Class n a cs)) → ((n : Name) (a : Attrs) (ts : List (List Test)) → ¬ (s ≡ Filter n a ts)) → found ≡ is_catch_all found (sense_of s)
at_another found (Version v) other filter = refl
at_another found (Transaction n) other filter = refl
at_another found (Keep n s) other filter = refl
at_another found (Each n s) other filter = refl
at_another found (Push n t) other filter = refl
at_another found (Pop n t) other filter = refl
at_another found (Class n a cs) other filter = absurd (other n a cs refl)
at_another found (Filter n a ts) other filter = absurd (filter n a ts refl)
at_another found (Leaf n u a q ns) other filter = refl
at_another found (Node n u a q ns) other filter = refl
