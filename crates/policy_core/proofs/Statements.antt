-- No two statements declare the same node or leaf.
use Rattle.policy_core.proofs.Prelude.{List, ◌≡◌, ℕ, ap, sym, subst, [], ◌∙◌, arith, length, ◌<◌, ◌∷◌, refl, get_or, suc, true, Some, zero, None, Option, inl, inr, take, ◌||◌, Any, or-true, cases_order, get_or_default, get_or-take, length-take, bytes_eq-Decides, cons_option, bytes_eq, NoLine, IsRepeated, is_declared, AreRising, Name, declared, node_name, has, before, Entry, Sense, node, class, filtered, version, each, keep, pop, push, transaction}
use Rattle.policy_text_defs.specs.Sense.{leaf}
use Rattle.policy_core.proofs.PlacePrograms.{none-some, some-same}
use Rattle.policy_rules.proofs.EarlierLines.{before-take}

later : (o : Option Name) (names : List Name) (a : Name) → has names a ≡ true → has (cons_option o names) a ≡ true
later None names a there = there
later (Some n) names a there = ap (λ b. bytes_eq a n || b) there ∙ or-true (bytes_eq a n)

-- a name that a statement declares is among the declared names
pub declared-there : (space : Sense → Option Name) (es : List Entry) (k : ℕ) (d : Entry) (a : Name) → k < length es → space (get_or es k d).1 ≡ Some a → has (declared space es) a ≡ true
declared-there space [] k d a within is = absurd (omega arith)
declared-there space (e ∷ es) zero d a within is =
    ap (λ o. has (cons_option o (declared space es)) a) is ∙ ap (λ b. b || has (declared space es) a) ((bytes_eq-Decides a a).1 refl)
declared-there space (e ∷ es) (suc k) d a within is = later (space e.1) (declared space es) a (declared-there space es k d a (omega arith) is)

declares-again : (earlier : List Entry) (s : Sense) (a : Name) → node_name s ≡ Some a → has (declared node_name earlier) a ≡ true → is_declared earlier s ≡ true
declares-again earlier (version v) a is there = absurd (none-some is)
declares-again earlier (transaction t) a is there = absurd (none-some is)
declares-again earlier (keep m s) a is there = absurd (none-some is)
declares-again earlier (each m s) a is there = absurd (none-some is)
declares-again earlier (push m t) a is there = absurd (none-some is)
declares-again earlier (pop m t) a is there = absurd (none-some is)
declares-again earlier (class m c cs) a is there = absurd (none-some is)
declares-again earlier (filtered m c cs) a is there = absurd (none-some is)
declares-again earlier (leaf m u c q ns) a is there = ap (has (declared node_name earlier)) (some-same is) ∙ there
declares-again earlier (node m u c q ns) a is there = ap (has (declared node_name earlier)) (some-same is) ∙ there

-- the later of two statements declares a different name
module _ (es : List Entry) (rising : AreRising es) (new : NoLine (IsRepeated es) es) where
  apart : (i j : ℕ) (d : Entry) (a : Name) → i < j → j < length es → node_name (get_or es i d).1 ≡ Some a → node_name (get_or es j d).1 ≡ Some a → ⊥
  apart i j d a below within first second =
      let front : node_name (get_or (take j es) i d).1 ≡ Some a = subst (λ (e : Entry). node_name e.1 ≡ Some a) (sym (get_or-take j es i d below)) first in
      let there : has (declared node_name (take j es)) a ≡ true = declared-there node_name (take j es) i d a (omega (arith, length-take j es)) front in
      let earlier : has (declared node_name (before (get_or es j d).0 es)) a ≡ true = subst (λ (ls : List Entry). has (declared node_name ls) a ≡ true) (sym (before-take es j d rising within)) there in
      new j d within (declares-again (before (get_or es j d).0 es) (get_or es j d).1 a second earlier)

  same-place : (i j : ℕ) (d : Entry) (a : Name) → i < length es → j < length es → node_name (get_or es i d).1 ≡ Some a → node_name (get_or es j d).1 ≡ Some a → i ≡ j
  same-place i j d a within_i within_j first second = elim (cases_order i j) [
    | inl same ↦ same
    | inr (inl below) ↦ absurd (apart i j d a below within_j first second)
    | inr (inr above) ↦ absurd (apart j i d a above within_i second first)
  ]

-- the elements at one index are equal
pub at-one_place : (es : List Entry) (i j : ℕ) (e f : Entry) → i ≡ j → i < length es → get_or es i e ≡ e → get_or es j f ≡ f → e ≡ f
at-one_place es i j e f same within is_e is_f = sym is_e ∙ get_or_default es i e f within ∙ ap (λ k. get_or es k f) same ∙ is_f

-- statements that declare the same node or leaf are at the same index
pub one-statement : (es : List Entry) → AreRising es → NoLine (IsRepeated es) es → (i j : ℕ) (e f : Entry) (a : Name)
    → i < length es → j < length es → get_or es i e ≡ e → get_or es j f ≡ f → node_name e.1 ≡ Some a → node_name f.1 ≡ Some a → e ≡ f
one-statement es rising new i j e f a within_i within_j is_e is_f first second =
    at-one_place es i j e f
    (same-place es rising new i j e a within_i within_j
    (subst (λ (g : Entry). node_name g.1 ≡ Some a) (sym is_e) first)
    (subst (λ (g : Entry). node_name g.1 ≡ Some a) (sym is_f ∙ get_or_default es j f e within_j) second))
    within_i is_e is_f

-- facts of two statements are facts of one statement, if both declare the same node or leaf
pub of-one_statement : (es : List Entry) → AreRising es → NoLine (IsRepeated es) es → (a : Name) (P Q : Sense → Type 0)
    → ((s : Sense) → P s → node_name s ≡ Some a) → ((s : Sense) → Q s → node_name s ≡ Some a)
    → Any (λ (e : Entry). P e.1) es → Any (λ (e : Entry). Q e.1) es → (s : Sense) × P s × Q s
of-one_statement es rising new a P Q name_p name_q (i, e, within_i, is_e, p) (j, f, within_j, is_f, q) =
    let same : e ≡ f = one-statement es rising new i j e f a within_i within_j is_e is_f (name_p e.1 p) (name_q f.1 q) in
    (e.1, p, subst (λ (g : Entry). Q g.1) (sym same) q)
