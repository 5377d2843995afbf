-- A name that statements list once is listed by one statement.
use Rattle.policy_rules.proofs.Prelude.{◌∙◌, ap, List, ◌≡◌, sym, ℕ, [], ◌∷◌, refl, take, false, Bool, length, subst, true, not, Some, ◌+◌, arith, ◌<◌, inl, inr, ◌||◌, None, get_or, true≢false, ◌≤◌, Option, cond, drop, ◌&&◌, suc, ◌≢◌, nat_eq, IsTrue, Any, Contains, cases_Bool, cases_order, nat_tests, get_or-take, length-take, Contains-append_right, sum_by-append, get_or-le-sum_by, sum_by-cons, sum_by-drop_more, sum_by-take-drop, bytes_eq-Decides, cons_option, list_any, sum_by, option_map_or, bytes_eq, Entry, Sense, class, filtered, pop, push, transaction, version, each, keep, leaf, node, IsNotListedOnce, IsOrphan, NoLine, root, Name, has, declared, is_once, listed, node_name, children, class_name, leaf_classes, times}
use Rattle.policy_rules.specs.Resolved.{ListsClass}

Any-cons : {X : Type 0} (P : X → Type 0) (x : X) (xs : List X) → Any P xs → Any P (x ∷ xs)
Any-cons P x xs (k, y, within, is, p) = (suc k, y, omega arith, is, p)

-- ---- counts, statement by statement
pub times-listed : (names : Sense → List Name) (entries : List Entry) (a : Name) → times (listed names entries) a ≡ sum_by (λ e. times (names e.1) a) entries
times-listed names [] a = refl
times-listed names (e ∷ es) a =
    sum_by-append (λ b. cond (bytes_eq a b) 1 0) (names e.1) (listed names es)
    ∙ ap (λ n. times (names e.1) a + n) (times-listed names es a)
    ∙ sym (sum_by-cons (λ f. times (names f.1) a) e es)

-- a list holds a name exactly if the name occurs in it
pub Contains-times : (ns : List Name) (a : Name) → 0 < times ns a → Contains ns a
Contains-times [] a some = absurd (omega (arith, some))
Contains-times (n ∷ ns) a some = elim (cases_Bool (bytes_eq a n)) [
  | inl same ↦ (0, omega arith, sym ((bytes_eq-Decides a n).0 same))
  | inr other ↦ Contains-append_right (n ∷ []) ns a (Contains-times ns a (subst (λ k. 0 < k) (sum_by-cons (λ b. cond (bytes_eq a b) 1 0) n ns ∙ ap (λ b. cond b 1 0 + times ns a) other ∙ omega arith) some))
]

pub times-Contains : (ns : List Name) (a : Name) → Contains ns a → 0 < times ns a
times-Contains ns a (k, within, is) =
    let here : cond (bytes_eq a (get_or ns k a)) 1 0 ≡ 1 = ap (λ b. cond b 1 0) ((bytes_eq-Decides a (get_or ns k a)).1 (sym is)) in
    let least : cond (bytes_eq a (get_or ns k a)) 1 0 ≤ times ns a = get_or-le-sum_by (λ b. cond (bytes_eq a b) 1 0) ns k a within in
    subst (λ n. n ≤ times ns a) here least

-- ---- the statement that lists a name
some-lister : (names : Sense → List Name) (entries : List Entry) (a : Name) → 0 < sum_by (λ e. times (names e.1) a) entries → Any (λ e. Contains (names e.1) a) entries
some-lister names [] a some = absurd (omega (arith, some))
some-lister names (e ∷ es) a some = elim (cases_order (times (names e.1) a) 0) [
  | inl none ↦ Any-cons (λ f. Contains (names f.1) a) e es (some-lister names es a (omega (arith, sum_by-cons (λ f. times (names f.1) a) e es, none)))
  | inr (inl below) ↦ absurd (omega (arith, below))
  | inr (inr above) ↦ (0, e, omega arith, refl, Contains-times (names e.1) a above)
]

once-1 : (n : ℕ) → nat_eq n 1 ≡ true → n ≡ 1
once-1 n h = grind (arith, nat_tests)

-- a name that is listed once is listed by some statement
pub lister : (names : Sense → List Name) (entries : List Entry) (a : Name) → is_once (listed names entries) a ≡ true → Any (λ e. Contains (names e.1) a) entries
lister names entries a once =
    let one : sum_by (λ e. times (names e.1) a) entries ≡ 1 = sym (times-listed names entries a) ∙ once-1 (times (listed names entries) a) once in
    some-lister names entries a (omega (arith, one))

-- no other statement lists it
pub one_lister : (names : Sense → List Name) (entries : List Entry) (a : Name) → is_once (listed names entries) a ≡ true
    → (i j : ℕ) (d : Entry) → i < length entries → j < length entries → Contains (names (get_or entries i d).1) a → Contains (names (get_or entries j d).1) a → i ≡ j
one_lister names entries a once i j d in_i in_j at_i at_j = elim (cases_order i j) [
  | inl same ↦ same
  | inr (inl below) ↦ absurd (apart i j below in_j at_i at_j)
  | inr (inr above) ↦ absurd (apart j i above in_i at_j at_i)
]
  where
    f : Entry → ℕ
    f e = times (names e.1) a

    apart : (i j : ℕ) → i < j → j < length entries → Contains (names (get_or entries i d).1) a → Contains (names (get_or entries j d).1) a → ⊥
    apart i j below within at_i at_j =
        let one : sum_by f entries ≡ 1 = sym (times-listed names entries a) ∙ once-1 (times (listed names entries) a) once in
        let first : 0 < f (get_or entries i d) = times-Contains _ a at_i in
        let second : 0 < f (get_or entries j d) = times-Contains _ a at_j in
        let early : f (get_or (take j entries) i d) ≤ sum_by f (take j entries) = get_or-le-sum_by f (take j entries) i d (omega (arith, length-take j entries)) in
        let early' : f (get_or entries i d) ≤ sum_by f (take j entries) = subst (λ (e : Entry). f e ≤ sum_by f (take j entries)) (get_or-take j entries i d below) early in
        let late : sum_by f (drop j entries) ≡ f (get_or entries j d) + sum_by f (drop (j + 1) entries) = sum_by-drop_more f entries j d within in
        let both : sum_by f (take j entries) + sum_by f (drop j entries) ≡ sum_by f entries = sum_by-take-drop f entries j in
        omega (arith, one, first, second, early', late, both)

-- ---- a declared name has its statement
declaring-either : (space : Sense → Option Name) (e : Entry) (es : List Entry) (a : Name) (o : Option Name) → space e.1 ≡ o → list_any (bytes_eq a) (cons_option (space e.1) (declared space es)) ≡ true
    → (has (declared space es) a ≡ true → Any (λ f. space f.1 ≡ Some a) es) → Any (λ f. space f.1 ≡ Some a) (e ∷ es)
declaring-either space e es a None is there later = Any-cons (λ f. space f.1 ≡ Some a) e es (later (sym (ap (λ o. list_any (bytes_eq a) (cons_option o (declared space es))) is) ∙ there))
declaring-either space e es a (Some n) is there later = elim (cases_Bool (bytes_eq a n)) [
  | inl same ↦ (0, e, omega arith, refl, is ∙ ap Some (sym ((bytes_eq-Decides a n).0 same)))
  | inr other ↦ Any-cons (λ f. space f.1 ≡ Some a) e es (later (sym (ap (λ o. list_any (bytes_eq a) (cons_option o (declared space es))) is ∙ ap (λ b. b || has (declared space es) a) other) ∙ there))
]

pub declaring : (space : Sense → Option Name) (entries : List Entry) (a : Name) → has (declared space entries) a ≡ true → Any (λ e. space e.1 ≡ Some a) entries
declaring space [] a there = absurd (true≢false (sym there))
declaring space (e ∷ es) a there = declaring-either space e es a (space e.1) refl there (declaring space es a)

not-not : (b : Bool) → ¬ IsTrue (not b) → b ≡ true
not-not true h = refl
not-not false h = absurd (h refl)

-- ---- classes
-- if no line fails this clause, each declared class is listed exactly once
pub class-once : (entries : List Entry) (a : Name) → NoLine (IsNotListedOnce entries) entries → has (declared class_name entries) a ≡ true → is_once (listed leaf_classes entries) a ≡ true
class-once entries a none there = at (declaring class_name entries a there)
  where
    at : Any (λ e. class_name e.1 ≡ Some a) entries → is_once (listed leaf_classes entries) a ≡ true
    at (k, e, within, is, named) = not-not (is_once (listed leaf_classes entries) a) (λ stray. none k e within
        (subst (λ (f : Entry). IsNotListedOnce entries f) (sym is) (ap (λ o. option_map_or (λ n. not (is_once (listed leaf_classes entries) n)) o false) named ∙ stray)))

-- some leaf lists it
pub class-leaf : (entries : List Entry) (a : Name) → NoLine (IsNotListedOnce entries) entries → has (declared class_name entries) a ≡ true → Any (λ e. Contains (leaf_classes e.1) a) entries
class-leaf entries a none there = lister leaf_classes entries a (class-once entries a none there)

-- no second leaf lists it
pub class-one_leaf : (entries : List Entry) (a : Name) → NoLine (IsNotListedOnce entries) entries → has (declared class_name entries) a ≡ true
    → (i j : ℕ) (d : Entry) → i < length entries → j < length entries → Contains (leaf_classes (get_or entries i d).1) a → Contains (leaf_classes (get_or entries j d).1) a → i ≡ j
class-one_leaf entries a none there = one_lister leaf_classes entries a (class-once entries a none there)

-- a statement that lists a class declares a leaf
pub lists-leaf : (s : Sense) (a : Name) → Contains (leaf_classes s) a → (n : Name) × ((node_name s ≡ Some n) × ListsClass n a s)
lists-leaf (leaf n u m q ns) a lists = (n, (refl, (refl, lists)))
lists-leaf (version v) a lists = absurd (omega (arith, lists.1))
lists-leaf (transaction n) a lists = absurd (omega (arith, lists.1))
lists-leaf (keep n s) a lists = absurd (omega (arith, lists.1))
lists-leaf (each n s) a lists = absurd (omega (arith, lists.1))
lists-leaf (push n t) a lists = absurd (omega (arith, lists.1))
lists-leaf (pop n t) a lists = absurd (omega (arith, lists.1))
lists-leaf (class n m cs) a lists = absurd (omega (arith, lists.1))
lists-leaf (filtered n m cs) a lists = absurd (omega (arith, lists.1))
lists-leaf (node n u m q ns) a lists = absurd (omega (arith, lists.1))

-- ---- children
-- if no node is an orphan, each declared node or leaf except the root is listed once
pub child-once : (entries : List Entry) (a : Name) → NoLine (IsOrphan entries) entries → has (declared node_name entries) a ≡ true → a ≢ root → is_once (listed children entries) a ≡ true
child-once entries a none there other = at (declaring node_name entries a there)
  where
    differs : bytes_eq a root ≡ false
    differs = elim (cases_Bool (bytes_eq a root)) [
      | inl same ↦ absurd (other ((bytes_eq-Decides a root).0 same))
      | inr apart ↦ apart
    ]

    at : Any (λ e. node_name e.1 ≡ Some a) entries → is_once (listed children entries) a ≡ true
    at (k, e, within, is, named) = not-not (is_once (listed children entries) a) (λ orphan. none k e within
        (subst (λ (f : Entry). IsOrphan entries f) (sym is) (ap (λ o. option_map_or (λ n. not (bytes_eq n root) && not (is_once (listed children entries) n)) o false) named ∙ ap (λ b. not b && not (is_once (listed children entries) a)) differs ∙ orphan)))
