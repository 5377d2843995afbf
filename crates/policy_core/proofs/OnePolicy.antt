-- Accepted statements give one policy.
use Rattle.policy_core.proofs.Prelude.{List, ◌≡◌, ap, sym, subst, [], ◌∙◌, ◌∷◌, refl, get_or, true, Some, map, Contains, Any, get_or_default, recursion_from_All, AllByRecursion, Node, Marks, has-at, AreAccepted, AreAcyclic, HaveRoot, AreKnown, NoLine, root, IsRepeated, IsNotListedOnce, IsOrphan, IsCyclic, Name, declared, node_name, has, class_name, leaf_classes, IsTreeIn, Declared, Resolved, classes_in, AreClassesOf, IsLeafFor, ListsClass, Entry, Sense, node, class, filtered, version, each, keep, pop, push, transaction, Test, Tree, Address, root_of}
use Rattle.policy_text_defs.specs.Sense.{leaf}
use Rattle.policy_defs.specs.Policy.{Class}
use Rattle.policy_rules.proofs.ListedOnce.{class-one_leaf}
use Rattle.policy_core.proofs.AcceptedStatements.{strays-none}
use Rattle.policy_core.proofs.PlacePrograms.{some-same}
use Rattle.policy_core.proofs.LeafClasses.{names-classes}
use Rattle.policy_core.specs.TextLaws.{StatementsGiveOnePolicy}
use Rattle.policy_core.proofs.Statements.{at-one_place}
use Rattle.policy_core.proofs.OneTree.{one-tree}
use Rattle.policy_core.proofs.OnePlace.{one-address}

-- ---- properties of accepted statements
new-there : (es : List Entry) → AreAccepted es → NoLine (IsRepeated es) es
new-there es accepted = (let r : HaveRoot es = accepted.0.0.0.0.0 in let known : AreKnown es = r.0.0.0.0 in known.0.1)

parents-there : (es : List Entry) → AreAccepted es → NoLine (IsOrphan es) es
parents-there es accepted = (let r : HaveRoot es = accepted.0.0.0.0.0 in r.0.1)

acyclic-there : (es : List Entry) → AreAccepted es → NoLine (IsCyclic es) es
acyclic-there es accepted = (let r : AreAcyclic es = accepted.0.0.0.0 in r.1)

-- ---- the leaf of a class
lister-name : (n c : Name) (s : Sense) → ListsClass n c s → node_name s ≡ Some n
lister-name n c (version v) h = absurd h
lister-name n c (transaction t) h = absurd h
lister-name n c (keep m s) h = absurd h
lister-name n c (each m s) h = absurd h
lister-name n c (push m t) h = absurd h
lister-name n c (pop m t) h = absurd h
lister-name n c (class m a cs) h = absurd h
lister-name n c (filtered m a cs) h = absurd h
lister-name n c (leaf m u a q ns) h = ap Some h.0
lister-name n c (node m u a q ns) h = absurd h

lister-classes : (n c : Name) (s : Sense) → ListsClass n c s → Contains (leaf_classes s) c
lister-classes n c (version v) h = absurd h
lister-classes n c (transaction t) h = absurd h
lister-classes n c (keep m s) h = absurd h
lister-classes n c (each m s) h = absurd h
lister-classes n c (push m t) h = absurd h
lister-classes n c (pop m t) h = absurd h
lister-classes n c (class m a cs) h = absurd h
lister-classes n c (filtered m a cs) h = absurd h
lister-classes n c (leaf m u a q ns) h = h.1
lister-classes n c (node m u a q ns) h = absurd h

-- leaves that list the same class have the same name
one-name : (es : List Entry) (c : Name) → NoLine (IsNotListedOnce es) es → has (declared class_name es) c ≡ true → (n m : Name) → Any (λ (e : Entry). ListsClass n c e.1) es → Any (λ (e : Entry). ListsClass m c e.1) es → n ≡ m
one-name es c none there n m (k, e, within_k, is_e, p) (l, f, within_l, is_f, q) = some-same (sym (lister-name n c e.1 p) ∙ ap (λ (g : Entry). node_name g.1) same ∙ lister-name m c f.1 q)
  where
    holds_e : Contains (leaf_classes (get_or es k e).1) c
    holds_e = subst (λ (g : Entry). Contains (leaf_classes g.1) c) (sym is_e) (lister-classes n c e.1 p)

    holds_f : Contains (leaf_classes (get_or es l e).1) c
    holds_f = subst (λ (g : Entry). Contains (leaf_classes g.1) c) (sym (sym (get_or_default es l f e within_l) ∙ is_f)) (lister-classes m c f.1 q)

    same : e ≡ f
    same = at-one_place es k l e f (class-one_leaf es c none there k l e within_k within_l holds_e holds_f) within_k is_e is_f

one-home : (es : List Entry) → AreAccepted es → (t : Tree Node) → IsTreeIn es t → (root_of t).name ≡ root → (c : Name) → has (declared class_name es) c ≡ true → (a b : Address) → IsLeafFor es t c a → IsLeafFor es t c b → a ≡ b
one-home es accepted t said top c there a b h k =
    one-address es (acyclic-there es accepted) (parents-there es accepted) t said top a b h.node_is k.node_is h.at k.at
    (one-name es c (strays-none es accepted) there h.node_is.name k.node_is.name h.lists k.lists)

-- ---- the classes
one-class : (c d : Class) → c.marks ≡ d.marks → c.leaf ≡ d.leaf → c ≡ d
one-class c d marks home = ap (λ (m : Marks). record { marks = m; leaf = c.leaf }) marks ∙ ap (λ (a : Address). record { marks = d.marks; leaf = a }) home

one-list : (es : List Entry) → AreAccepted es → (t : Tree Node) → IsTreeIn es t → (root_of t).name ≡ root → (ds : List Declared) (cs ks : List Class)
    → AllByRecursion (λ (d : Declared). has (declared class_name es) d.name ≡ true) ds → AreClassesOf es t ds cs → AreClassesOf es t ds ks → cs ≡ ks
one-list es accepted t said top [] [] [] there h k = refl
one-list es accepted t said top [] [] (q ∷ ks) there h k = absurd k
one-list es accepted t said top [] (p ∷ cs) ks there h k = absurd h
one-list es accepted t said top (d ∷ ds) [] ks there h k = absurd h
one-list es accepted t said top (d ∷ ds) (p ∷ cs) [] there h k = absurd k
one-list es accepted t said top (d ∷ ds) (p ∷ cs) (q ∷ ks) there h k =
    ap (λ (c : Class). c ∷ cs) (one-class p q (h.0 ∙ sym k.0) (one-home es accepted t said top d.name there.0 p.leaf q.leaf h.1 k.1))
    ∙ ap (λ (l : List Class). q ∷ l) (one-list es accepted t said top ds cs ks there.1 h.2 k.2)

-- each class in the list is declared
each-declared : (names : List Name) (ds : List Declared) → AllByRecursion (λ (n : Name). has names n ≡ true) (map (λ (d : Declared). d.name) ds) → AllByRecursion (λ (d : Declared). has names d.name ≡ true) ds
each-declared names [] all = tt
each-declared names (d ∷ ds) all = (all.0, each-declared names ds all.1)

-- ---- the policy
one-resolved : (r s : Resolved) → r.policy.version ≡ s.policy.version → r.policy.tree ≡ s.policy.tree → r.policy.classes ≡ s.policy.classes → r.conditions ≡ s.conditions → r ≡ s
one-resolved r s versions trees classes conditions =
    ap (λ v. record { policy = record { version = v; tree = r.policy.tree; classes = r.policy.classes }; conditions = r.conditions }) versions
    ∙ ap (λ (t : Tree Node). record { policy = record { version = s.policy.version; tree = t; classes = r.policy.classes }; conditions = r.conditions }) trees
    ∙ ap (λ (cs : List Class). record { policy = record { version = s.policy.version; tree = s.policy.tree; classes = cs }; conditions = r.conditions }) classes
    ∙ ap (λ (l : List (List (List Test))). record { policy = s.policy; conditions = l }) conditions

pub one-policy : StatementsGiveOnePolicy
one-policy es r s rising accepted h k = one-resolved r s (h.version_is ∙ sym k.version_is) trees classes (h.conditions ∙ sym k.conditions)
  where
    trees : r.policy.tree ≡ s.policy.tree
    trees = one-tree es rising (new-there es accepted) r.policy.tree s.policy.tree h.tree k.tree (h.root_is ∙ sym k.root_is)

    there : AllByRecursion (λ (d : Declared). has (declared class_name es) d.name ≡ true) (classes_in es)
    there = each-declared (declared class_name es) (classes_in es)
        (subst (AllByRecursion (λ (n : Name). has (declared class_name es) n ≡ true)) (sym (names-classes es))
        (recursion_from_All (λ (n : Name). has (declared class_name es) n ≡ true) (declared class_name es) (λ k d within. has-at (declared class_name es) k d within)))

    classes : r.policy.classes ≡ s.policy.classes
    classes = one-list es accepted s.policy.tree k.tree k.root_is (classes_in es) r.policy.classes s.policy.classes there
        (subst (λ (t : Tree Node). AreClassesOf es t (classes_in es) r.policy.classes) trees h.classes) k.classes
