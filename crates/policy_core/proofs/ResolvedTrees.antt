-- The tree of nodes that statements declare, from the tree of their numbers.
use Rattle.policy_core.proofs.Prelude.{List, ◌≡◌, ℕ, ap, sym, subst, [], ◌∙◌, arith, length, ◌<◌, ◌∷◌, refl, get_or, suc, true, Some, map, IsTrue, and_parts, AllByRecursion, list_all, Node, place-within, at-place, at-places, AreAccepted, NoLine, root, IsUnknown, is_known, is_transaction_known, graph_of, nodes_in, family, node_in, said, Name, declared, node_name, has, before, place, IsTreeIn, AreTreesIn, IsInnerOf, IsLeafOf, names_of, IsNodeOf, Entry, Sense, node, class, filtered, version, each, keep, pop, push, transaction, IsValid, Attrs, Tree, Trees, inner, more, none, root_of, IsTreeOf, AreTreesOf, labels, map_tree, map_trees, node_numbered, nodes_at, AreValid, IsNodeTree}
use Rattle.std.proofs.Common.{All}
use Rattle.std.proofs.Math.ListN.{get_or-map}
use Rattle.tree_defs.specs.Tree.{leaf as leaf_of}
use Rattle.policy_text_defs.specs.declared.queueing.Queueing.{Queueing}
use Rattle.policy_text_defs.specs.Sense.{leaf}
use Rattle.tree_graph.specs.Descent.{children}
use Rattle.policy_core.proofs.NodeStatements.{families, IsStated, stated, names-nodes}
use Rattle.policy_core.proofs.PlacePrograms.{none-some, some-same, program-there}
use Rattle.policy_core.proofs.AcceptedStatements.{known-at, known-there, root-there}

-- ---- one statement
is-node : (es : List Entry) (n : Node) (name used : Name) (a : Attrs) (q : Queueing) → Some (said es name used a q) ≡ Some n → is_transaction_known es used ≡ true → IsNodeOf es n name used a q
is-node es n name used a q e known = subst (λ (m : Node). IsNodeOf es m name used a q) (some-same e) (record { name_is = refl; using_is = refl; program_is = program-there es used known; marks_are = refl; limits_are = refl; group_is = refl })

pub is-leaf : (es earlier : List Entry) (n : Node) (s : Sense) → IsValid s → family s ≡ Some [] → node_in es s ≡ Some n → is_known es earlier s ≡ true → IsLeafOf es n s
is-leaf es earlier n (version v) valid f e known = absurd (none-some f)
is-leaf es earlier n (transaction t) valid f e known = absurd (none-some f)
is-leaf es earlier n (keep m s) valid f e known = absurd (none-some f)
is-leaf es earlier n (each m s) valid f e known = absurd (none-some f)
is-leaf es earlier n (push m t) valid f e known = absurd (none-some f)
is-leaf es earlier n (pop m t) valid f e known = absurd (none-some f)
is-leaf es earlier n (class m a cs) valid f e known = absurd (none-some f)
is-leaf es earlier n (filtered m a cs) valid f e known = absurd (none-some f)
is-leaf es earlier n (leaf m u a q ns) valid f e known = is-node es n m u a q e (and_parts _ _ known).0
is-leaf es earlier n (node m u a q ns) valid f e known = (let none : length ns ≡ 0 = ap length (some-same f) in absurd (omega (arith, none, valid.4.some)))

pub is-inner : (es earlier : List Entry) (n : Node) (names ns : List Name) (s : Sense) → 0 < length ns → names ≡ ns → family s ≡ Some ns → node_in es s ≡ Some n → is_known es earlier s ≡ true → IsInnerOf es n names s
is-inner es earlier n names ns (version v) some same f e known = absurd (none-some f)
is-inner es earlier n names ns (transaction t) some same f e known = absurd (none-some f)
is-inner es earlier n names ns (keep m s) some same f e known = absurd (none-some f)
is-inner es earlier n names ns (each m s) some same f e known = absurd (none-some f)
is-inner es earlier n names ns (push m t) some same f e known = absurd (none-some f)
is-inner es earlier n names ns (pop m t) some same f e known = absurd (none-some f)
is-inner es earlier n names ns (class m a cs) some same f e known = absurd (none-some f)
is-inner es earlier n names ns (filtered m a cs) some same f e known = absurd (none-some f)
is-inner es earlier n names ns (leaf m u a q ms) some same f e known = (let none : length ns ≡ 0 = ap length (sym (some-same f)) in absurd (omega (arith, none, some)))
is-inner es earlier n names ns (node m u a q ms) some same f e known = (is-node es n m u a q e (and_parts _ _ known).0, same ∙ sym (some-same f))

-- the names that a node lists are known
pub family-known : (es earlier : List Entry) (ns : List Name) (s : Sense) → family s ≡ Some ns → is_known es earlier s ≡ true → list_all (has (declared node_name es)) ns ≡ true
family-known es earlier ns (version v) f known = absurd (none-some f)
family-known es earlier ns (transaction t) f known = absurd (none-some f)
family-known es earlier ns (keep m s) f known = absurd (none-some f)
family-known es earlier ns (each m s) f known = absurd (none-some f)
family-known es earlier ns (push m t) f known = absurd (none-some f)
family-known es earlier ns (pop m t) f known = absurd (none-some f)
family-known es earlier ns (class m a cs) f known = absurd (none-some f)
family-known es earlier ns (filtered m a cs) f known = absurd (none-some f)
family-known es earlier ns (leaf m u a q ms) f known = ap (list_all (has (declared node_name es))) (sym (some-same f))
family-known es earlier ns (node m u a q ms) f known = ap (list_all (has (declared node_name es))) (sym (some-same f)) ∙ (and_parts _ _ known).1

-- ---- one number
pub name-at : (es : List Entry) (i : ℕ) → (node_numbered es i).name ≡ get_or (declared node_name es) i []
name-at es i = sym (get_or-map (λ (n : Node). n.name) (nodes_in es) i _) ∙ ap (λ names. get_or names i []) (names-nodes es es)

pub children-at : (es : List Entry) (i : ℕ) → children (graph_of es) i ≡ map (place (declared node_name es)) (get_or (families es) i [])
children-at es i = get_or-map (λ ns. map (place (declared node_name es)) ns) (families es) i []

pub valid-of : (es : List Entry) (i : ℕ) → All (λ (e : Entry). IsValid e.1) es → (s : IsStated es es i) → IsValid s.entry.1
valid-of es i valid s = subst (λ (e : Entry). IsValid e.1) (s.at s.entry) (valid s.place s.entry s.within)

pub known-of : (es : List Entry) (i : ℕ) → NoLine (IsUnknown es) es → (s : IsStated es es i) → is_known es (before s.entry.0 es) s.entry.1 ≡ true
known-of es i known s = subst (λ (e : Entry). is_known es (before e.0 es) e.1 ≡ true) (s.at s.entry) (known-at es s.place s.entry known s.within)

-- ---- the tree
map-nil : {X Y : Type 0} (f : X → Y) (xs : List X) → map f xs ≡ [] → xs ≡ []
map-nil f [] e = refl
map-nil f (x ∷ xs) e = (let none : suc (length (map f xs)) ≡ 0 = ap length e in absurd (omega arith))

map-some : {X Y : Type 0} (f : X → Y) (xs : List X) (y : Y) (ys : List Y) → y ∷ ys ≡ map f xs → 0 < length xs
map-some f [] y ys e = (let none : suc (length ys) ≡ 0 = ap length e in absurd (omega arith))
map-some f (x ∷ xs) y ys e = omega arith

names-labels : (es : List Entry) (ts : Trees ℕ) → names_of (map_trees (node_numbered es) ts) ≡ map (λ i. get_or (declared node_name es) i []) (labels ts)
names-labels es none = refl
names-labels es (more (leaf_of i) ts) = ap (λ a. a ∷ names_of (map_trees (node_numbered es) ts)) (name-at es i) ∙ ap (λ l. get_or (declared node_name es) i [] ∷ l) (names-labels es ts)
names-labels es (more (inner i us) ts) = ap (λ a. a ∷ names_of (map_trees (node_numbered es) ts)) (name-at es i) ∙ ap (λ l. get_or (declared node_name es) i [] ∷ l) (names-labels es ts)

pub places-within : (names ns : List Name) → list_all (has names) ns ≡ true → AllByRecursion (λ i. i < length names) (map (place names) ns)
places-within names [] known = tt
places-within names (n ∷ ns) known =
    let parts : IsTrue (has names n) × IsTrue (list_all (has names) ns) = and_parts (has names n) (list_all (has names) ns) known in
    (place-within names n parts.0, places-within names ns parts.1)

abbrev count : List Entry → ℕ
count es = length (declared node_name es)

mutual
  pub tree-in : (es : List Entry) (t : Tree ℕ) → NoLine (IsUnknown es) es → All (λ (e : Entry). IsValid e.1) es → IsTreeOf (graph_of es) t → root_of t < count es → IsTreeIn es (nodes_at es t)
  tree-in es (leaf_of i) known valid h within =
      let s : IsStated es es i = stated es es i within in
      let none : get_or (families es) i [] ≡ [] = map-nil (place (declared node_name es)) (get_or (families es) i []) (sym (children-at es i) ∙ h) in
      (s.place, s.entry, s.within, s.at s.entry, is-leaf es (before s.entry.0 es) (node_numbered es i) s.entry.1 (valid-of es i valid s) (s.family [] ∙ ap Some none) (s.node _) (known-of es i known s))
  tree-in es (inner i none) known valid h within = absurd h.0
  tree-in es (inner i (more t ts)) known valid h within =
      let s : IsStated es es i = stated es es i within in
      let ns : List Name = get_or (families es) i [] in
      let own : labels (more t ts) ≡ map (place (declared node_name es)) ns = h.1 ∙ children-at es i in
      let there : list_all (has (declared node_name es)) ns ≡ true = family-known es (before s.entry.0 es) ns s.entry.1 (s.family []) (known-of es i known s) in
      let names : names_of (map_trees (node_numbered es) (more t ts)) ≡ ns = names-labels es (more t ts) ∙ ap (map (λ j. get_or (declared node_name es) j [])) own ∙ at-places (declared node_name es) [] ns there in
      let lower : AllByRecursion (λ j. j < count es) (labels (more t ts)) = subst (AllByRecursion (λ j. j < count es)) (sym own) (places-within (declared node_name es) ns there) in (
        (s.place, s.entry, s.within, s.at s.entry, is-inner es (before s.entry.0 es) (node_numbered es i) _ ns s.entry.1 (map-some _ ns _ _ own) names (s.family []) (s.node _) (known-of es i known s)),
        (tree-in es t known valid h.2.0 lower.0, trees-in es ts known valid h.2.1 lower.1),
      )

  trees-in : (es : List Entry) (ts : Trees ℕ) → NoLine (IsUnknown es) es → All (λ (e : Entry). IsValid e.1) es → AreTreesOf (graph_of es) ts → AllByRecursion (λ i. i < count es) (labels ts) → AreTreesIn es (map_trees (node_numbered es) ts)
  trees-in es none known valid h lower = tt
  trees-in es (more t ts) known valid h lower = (tree-in es t known valid h.0 lower.0, trees-in es ts known valid h.1 lower.1)

root-map : (f : ℕ → Node) (t : Tree ℕ) → root_of (map_tree f t) ≡ f (root_of t)
root-map f (leaf_of i) = refl
root-map f (inner i ts) = refl

pub root-name : (es : List Entry) (t : Tree ℕ) (a : Name) → has (declared node_name es) a ≡ true → root_of t ≡ place (declared node_name es) a → (root_of (nodes_at es t)).name ≡ a
root-name es t a there top =
    ap (λ (n : Node). n.name) (root-map (node_numbered es) t) ∙ name-at es (root_of t) ∙ ap (λ i. get_or (declared node_name es) i []) top ∙ at-place (declared node_name es) a [] there

pub node-tree : (es : List Entry) (t : Tree ℕ) → AreAccepted es → AreValid es → IsTreeOf (graph_of es) t → root_of t ≡ place (declared node_name es) root → IsNodeTree es t
node-tree es t accepted valid tree top = record {
  root_is = root-name es t root (root-there es accepted) top;
  tree = tree-in es t (known-there es accepted) valid tree (omega (arith, top, place-within (declared node_name es) root (root-there es accepted)));
}
