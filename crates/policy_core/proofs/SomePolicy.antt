-- Accepted statements give a policy: the tree of their graph below the root, and for each class the
-- leaf that lists it.
use Rattle.policy_core.proofs.Prelude.{List, ◌≡◌, ℕ, ap, sym, subst, [], ◌∙◌, arith, length, ◌<◌, ◌∷◌, refl, get_or, suc, true, Some, map, inl, inr, Contains, Any, cond, cases_Bool, eqb-true, length-map, recursion_from_All, sum_by-cons, AllByRecursion, AllZip, has-at, AreAccepted, root, version_of, AreRising, graph_of, Name, declared, node_name, has, class_name, leaf_classes, place, Declared, Resolved, classes_in, IsResolved, ListsClass, Entry, Sense, node, class, filtered, version, each, keep, pop, push, transaction, Tree, most_levels, IsForest, IsWithin, IsTreeOf, rows, preorder, Row, row_at, row, nodes_of, AreHomes, IsHome, IsLeafWith, classes_at, nodes_at, IsNodeTree}
use Rattle.std.proofs.Common.{nat_eq}
use Rattle.std.proofs.lemmas.List.{get_or-map}
use Rattle.policy_text_defs.specs.Sense.{leaf}
use Rattle.policy_rules.specs.Names.{children}
use Rattle.tree_graph.specs.Descent.{times}
use Rattle.tree_graph.proofs.NodesOnce.{each_once}
use Rattle.tree_graph.proofs.PreorderLaws.{nodes_of-rows}
use Rattle.tree_graph.proofs.WholeTree.{shallow-root}
use Rattle.policy_rules.proofs.ListedOnce.{class-leaf, lists-leaf}
use Rattle.policy_core.proofs.Kinship.{IsNodeAt, node-of, length-graph, name-at, kids-at, some-name}
use Rattle.policy_core.proofs.FamilyFaults.{is-forest, is-shallow}
use Rattle.policy_core.proofs.AcceptedStatements.{strays-none}
use Rattle.policy_core.proofs.LeafClasses.{classes-of}
use Rattle.policy_core.proofs.HomeLaws.{length-nodes}
use Rattle.policy_core.proofs.ResolvedTrees.{node-tree}
use Rattle.policy_core.proofs.ResolvedTrees as resolving
use Rattle.policy_core.specs.TextLaws.{StatementsGiveAPolicy}
use Rattle.policy_core.proofs.GraphTrees.{HasTree, tree-there}

-- ---- the leaf of a class
lister-childless : (n c : Name) (s : Sense) → ListsClass n c s → children s ≡ []
lister-childless n c (version v) h = absurd h
lister-childless n c (transaction t) h = absurd h
lister-childless n c (keep m s) h = absurd h
lister-childless n c (each m s) h = absurd h
lister-childless n c (push m t) h = absurd h
lister-childless n c (pop m t) h = absurd h
lister-childless n c (class m a cs) h = absurd h
lister-childless n c (filtered m a cs) h = absurd h
lister-childless n c (leaf m u a q ns) h = refl
lister-childless n c (node m u a q ns) h = absurd h

-- a statement that lists the class declares this node, so the node is a leaf
leaf-of : (es : List Entry) (c n : Name) (k : ℕ) (e : Entry) (i : ℕ) → k < length es → get_or es k e ≡ e → node_name e.1 ≡ Some n → ListsClass n c e.1 → IsNodeAt es i e → IsLeafWith es c i
leaf-of es c n k e i within is named lists at = record {
  within = omega (arith, at.within, length-nodes es, length-graph es);
  childless = kids-at es i e at ∙ ap (map (place (declared node_name es))) (lister-childless n c e.1 lists);
  lists = (k, e, within, is, subst (λ (x : Name). ListsClass x c e.1) (sym (resolving.name-at es i ∙ name-at es i e [] at ∙ (some-name e n named).1)) lists);
}

-- each declared class has a leaf
leaf-there : (es : List Entry) → AreAccepted es → (c : Name) → has (declared class_name es) c ≡ true → (i : ℕ) × IsLeafWith es c i
leaf-there es accepted c declares = listed (class-leaf es c (strays-none es accepted) declares)
  where
    listed : Any (λ (e : Entry). Contains (leaf_classes e.1) c) es → (i : ℕ) × IsLeafWith es c i
    listed (k, e, within, is, lists) =
        let lister : (n : Name) × ((node_name e.1 ≡ Some n) × ListsClass n c e.1) = lists-leaf e.1 c lists in
        let at : (i : ℕ) × IsNodeAt es i e = node-of es k e lister.0 within is lister.1.0 in
        (at.0, leaf-of es c lister.0 k e at.0 within is lister.1.0 lister.1.1 at.1)

-- ---- its row
record StandsIn (i : ℕ) (is : List ℕ) : Type 0 where
  at : ℕ
  within : at < length is
  there : get_or is at 0 ≡ i

-- 1 for the same number
abbrev same : ℕ → ℕ → ℕ
same i j = cond (nat_eq i j) 1 0

stands : (i : ℕ) (is : List ℕ) → 0 < times i is → StandsIn i is
stands i [] some = absurd (omega arith)
stands i (j ∷ is) some = elim (cases_Bool (nat_eq i j)) [
  | inl here ↦ record { at = 0; within = omega arith; there = sym (eqb-true i j here) }
  | inr other ↦ (
      let none : same i j ≡ 0 = ap (λ b. cond b 1 0) other in
      let r : StandsIn i is = stands i is (omega (arith, sum_by-cons (same i) j is, none)) in
      record { at = suc r.at; within = omega (arith, r.within); there = r.there })
]

-- the leaf is in the tree
home-at : (es : List Entry) (t : Tree ℕ) (c : Name) (i : ℕ) → IsLeafWith es c i → StandsIn i (preorder t) → (k : ℕ) × IsHome es (rows 0 [] t) c k
home-at es t c i with_leaf stands_in =
    let nodes : nodes_of (rows 0 [] t) ≡ preorder t = nodes_of-rows 0 [] t in
    let within : stands_in.at < length (rows 0 [] t) = omega (arith, stands_in.within, ap length nodes, length-map (rows 0 [] t) (λ (r : Row). r.node)) in
    let number : (row_at (rows 0 [] t) stands_in.at).node ≡ i =
    sym (get_or-map (λ (r : Row). r.node) (rows 0 [] t) stands_in.at (row 0 [] []) 0 within) ∙ ap (λ (l : List ℕ). get_or l stands_in.at 0) nodes ∙ stands_in.there in
    (stands_in.at, record { within = within; leaf = subst (λ (x : ℕ). IsLeafWith es c x) (sym number) with_leaf })

all-homes : (es : List Entry) (all : List Row) (names : List Name) → AllByRecursion (λ (c : Name). (k : ℕ) × IsHome es all c k) names → (ks : List ℕ) × AllZip (IsHome es all) names ks
all-homes es all [] has_each = ([], tt)
all-homes es all (c ∷ names) has_each =
    let rest : (ks : List ℕ) × AllZip (IsHome es all) names ks = all-homes es all names has_each.1 in
    (has_each.0.0 ∷ rest.0, (has_each.0.1, rest.1))

-- ---- the policy
module _ (es : List Entry) (rising : AreRising es) (accepted : AreAccepted es) where
  forest : IsForest (graph_of es) (place (declared node_name es) root)
  forest = is-forest es rising accepted.0.0.0.0

  shallow : IsWithin (graph_of es) (place (declared node_name es) root) most_levels 0
  shallow = shallow-root (graph_of es) (place (declared node_name es) root) forest (λ i within. is-shallow es rising accepted.0.0.0 i)

  below : HasTree (graph_of es) (place (declared node_name es) root)
  below = tree-there (graph_of es) (place (declared node_name es) root) most_levels shallow

  home : (c : Name) → has (declared class_name es) c ≡ true → (k : ℕ) × IsHome es (rows 0 [] below.tree) c k
  home c declares =
      let own : (i : ℕ) × IsLeafWith es c i = leaf-there es accepted c declares in
      let within : own.0 < length (graph_of es) = omega (arith, own.1.within, length-nodes es) in
      home-at es below.tree c own.0 own.1 (stands own.0 (preorder below.tree) (omega (arith, each_once (graph_of es) (place (declared node_name es) root) below.tree forest below.is_tree below.root_is own.0 within)))

  homes : (ks : List ℕ) × AreHomes es (rows 0 [] below.tree) ks
  homes = all-homes es (rows 0 [] below.tree) (declared class_name es)
      (recursion_from_All (λ (c : Name). (k : ℕ) × IsHome es (rows 0 [] below.tree) c k) (declared class_name es) (λ k d within. home (get_or (declared class_name es) k d) (has-at (declared class_name es) k d within)))

-- the policy that a tree and the homes of its classes give
policy-of : (es : List Entry) (t : Tree ℕ) (ks : List ℕ) → IsTreeOf (graph_of es) t → IsNodeTree es t → AreHomes es (rows 0 [] t) ks → (r : Resolved) × IsResolved es r
policy-of es t ks is_tree named at = (
  record {
    policy = record { version = version_of es; tree = nodes_at es t; classes = classes_at (rows 0 [] t) (classes_in es) ks };
    conditions = map (λ (d : Declared). d.conditions) (classes_in es);
  },
  record {
    version_is = refl;
    root_is = named.root_is;
    tree = named.tree;
    classes = classes-of es t ks is_tree at;
    conditions = refl;
  },
)

pub a_policy : StatementsGiveAPolicy
a_policy es rising valid accepted =
    let t : HasTree (graph_of es) (place (declared node_name es) root) = below es rising accepted in
    policy-of es t.tree (homes es rising accepted).0 t.is_tree (node-tree es t.tree accepted valid t.is_tree t.root_is) (homes es rising accepted).1
