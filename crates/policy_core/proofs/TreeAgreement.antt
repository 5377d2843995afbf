-- Trees of nodes that agree at each number.
use Rattle.policy_core.proofs.Prelude.{List, ◌≡◌, ℕ, ap, sym, subst, [], ◌∙◌, arith, length, ◌<◌, refl, get_or, true, map, ap₂, AllByRecursion, list_all, Node, all-weaker, all-append, all-first, all-second, place-within, AreAccepted, NoLine, root, IsUnknown, graph_of, nodes_in, Name, declared, node_name, has, before, place, Entry, Tree, Trees, inner, more, none, root_of, IsTreeOf, AreTreesOf, labels, preorder, preorder_below, map_tree, map_trees, node_numbered, nodes_at}
use Rattle.tree_defs.specs.Tree.{leaf}
use Rattle.policy_core.proofs.NodeStatements.{families, IsStated, stated}
use Rattle.policy_core.proofs.ResolvedTrees.{children-at, known-of, family-known, places-within}
use Rattle.policy_core.proofs.AcceptedStatements.{known-there, root-there}
use Rattle.policy_core.proofs.HomeLaws.{length-nodes}
use Rattle.policy_core.proofs.HomePasses.{length-graph}

-- functions that agree at the numbers of a tree give the same tree
mutual
  pub map-agree : {Q : Type 0} (f h : ℕ → Q) (t : Tree ℕ) → AllByRecursion (λ i. f i ≡ h i) (preorder t) → map_tree f t ≡ map_tree h t
  map-agree f h (leaf i) agree = ap leaf agree.0
  map-agree f h (inner i ts) agree = ap₂ inner agree.0 (maps-agree f h ts agree.1)

  maps-agree : {Q : Type 0} (f h : ℕ → Q) (ts : Trees ℕ) → AllByRecursion (λ i. f i ≡ h i) (preorder_below ts) → map_trees f ts ≡ map_trees h ts
  maps-agree f h none agree = refl
  maps-agree f h (more t ts) agree =
      ap₂ more (map-agree f h t (all-first (λ i. f i ≡ h i) (preorder t) (preorder_below ts) agree)) (maps-agree f h ts (all-second (λ i. f i ≡ h i) (preorder t) (preorder_below ts) agree))

abbrev IsNumber : List Entry → ℕ → Type 0
IsNumber es i = i < length (declared node_name es)

-- each number in the tree is that of a node
mutual
  numbers-within : (es : List Entry) (t : Tree ℕ) → NoLine (IsUnknown es) es → IsTreeOf (graph_of es) t → IsNumber es (root_of t) → AllByRecursion (IsNumber es) (preorder t)
  numbers-within es (leaf i) known h within = (within, tt)
  numbers-within es (inner i ts) known h within =
      let s : IsStated es es i = stated es es i within in
      let ns : List Name = get_or (families es) i [] in
      let own : labels ts ≡ map (place (declared node_name es)) ns = h.1 ∙ children-at es i in
      let there : list_all (has (declared node_name es)) ns ≡ true = family-known es (before s.entry.0 es) ns s.entry.1 (s.family []) (known-of es i known s) in
      (within, numbers-within_below es ts known h.2 (subst (AllByRecursion (IsNumber es)) (sym own) (places-within (declared node_name es) ns there)))

  numbers-within_below : (es : List Entry) (ts : Trees ℕ) → NoLine (IsUnknown es) es → AreTreesOf (graph_of es) ts → AllByRecursion (IsNumber es) (labels ts) → AllByRecursion (IsNumber es) (preorder_below ts)
  numbers-within_below es none known h within = tt
  numbers-within_below es (more t ts) known h within = all-append (IsNumber es) (preorder t) (preorder_below ts) (numbers-within es t known h.0 within.0) (numbers-within_below es ts known h.1 within.1)

-- a function that agrees with the statements at each node's number gives the tree that they declare
pub nodes-agree : (es : List Entry) (t : Tree ℕ) (f : ℕ → Node) → AreAccepted es → IsTreeOf (graph_of es) t → root_of t ≡ place (declared node_name es) root
    → ((i : ℕ) → i < length (nodes_in es) → f i ≡ node_numbered es i) → map_tree f t ≡ nodes_at es t
nodes-agree es t f accepted tree top agree =
    map-agree f (node_numbered es) t
    (all-weaker (IsNumber es) (λ i. f i ≡ node_numbered es i) (preorder t) (λ i within. agree i (omega (arith, within, length-nodes es, length-graph es)))
    (numbers-within es t (known-there es accepted) tree (omega (arith, top, place-within (declared node_name es) root (root-there es accepted)))))
