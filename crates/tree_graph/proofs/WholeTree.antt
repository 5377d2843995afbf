-- The whole tree of a forest, in which no node is too deep.
use Rattle.tree_graph.proofs.Prelude.{arith, ℕ, length, ap, sym, ◌<◌, ◌≡◌, subst, ◌∙◌, List, [], ◌+◌, suc, refl, ◌∷◌, ◌≤◌, ◌++◌, get_or, inl, inr, zero, Contains, Bool, slice_index, ◌-◌, ◌↔◌, IsTrue, max, ◌^◌, cases_lt, eqb-true, get_or_default, Contains-get_or, Contains-append_right, Topology, topologies_of, topology_of, AreBranched, IsBranched, inner, Tree, Trees, leaf, more, none, nodes, root_of, LeadsToLeaf, depth, most_levels, depth_below, Graph, IsChild, Leads, IsForest, IsDeep, IsWithin, times, HasGrown, AreTreesOf, IsTreeOf, labels, rows, Numbered, IsSound, IsTreeBelow, numbered, Row, row, nodes_of, row_at}
use Rattle.std.proofs.Common.{nat_eq}
use Rattle.tree_graph.proofs.Steps.{below-within}
use Rattle.tree_graph.proofs.GrowthLemmas.{within-child, length-rows, tree-is_part}
use Rattle.tree_graph.proofs.NodesOnce.{each_once, nodes-all, room-root}
use Rattle.tree_graph.proofs.PreorderLaws.{nodes_of-rows, children_at, IsChildRow, child-row, leaf-address}

-- if no node is too deep, no path is too long
pub shallow-root : (g : Graph) (root : ℕ) → IsForest g root → ((a : ℕ) → a < length g → ¬ IsDeep g root a) → IsWithin g root most_levels 0
shallow-root g root forest none_deep k b way = elim (cases_lt most_levels k) [
  | inl deep ↦ absurd (none_deep b (inside k way) (k, deep, way))
  | inr near ↦ omega (arith, near)
]
  where
    inside : (k : ℕ) → Leads g k root b → b < length g
    inside zero same = subst (λ (x : ℕ). x < length g) same forest.root_is
    inside (suc k) way = below-within g root b forest.in_range (k, way)

mutual
  branched : (g : Graph) (t : Tree ℕ) → IsTreeOf g t → IsBranched (topology_of t)
  branched g (leaf i) h = tt
  branched g (inner i none) h = absurd h.0
  branched g (inner i (more t ts)) h = (branched g t h.2.0, branched_below g ts h.2.1)

  branched_below : (g : Graph) (ts : Trees ℕ) → AreTreesOf g ts → AreBranched (topologies_of ts)
  branched_below g none h = tt
  branched_below g (more t ts) h = (branched g t h.0, branched_below g ts h.1)

max-le : (a b c : ℕ) → a ≤ c → b ≤ c → max a b ≤ c
max-le a b c l m = grind (arith, l, m)

mutual
  levels : (g : Graph) (t : Tree ℕ) (above limit : ℕ) → IsTreeOf g t → IsWithin g (root_of t) limit above → depth t + above ≤ limit
  levels g (leaf i) above limit h shallow = shallow 0 i refl
  levels g (inner i ts) above limit h shallow = levels_below g i ts above limit (λ c there. subst (λ (l : List ℕ). Contains l c) h.1 there) h.2 shallow

  levels_below : (g : Graph) (i : ℕ) (ts : Trees ℕ) (above limit : ℕ) → ((c : ℕ) → Contains (labels ts) c → IsChild g i c) → AreTreesOf g ts → IsWithin g i limit above → depth_below ts + above ≤ limit
  levels_below g i none above limit each h shallow = shallow 0 i refl
  levels_below g i (more t ts) above limit each h shallow =
      let first : depth t + suc above ≤ limit = levels g t (suc above) limit h.0 (within-child g i (root_of t) limit above shallow (each (root_of t) (Contains-get_or (labels (more t ts)) 0 (root_of t) (omega arith)))) in
      let rest : depth_below ts + above ≤ limit = levels_below g i ts above limit (λ c there. each c (Contains-append_right (root_of t ∷ []) (labels ts) c there)) h.1 shallow in
      grind (arith, first, rest, max-le)

pub tree-below : (g : Graph) (root : ℕ) (new : List Row) (shape : Topology) → HasGrown g root [] [] new shape → IsTreeBelow g root (numbered new shape)
tree-below g root new shape has = record {
  tree = has.tree;
  root_is = has.root_is;
  is_tree = has.is_tree;
  numbered = record { rows_are = has.rows_are; topology_is = has.topology_is };
}

pub size-is : (g : Graph) (root : ℕ) (t : Tree ℕ) → IsForest g root → IsTreeOf g t → root_of t ≡ root → nodes t ≡ length g
size-is g root t forest tree top = omega (arith, nodes-all g root t forest tree top, room-root g root forest t (tree-is_part g t tree) top)

pub all-there : (g : Graph) (root : ℕ) (new : List Row) (shape : Topology) → IsForest g root → HasGrown g root [] [] new shape → length new ≡ length g
all-there g root new shape forest has = ap length has.rows_are ∙ length-rows 0 [] has.tree ∙ size-is g root has.tree forest has.is_tree has.root_is

pub all-once : (g : Graph) (root : ℕ) (new : List Row) (shape : Topology) → IsForest g root → HasGrown g root [] [] new shape → (a : ℕ) → a < length g → times a (nodes_of new) ≡ 1
all-once g root new shape forest has a within = ap (λ l. times a (nodes_of l)) has.rows_are ∙ ap (times a) (nodes_of-rows 0 [] has.tree) ∙ each_once g root has.tree forest has.is_tree has.root_is a within

pub sound : (g : Graph) (root : ℕ) (new : List Row) (shape : Topology) → IsForest g root → IsWithin g root most_levels 0 → length g < 2 ^ 32 → HasGrown g root [] [] new shape → IsSound new shape
sound g root new shape forest shallow small has = record {
  tree = has.tree;
  numbered = record { rows_are = has.rows_are; topology_is = has.topology_is };
  levels = (let r : depth has.tree + 0 ≤ most_levels = levels g has.tree 0 most_levels has.is_tree (subst (λ (x : ℕ). IsWithin g x most_levels 0) (sym has.root_is) shallow) in omega (arith, r));
  few = omega (arith, size-is g root has.tree forest has.is_tree has.root_is, small);
  branched = subst (λ (u : Topology). IsBranched u) (sym has.topology_is) (branched g has.tree has.is_tree);
}

-- the depth of a tree equals that of its topology
mutual
  pub depth-topology : (t : Tree ℕ) → depth (topology_of t) ≡ depth t
  depth-topology (leaf i) = refl
  depth-topology (inner i ts) = depth-topologies ts

  depth-topologies : (ts : Trees ℕ) → depth_below (topologies_of ts) ≡ depth_below ts
  depth-topologies none = refl
  depth-topologies (more t ts) = ap (λ k. max (k + 1) (depth_below (topologies_of ts))) (depth-topology t) ∙ ap (λ k. max (depth t + 1) k) (depth-topologies ts)

-- ---- in terms of the code
pub children-are : (all : List Row) (n : ℕ) (r : Row) (cs : List ℕ) → n < length all → r ≡ get_or all n r → cs ≡ r.children → cs ≡ children_at all n
children-are all n r cs short is own = own ∙ ap (λ (x : Row). x.children) (is ∙ get_or_default all n r (row 0 [] []) short)

pub child-found : (p : Numbered) (items : List Row) (shape : Topology) (r : Row) (cs : List ℕ) (k d : ℕ) → numbered items shape ≡ p → IsSound items shape → k < length p.rows → d < length (children_at p.rows k) → r ≡ get_or items k r → cs ≡ r.children
    → IsChildRow 0 p.rows k d (slice_index cs d)
child-found p items shape r cs k d view s short there is own =
    let same : items ≡ p.rows = ap (λ (q : Numbered). q.rows) view in
    let all : p.rows ≡ rows 0 [] s.tree = sym same ∙ s.numbered.rows_are in
    let here : cs ≡ children_at p.rows k = children-are items k r cs (omega (arith, short, ap length same)) is own ∙ ap (λ l. children_at l k) same in
    let found : IsChildRow 0 (rows 0 [] s.tree) k d (slice_index (children_at (rows 0 [] s.tree) k) d) = child-row 0 [] s.tree k d (omega (arith, short, ap length all)) (subst (λ (l : List Row). d < length (children_at l k)) all there) in
    let found' : IsChildRow 0 p.rows k d (slice_index (children_at p.rows k) d) = subst (λ (l : List Row). IsChildRow 0 l k d (slice_index (children_at l k) d)) (sym all) found in
    subst (λ (l : List ℕ). IsChildRow 0 p.rows k d (slice_index l d)) (sym here) found'

pub child-address : (all : List Row) (k d m : ℕ) → IsChildRow 0 all k d m → (row_at all m).address ≡ (row_at all k).address ++ d ∷ []
child-address all k d m c = (let e : m ≡ m - 0 = omega arith in ap (λ j. (row_at all j).address) e ∙ c.address)

pub leaf-found : (p : Numbered) (items : List Row) (shape : Topology) (k : ℕ) → numbered items shape ≡ p → IsSound items shape → k < length p.rows → (children_at p.rows k ≡ []) ↔ LeadsToLeaf p.topology (row_at p.rows k).address
leaf-found p items shape k view s short =
    let all : p.rows ≡ rows 0 [] s.tree = sym (ap (λ (q : Numbered). q.rows) view) ∙ s.numbered.rows_are in
    let top : p.topology ≡ topology_of s.tree = sym (ap (λ (q : Numbered). q.topology) view) ∙ s.numbered.topology_is in
    let at : (children_at (rows 0 [] s.tree) k ≡ []) ↔ LeadsToLeaf (topology_of s.tree) (row_at (rows 0 [] s.tree) k).address = leaf-address s.tree k (subst (λ (u : Topology). IsBranched u) s.numbered.topology_is s.branched) (omega (arith, short, ap length all)) in
    subst (λ (u : Topology). (children_at p.rows k ≡ []) ↔ LeadsToLeaf u (row_at p.rows k).address) (sym top)
    (subst (λ (l : List Row). (children_at l k ≡ []) ↔ LeadsToLeaf (topology_of s.tree) (row_at l k).address) (sym all) at)

pub levels-few : (items : List Row) (shape : Topology) → IsSound items shape → depth shape ≤ most_levels
levels-few items shape s = omega (arith, ap depth s.numbered.topology_is, depth-topology s.tree, s.levels)

pub rows-few : (items : List Row) (shape : Topology) → IsSound items shape → length items < 2 ^ 32
rows-few items shape s = omega (arith, ap length s.numbered.rows_are, length-rows 0 [] s.tree, s.few)

-- there are no rows before the root
pub grown-whole : (g : Graph) (root : ℕ) (new : List Row) (shape : Topology) (old : List Row) (a : List ℕ) → old ≡ [] → a ≡ [] → HasGrown g root a old new shape → HasGrown g root [] [] new shape
grown-whole g root new shape old a none_old none_above has =
    subst (λ (l : List Row). HasGrown g root [] l new shape) none_old (subst (λ (b : List ℕ). HasGrown g root b old new shape) none_above has)

test-empty : (cs : List ℕ) (b : Bool) → b ≡ nat_eq (length cs) 0 → IsTrue b ↔ (cs ≡ [])
test-empty [] b tested = ((λ _. refl), (λ _. tested))
test-empty (x ∷ cs) b tested = ((λ was. (let e : suc (length cs) ≡ 0 = eqb-true (suc (length cs)) 0 (sym tested ∙ was) in absurd (omega arith))), (λ none. (let e : suc (length cs) ≡ 0 = ap length none in absurd (omega arith))))

pub leaf-tested : (p : Numbered) (items : List Row) (shape : Topology) (r : Row) (cs : List ℕ) (k : ℕ) (b : Bool) → numbered items shape ≡ p → IsSound items shape → k < length p.rows → r ≡ get_or items k r → cs ≡ r.children → b ≡ nat_eq (length cs) 0
    → IsTrue b ↔ LeadsToLeaf p.topology (row_at p.rows k).address
leaf-tested p items shape r cs k b view s short is own tested =
    let same : items ≡ p.rows = ap (λ (q : Numbered). q.rows) view in
    let here : cs ≡ children_at p.rows k = children-are items k r cs (omega (arith, short, ap length same)) is own ∙ ap (λ l. children_at l k) same in
    let leaf : (children_at p.rows k ≡ []) ↔ LeadsToLeaf p.topology (row_at p.rows k).address = leaf-found p items shape k view s short in
    let test : IsTrue b ↔ (cs ≡ []) = test-empty cs b tested in
    ((λ was. leaf.0 (sym here ∙ test.0 was)), (λ leads. test.1 (here ∙ leaf.1 leads)))
