-- Descendants by name and by number.
use Rattle.policy_core.proofs.Prelude.{List, ◌≡◌, ℕ, ap, sym, subst, [], ◌∙◌, arith, length, ◌<◌, get_or, suc, true, Some, map, zero, inl, inr, Contains, ◌↔◌, get_or-eq_default, cases_lt, list_all, place-within, at-place, IsDescendant, NamesLead, ListsChild, graph_of, Name, declared, node_name, has, place, Entry, IsBelow, AreInRange, IsChild, Leads, node_entries}
use Rattle.policy_rules.specs.Names.{children}
use Rattle.tree_graph.specs.Descent.{children as kids}
use Rattle.policy_core.proofs.NumberedPlaces.{only-place, all-at, Contains-map, Contains-map_back}
use Rattle.policy_core.proofs.Kinship.{IsNodeAt, node-of, node-was, node-at, name-at, name_of, kids-at, some-name, length-names, length-graph}
use Rattle.policy_core.proofs.FamilyNames.{IsNamed, some-entry}

-- ---- a child by name is one by number

-- the index of a node's own name
pub own-place : (es : List Entry) (i : ℕ) (e : Entry) (a : Name) → IsNamed es → IsNodeAt es i e → node_name e.1 ≡ Some a → place (declared node_name es) a ≡ i
own-place es i e a named at name =
    let inside : i < length (node_entries es) = at.within in
    only-place (declared node_name es) i a named.distinct (omega (arith, inside, length-names es)) (name-at es i e a at ∙ (some-name e a name).1)

child-up : (es : List Entry) (a b : Name) → IsNamed es → ListsChild es a b → IsChild (graph_of es) (place (declared node_name es) a) (place (declared node_name es) b)
child-up es a b named h =
    let n : (i : ℕ) × IsNodeAt es i h.1 = node-of es h.0 h.1 a h.2 h.3 h.4.0 in
    subst (λ (i : ℕ). IsChild (graph_of es) i (place (declared node_name es) b)) (sym (own-place es n.0 h.1 a named n.1 h.4.0))
    (subst (λ (l : List ℕ). Contains l (place (declared node_name es) b)) (sym (kids-at es n.0 h.1 n.1)) (Contains-map (place (declared node_name es)) (children h.1.1) b h.4.1))

-- ---- a child by number is one by name

-- the child at a number, and its name
record IsChildOf (es : List Entry) (e : Entry) (j : ℕ) : Type 0 where
  child : Name
  listed : Contains (children e.1) child
  known : has (declared node_name es) child ≡ true
  at : place (declared node_name es) child ≡ j

child-of : (es : List Entry) (i j : ℕ) (e : Entry) → IsNamed es → IsNodeAt es i e → IsChild (graph_of es) i j → IsChildOf es e j
child-of es i j e named at step =
    let names : List Name = declared node_name es in
    let there : Contains (map (place names) (children e.1)) j = subst (λ (l : List ℕ). Contains l j) (kids-at es i e at) step in
    let b : (x : Name) × Contains (children e.1) x × (place names x ≡ j) = Contains-map_back (place names) (children e.1) j there in
    let line : Contains es e = (node-was es i e at).0 in
    let all : list_all (has names) (children e.1) ≡ true = subst (λ (f : Entry). list_all (has names) (children f.1) ≡ true) line.2 (named.known line.0 e line.1) in
    record { child = b.0; listed = b.1; known = all-at (has names) (children e.1) b.1.0 b.0 all b.1.1 (sym b.1.2); at = b.2 }

child-down : (es : List Entry) (i j : ℕ) → IsNamed es → i < length (node_entries es) → IsChild (graph_of es) i j → ListsChild es (get_or (declared node_name es) i []) (get_or (declared node_name es) j [])
child-down es i j named inside step =
    let names : List Name = declared node_name es in
    let e : Entry = get_or (node_entries es) i some-entry in
    let at : IsNodeAt es i e = node-at es i some-entry inside in
    let was = node-was es i e at in
    let c : IsChildOf es e j = child-of es i j e named at step in
    let name_j : get_or names j [] ≡ c.child = ap (λ k. get_or names k []) (sym c.at) ∙ at-place names c.child [] c.known in
    subst (λ (x : Name). ListsChild es x (get_or names j [])) (sym (name-at es i e [] at))
    (subst (λ (y : Name). ListsChild es (name_of e) y) (sym name_j) (was.0.0, e, was.0.1, was.0.2, (was.1, c.listed)))

child-inside : (es : List Entry) (i j : ℕ) → IsNamed es → i < length (node_entries es) → IsChild (graph_of es) i j → j < length (node_entries es)
child-inside es i j named inside step =
    let e : Entry = get_or (node_entries es) i some-entry in
    let c : IsChildOf es e j = child-of es i j e named (node-at es i some-entry inside) step in
    let within : place (declared node_name es) c.child < length (declared node_name es) = place-within (declared node_name es) c.child c.known in
    let at : place (declared node_name es) c.child ≡ j = c.at in
    omega (arith, within, at, length-names es)

parent-inside : (es : List Entry) (i j : ℕ) → IsChild (graph_of es) i j → i < length (node_entries es)
parent-inside es i j step = elim (cases_lt i (length (node_entries es))) [
  | inl short ↦ short
  | inr long ↦ (let none : kids (graph_of es) i ≡ [] = get_or-eq_default (graph_of es) [] (omega (arith, long, length-graph es)) in
      let at : step.0 < length (kids (graph_of es) i) = step.1 in
      let empty : length (kids (graph_of es) i) ≡ 0 = ap length none in
      absurd (omega arith))
]

pub graph-in-range : (es : List Entry) → IsNamed es → AreInRange (graph_of es)
graph-in-range es named i j step = (let inside : j < length (node_entries es) = child-inside es i j named (parent-inside es i j step) step in omega (arith, inside, length-graph es))

-- ---- steps

pub leads-up : (es : List Entry) (k : ℕ) (a b : Name) → IsNamed es → NamesLead es k a b → Leads (graph_of es) k (place (declared node_name es) a) (place (declared node_name es) b)
leads-up es zero a b named same = ap (place (declared node_name es)) same
leads-up es (suc k) a b named way = (place (declared node_name es) way.0, child-up es a way.0 named way.1, leads-up es k way.0 b named way.2)

leads-down : (es : List Entry) (k i j : ℕ) → IsNamed es → i < length (node_entries es) → Leads (graph_of es) k i j → NamesLead es k (get_or (declared node_name es) i []) (get_or (declared node_name es) j [])
leads-down es zero i j named inside same = ap (λ n. get_or (declared node_name es) n []) same
leads-down es (suc k) i j named inside way =
    (get_or (declared node_name es) way.0 [], child-down es i way.0 named inside way.1, leads-down es k way.0 j named (child-inside es i way.0 named inside way.1) way.2)

-- the end of a path is a node if its start is one
pub leads-inside : (es : List Entry) (k i j : ℕ) → IsNamed es → i < length (node_entries es) → Leads (graph_of es) k i j → j < length (node_entries es)
leads-inside es zero i j named inside same = subst (λ (n : ℕ). n < length (node_entries es)) same inside
leads-inside es (suc k) i j named inside way = leads-inside es k way.0 j named (child-inside es i way.0 named inside way.1) way.2

-- the same number of steps, by name and by number
pub leads-same : (es : List Entry) (k : ℕ) (a b : Name) → IsNamed es → has (declared node_name es) a ≡ true → has (declared node_name es) b ≡ true
    → NamesLead es k a b ↔ Leads (graph_of es) k (place (declared node_name es) a) (place (declared node_name es) b)
leads-same es k a b named there also = (
  leads-up es k a b named,
  λ way.
      (let names : List Name = declared node_name es in
      let within : place names a < length names = place-within names a there in
      subst (λ (x : Name). NamesLead es k x b) (at-place names a [] there)
      (subst (λ (y : Name). NamesLead es k (get_or names (place names a) []) y) (at-place names b [] also)
      (leads-down es k (place names a) (place names b) named (omega (arith, within, length-names es)) way))),
)

pub descendants-same : (es : List Entry) (a b : Name) → IsNamed es → has (declared node_name es) a ≡ true → has (declared node_name es) b ≡ true
    → IsDescendant es a b ↔ IsBelow (graph_of es) (place (declared node_name es) a) (place (declared node_name es) b)
descendants-same es a b named there also = (
  λ way. (way.0, (leads-same es (suc way.0) a b named there also).0 way.1),
  λ way. (way.0, (leads-same es (suc way.0) a b named there also).1 way.1),
)

-- a node that is below or above any node is a node
pub below-inside : (es : List Entry) (i j : ℕ) → IsBelow (graph_of es) i j → i < length (graph_of es)
below-inside es i j way = (let inside : i < length (node_entries es) = parent-inside es i way.1.0 way.1.1 in omega (arith, inside, length-graph es))
