-- Consequences of the first node on a cycle and of the first deep node for the statements.
use Rattle.policy_core.proofs.Prelude.{List, ◌≡◌, ℕ, ap, sym, subst, ◌∙◌, arith, length, ◌<◌, true, ◌↔◌, Vec, ◌^◌, place-within, AreAcyclic, HaveRoot, AreShallow, root, IsLeastLine, AreRising, IsCyclic, IsDescendant, IsTooDeep, NamesLead, graph_of, Name, declared, node_name, has, place, Entry, most_levels, length-lists, Graph, lists, IsBelow, IsForest, IsDeep, IsLeast, AreInRange, AreParents, node_entries, line_at}
use Rattle.std.specs.declared.alloc.Global.{Global}
use Rattle.policy_core.proofs.Kinship.{length-names, length-graph}
use Rattle.policy_core.proofs.FamilyNames.{IsNamed, named}
use Rattle.policy_core.proofs.Descents.{graph-in-range, leads-same, leads-inside, descendants-same, below-inside}
use Rattle.policy_core.proofs.Forest.{forest}
use Rattle.policy_core.proofs.LeastLines.{least-line, no-line, no-number}

pub rooted-named : (es : List Entry) → AreRising es → HaveRoot es → IsNamed es
rooted-named es rising rooted = named es rising rooted.0.0.0

-- the root's number
abbrev pub root_at : List Entry → ℕ
root_at es = place (declared node_name es) root

abbrev IsFar : List Entry → Name → Type 0
IsFar es a = (k : ℕ) × (most_levels < k) × NamesLead es k root a

deep-same : (es : List Entry) → IsNamed es → has (declared node_name es) root ≡ true → (a : Name) → has (declared node_name es) a ≡ true → IsFar es a ↔ IsDeep (graph_of es) (root_at es) (place (declared node_name es) a)
deep-same es n rooted a there = (
  λ far. (far.0, far.1, (leads-same es far.0 root a n rooted there).0 far.2),
  λ deep. (deep.0, deep.1, (leads-same es deep.0 root a n rooted there).1 deep.2),
)

cyclic-same : (es : List Entry) → IsNamed es → (a : Name) → has (declared node_name es) a ≡ true → IsDescendant es a a ↔ IsBelow (graph_of es) (place (declared node_name es) a) (place (declared node_name es) a)
cyclic-same es n a there = descendants-same es a a n there there

-- ---- laws of the graph

pub is-forest : (es : List Entry) → AreRising es → AreAcyclic es → IsForest (graph_of es) (root_at es)
is-forest es rising h = forest es n h.0.0.1 h.0.1 (λ a way. no-number es n (λ b. IsDescendant es b b) (λ i. IsBelow (graph_of es) i i) (cyclic-same es n) h.1 a (omega (arith, below-inside es a a way, length-graph es)) way)
  where
    n : IsNamed es
    n = rooted-named es rising h.0

pub is-shallow : (es : List Entry) → AreRising es → AreShallow es → (a : ℕ) → IsDeep (graph_of es) (root_at es) a → ⊥
is-shallow es rising h a deep =
    let n : IsNamed es = rooted-named es rising h.0.0 in
    let top : root_at es < length (declared node_name es) = place-within (declared node_name es) root h.0.0.1 in
    let inside : a < length (node_entries es) = leads-inside es deep.0 (root_at es) a n (omega (arith, top, length-names es)) deep.2 in
    no-number es n (IsFar es) (IsDeep (graph_of es) (root_at es)) (deep-same es n h.0.0.1) h.1 a inside deep

-- ---- results found in the graph

module _ (es : List Entry) (rising : AreRising es) (rooted : HaveRoot es) (g : List (Vec ℕ Global)) (is : lists g ≡ graph_of es) where
  pub graph-range : AreInRange (lists g)
  graph-range = subst (λ (k : Graph). AreInRange k) (sym is) (graph-in-range es (rooted-named es rising rooted))

  pub graph-nodes : length g ≡ length (node_entries es)
  graph-nodes = sym (length-lists g) ∙ ap length is ∙ length-graph es

  pub cycle-line : (n : ℕ) → IsLeast (length g) (λ a. IsBelow (lists g) a a) n → IsLeastLine (IsCyclic es) es (line_at es n)
  cycle-line n least = least-line es (rooted-named es rising rooted) (λ b. IsDescendant es b b) (λ i. IsBelow (graph_of es) i i) (cyclic-same es (rooted-named es rising rooted)) rising (length g) n graph-nodes
      (subst (λ (k : Graph). IsLeast (length g) (λ a. IsBelow k a a) n) is least)

  pub no-cycle : ((a : ℕ) → a < length g → IsBelow (lists g) a a → ⊥) → AreAcyclic es
  no-cycle none = (
    rooted,
    no-line es (rooted-named es rising rooted) (λ b. IsDescendant es b b) (λ i. IsBelow (graph_of es) i i) (cyclic-same es (rooted-named es rising rooted))
        (λ i inside. subst (λ (k : Graph). IsBelow k i i → ⊥) is (none i (omega (arith, inside, graph-nodes)))),
  )

  pub graph-forest : AreAcyclic es → (r : ℕ) → r ≡ root_at es → IsForest (lists g) r
  graph-forest acyclic r at = subst (λ (k : Graph). IsForest k r) (sym is) (subst (λ (a : ℕ). IsForest (graph_of es) a) (sym at) (is-forest es rising acyclic))

  pub deep-line : (r m n : ℕ) → r ≡ root_at es → m ≡ length g → IsLeast m (IsDeep (lists g) r) n → IsLeastLine (IsTooDeep es) es (line_at es n)
  deep-line r m n at all least = least-line es (rooted-named es rising rooted) (IsFar es) (IsDeep (graph_of es) (root_at es)) (deep-same es (rooted-named es rising rooted) rooted.1) rising m n (all ∙ graph-nodes)
      (subst (λ (a : ℕ). IsLeast m (IsDeep (graph_of es) a) n) at (subst (λ (k : Graph). IsLeast m (IsDeep k r) n) is least))

  pub no-deep : AreAcyclic es → (r m : ℕ) → r ≡ root_at es → m ≡ length g → ((a : ℕ) → a < m → IsDeep (lists g) r a → ⊥) → AreShallow es
  no-deep acyclic r m at all none = (
    acyclic,
    no-line es (rooted-named es rising rooted) (IsFar es) (IsDeep (graph_of es) (root_at es)) (deep-same es (rooted-named es rising rooted) rooted.1)
        (λ i inside. subst (λ (a : ℕ). IsDeep (graph_of es) a i → ⊥) at (subst (λ (k : Graph). IsDeep k r i → ⊥) is (none i (omega (arith, inside, all, graph-nodes))))),
  )

  pub graph-small : length g < 2 ^ 32
  graph-small = (let n : IsNamed es = rooted-named es rising rooted in omega (arith, n.few, length-names es, graph-nodes))

  pub parents-all : (parents : List ℕ) → AreParents (lists g) parents → length parents ≡ length g
  parents-all parents are = are.len ∙ length-lists g

  pub root-is : (names : List Name) (r : ℕ) → names ≡ declared node_name es → r ≡ place names root → r ≡ root_at es
  root-is names r are at = at ∙ ap (λ ns. place ns root) are
