-- The nodes and leaves at the addresses of rows.
use Rattle.policy_core.proofs.Prelude.{◌≡◌, ℕ, ap, sym, subst, [], ◌∙◌, arith, length, ◌<◌, ◌∷◌, refl, suc, Some, zero, ◌++◌, inl, inr, ◌+◌, length-append, append-nil, append_assoc, ◌-◌, cases_lt, Node, node_at, node_below, Tree, Trees, inner, more, none, Address, nodes, LeadsToLeaf, LeadsBelow, Graph, IsTreeOf, rows, AreTreesOf, labels, rows_below, Row, row_at, map_tree, map_trees}
use Rattle.tree_defs.specs.Tree.{leaf}
use Rattle.tree_graph.specs.Descent.{children}
use Rattle.tree_graph.proofs.PreorderLaws.{at-first, at-second}

-- a row's address leads from a node to the row's own, which is a leaf if it has no children in the
-- graph
pub record IsNodeRow (g : Graph) (f : ℕ → Node) (t : Tree ℕ) (a : Address) (r : Row) : Type 0 where
  pub rest : Address
  pub address : r.address ≡ a ++ rest
  pub node : node_at (map_tree f t) rest ≡ Some (f r.node)
  pub childless : children g r.node ≡ [] → LeadsToLeaf (map_tree f t) rest

record IsNodeRowBelow (g : Graph) (f : ℕ → Node) (ts : Trees ℕ) (a : Address) (e : ℕ) (r : Row) : Type 0 where
  digit : ℕ
  rest : Address
  address : r.address ≡ a ++ (e + digit) ∷ rest
  node : node_below (map_trees f ts) digit rest ≡ Some (f r.node)
  childless : children g r.node ≡ [] → LeadsBelow (map_trees f ts) digit rest

some-child : (g : Graph) (i : ℕ) (t : Tree ℕ) (ts : Trees ℕ) → labels (more t ts) ≡ children g i → children g i ≡ [] → ⊥
some-child g i t ts own childless = (let e : suc (length (labels ts)) ≡ 0 = ap length own ∙ ap length childless in absurd (omega arith))

-- a row below the siblings from the first on is below their parent
below-first : (g : Graph) (f : ℕ → Node) (i : ℕ) (t : Tree ℕ) (ts : Trees ℕ) (a : Address) (r : Row) → IsNodeRowBelow g f (more t ts) a 0 r → IsNodeRow g f (inner i (more t ts)) a r
below-first g f i t ts a r p =
    let digit : 0 + p.digit ≡ p.digit = omega arith in
    record { rest = p.digit ∷ p.rest; address = p.address ∙ ap (λ d. a ++ d ∷ p.rest) digit; node = p.node; childless = p.childless }

-- a row of the first child, or of a later one
child-first : (g : Graph) (f : ℕ → Node) (t : Tree ℕ) (ts : Trees ℕ) (a : Address) (e : ℕ) (r : Row) → IsNodeRow g f t (a ++ e ∷ []) r → IsNodeRowBelow g f (more t ts) a e r
child-first g f t ts a e r p =
    let digit : e ≡ e + 0 = omega arith in
    record { digit = 0; rest = p.rest; address = p.address ∙ append_assoc a (e ∷ []) p.rest ∙ ap (λ d. a ++ d ∷ p.rest) digit; node = p.node; childless = p.childless }

child-later : (g : Graph) (f : ℕ → Node) (t : Tree ℕ) (ts : Trees ℕ) (a : Address) (e : ℕ) (r : Row) → IsNodeRowBelow g f ts a (e + 1) r → IsNodeRowBelow g f (more t ts) a e r
child-later g f t ts a e r p =
    let digit : e + 1 + p.digit ≡ e + suc p.digit = omega arith in
    record { digit = suc p.digit; rest = p.rest; address = p.address ∙ ap (λ d. a ++ d ∷ p.rest) digit; node = p.node; childless = p.childless }

mutual
  pub node-row : (g : Graph) (f : ℕ → Node) (n : ℕ) (a : Address) (t : Tree ℕ) (k : ℕ) → IsTreeOf g t → k < length (rows n a t) → IsNodeRow g f t a (row_at (rows n a t) k)
  node-row g f n a (leaf i) zero h short = record { rest = []; address = sym (append-nil a); node = refl; childless = λ _. tt }
  node-row g f n a (leaf i) (suc k) h short = absurd (omega arith)
  node-row g f n a (inner i none) k h short = absurd h.0
  node-row g f n a (inner i (more t ts)) zero h short =
      record { rest = []; address = sym (append-nil a); node = refl; childless = λ none. absurd (some-child g i t ts h.1 none) }
  node-row g f n a (inner i (more t ts)) (suc k) h short = below-first g f i t ts a _ (node-row_below g f (n + 1) a 0 (more t ts) k h.2 (omega arith))

  node-row_below : (g : Graph) (f : ℕ → Node) (n : ℕ) (a : Address) (e : ℕ) (ts : Trees ℕ) (k : ℕ) → AreTreesOf g ts → k < length (rows_below n a e ts) → IsNodeRowBelow g f ts a e (row_at (rows_below n a e ts) k)
  node-row_below g f n a e none k h short = absurd (omega arith)
  node-row_below g f n a e (more t ts) k h short = elim (cases_lt k (length (rows n (a ++ e ∷ []) t))) [
    | inl first ↦ subst (IsNodeRowBelow g f (more t ts) a e) (sym (at-first (rows n (a ++ e ∷ []) t) (rows_below (n + nodes t) a (e + 1) ts) k first))
        (child-first g f t ts a e _ (node-row g f n (a ++ e ∷ []) t k h.0 first))
    | inr second ↦ (
        let k' : ℕ = k - length (rows n (a ++ e ∷ []) t) in
        let here : k ≡ length (rows n (a ++ e ∷ []) t) + k' = omega (arith, second) in
        let short' : k' < length (rows_below (n + nodes t) a (e + 1) ts) = omega (arith, here, short, length-append (rows n (a ++ e ∷ []) t) (rows_below (n + nodes t) a (e + 1) ts)) in
        subst (IsNodeRowBelow g f (more t ts) a e) (sym (ap (row_at (rows n (a ++ e ∷ []) t ++ rows_below (n + nodes t) a (e + 1) ts)) here ∙ at-second (rows n (a ++ e ∷ []) t) (rows_below (n + nodes t) a (e + 1) ts) k'))
        (child-later g f t ts a e _ (node-row_below g f (n + nodes t) a (e + 1) ts k' h.1 short')))
  ]

-- the row of a whole tree
pub record IsNodeAt (g : Graph) (f : ℕ → Node) (t : Tree ℕ) (r : Row) : Type 0 where
  pub node : node_at (map_tree f t) r.address ≡ Some (f r.node)
  pub childless : children g r.node ≡ [] → LeadsToLeaf (map_tree f t) r.address

pub node-of_row : (g : Graph) (f : ℕ → Node) (t : Tree ℕ) (k : ℕ) → IsTreeOf g t → k < length (rows 0 [] t) → IsNodeAt g f t (row_at (rows 0 [] t) k)
node-of_row g f t k h short =
    let p : IsNodeRow g f t [] (row_at (rows 0 [] t) k) = node-row g f 0 [] t k h short in
    record {
      node = ap (node_at (map_tree f t)) p.address ∙ p.node;
      childless = λ none. subst (LeadsToLeaf (map_tree f t)) (sym p.address) (p.childless none);
    }
