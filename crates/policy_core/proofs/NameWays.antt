-- The paths of names down a tree.
use Rattle.policy_core.proofs.Prelude.{List, ◌≡◌, ℕ, ap, sym, subst, [], ◌∙◌, arith, length, ◌<◌, ◌∷◌, refl, get_or, suc, true, Some, zero, ◌++◌, Option, Any, IsSomeAnd, Node, node_at, node_below, NoLine, IsCyclic, IsDescendant, NamesLead, Name, declared, node_name, has, IsTreeIn, AreTreesIn, IsInnerOf, IsLeafOf, names_of, Entry, Sense, Tree, Trees, inner, more, none, Address, root_of}
use Rattle.tree_defs.specs.Tree.{leaf as leaf_of}
use Rattle.policy_rules.specs.Names.{children}
use Rattle.policy_core.proofs.PlacePrograms.{none-some, some-same}
use Rattle.policy_core.proofs.Statements.{declared-there}
use Rattle.policy_core.proofs.OneTree.{leaf-name, inner-name, inner-children}

-- a name is at an index of a list
pub record StandsAt (names : List Name) (i : ℕ) (x : Name) : Type 0 where
  pub within : i < length names
  pub is : get_or names i x ≡ x

-- the statement that declares a lists b as the child at an index
abbrev pub ListsAt : List Entry → Name → ℕ → Name → Type 0
ListsAt es a i b = Any (λ (e : Entry). (node_name e.1 ≡ Some a) × StandsAt (children e.1) i b) es

-- the root is at the empty address
pub at-top : (t : Tree Node) (n : Node) → node_at t [] ≡ Some n → root_of t ≡ n
at-top (leaf_of m) n at = some-same at
at-top (inner m ts) n at = some-same at

inner-lists : (es : List Entry) (n : Node) (names : List Name) (i : ℕ) (x : Name) → Any (λ (e : Entry). IsInnerOf es n names e.1) es → StandsAt names i x → ListsAt es n.name i x
inner-lists es n names i x (k, e, within, is, said) stands =
    (k, e, within, is, (inner-name es n names e.1 said, subst (λ (l : List Name). StandsAt l i x) (inner-children es n names e.1 said) stands))

-- ---- the node at an address is declared
declares-named : (es : List Entry) (n : Node) (P : Sense → Type 0) → ((s : Sense) → P s → node_name s ≡ Some n.name) → Any (λ (e : Entry). P e.1) es → has (declared node_name es) n.name ≡ true
declares-named es n P name (k, e, within, is, p) = declared-there node_name es k e n.name within (subst (λ (f : Entry). node_name f.1 ≡ Some n.name) (sym is) (name e.1 p))

mutual
  pub node-declared : (es : List Entry) (t : Tree Node) (a : Address) (n : Node) → IsTreeIn es t → node_at t a ≡ Some n → has (declared node_name es) n.name ≡ true
  node-declared es (leaf_of m) [] n said at = subst (λ (x : Node). has (declared node_name es) x.name ≡ true) (some-same at) (declares-named es m (IsLeafOf es m) (leaf-name es m) said)
  node-declared es (leaf_of m) (i ∷ a) n said at = absurd (none-some at)
  node-declared es (inner m ts) [] n said at = subst (λ (x : Node). has (declared node_name es) x.name ≡ true) (some-same at) (declares-named es m (IsInnerOf es m (names_of ts)) (inner-name es m (names_of ts)) said.0)
  node-declared es (inner m ts) (i ∷ a) n said at = nodes-declared es ts i a n said.1 at

  nodes-declared : (es : List Entry) (ts : Trees Node) (i : ℕ) (a : Address) (n : Node) → AreTreesIn es ts → node_below ts i a ≡ Some n → has (declared node_name es) n.name ≡ true
  nodes-declared es none i a n said at = absurd (none-some at)
  nodes-declared es (more t ts) zero a n said at = node-declared es t a n said.0 at
  nodes-declared es (more t ts) (suc i) a n said at = nodes-declared es ts i a n said.1 at

-- ---- the last step: the node above lists the node below
at-child : (ts : Trees Node) (i : ℕ) (n : Node) → node_below ts i [] ≡ Some n → StandsAt (names_of ts) i n.name
at-child none i n at = absurd (none-some at)
at-child (more t ts) zero n at = record { within = omega arith; is = ap (λ (m : Node). m.name) (at-top t n at) }
at-child (more t ts) (suc i) n at = (let r : StandsAt (names_of ts) i n.name = at-child ts i n at in record { within = omega (arith, r.within); is = r.is })

-- a node is at an address and lists a name at an index
pub record IsAbove (es : List Entry) (o : Option Node) (i : ℕ) (x : Name) : Type 0 where
  pub upper : Node
  pub at : o ≡ Some upper
  pub lists : ListsAt es upper.name i x

mutual
  pub last-step : (es : List Entry) (t : Tree Node) (a : Address) (i : ℕ) (n : Node) → IsTreeIn es t → node_at t (a ++ i ∷ []) ≡ Some n → IsAbove es (node_at t a) i n.name
  last-step es (leaf_of m) [] i n said at = absurd (none-some at)
  last-step es (leaf_of m) (j ∷ a) i n said at = absurd (none-some at)
  last-step es (inner m ts) [] i n said at = record { upper = m; at = refl; lists = inner-lists es m (names_of ts) i n.name said.0 (at-child ts i n at) }
  last-step es (inner m ts) (j ∷ a) i n said at = last-step_below es ts j a i n said.1 at

  last-step_below : (es : List Entry) (ts : Trees Node) (j : ℕ) (a : Address) (i : ℕ) (n : Node) → AreTreesIn es ts → node_below ts j (a ++ i ∷ []) ≡ Some n → IsAbove es (node_below ts j a) i n.name
  last-step_below es none j a i n said at = absurd (none-some at)
  last-step_below es (more t ts) zero a i n said at = last-step es t a i n said.0 at
  last-step_below es (more t ts) (suc j) a i n said at = last-step_below es ts j a i n said.1 at

-- ---- all steps: the names lead down
-- a name leads in some steps to the node at the address below
record IsLed (es : List Entry) (names : List Name) (k : ℕ) (x : Name) : Type 0 where
  place : ℕ
  child : Name
  stands : StandsAt names place child
  leads : NamesLead es k child x

mutual
  pub way-down : (es : List Entry) (t : Tree Node) (a : Address) (n : Node) → IsTreeIn es t → node_at t a ≡ Some n → NamesLead es (length a) (root_of t).name n.name
  way-down es (leaf_of m) [] n said at = ap (λ (x : Node). x.name) (some-same at)
  way-down es (leaf_of m) (i ∷ a) n said at = absurd (none-some at)
  way-down es (inner m ts) [] n said at = ap (λ (x : Node). x.name) (some-same at)
  way-down es (inner m ts) (i ∷ a) n said at =
      let led : IsLed es (names_of ts) (length a) n.name = way-below es ts i a n said.1 at in
      let lists : ListsAt es m.name led.place led.child = inner-lists es m (names_of ts) led.place led.child said.0 led.stands in
      (led.child, (lists.0, lists.1, lists.2, lists.3, (lists.4.0, (led.place, lists.4.1.within, lists.4.1.is))), led.leads)

  way-below : (es : List Entry) (ts : Trees Node) (i : ℕ) (a : Address) (n : Node) → AreTreesIn es ts → node_below ts i a ≡ Some n → IsLed es (names_of ts) (length a) n.name
  way-below es none i a n said at = absurd (none-some at)
  way-below es (more t ts) zero a n said at = record { place = 0; child = (root_of t).name; stands = record { within = omega arith; is = refl }; leads = way-down es t a n said.0 at }
  way-below es (more t ts) (suc i) a n said at =
      let led : IsLed es (names_of ts) (length a) n.name = way-below es ts i a n said.1 at in
      record { place = suc led.place; child = led.child; stands = record { within = omega (arith, led.stands.within); is = led.stands.is }; leads = led.leads }

-- ---- no name occurs again below itself
no-way_back : (es : List Entry) (x : Name) → NoLine (IsCyclic es) es → Any (λ (e : Entry). node_name e.1 ≡ Some x) es → IsDescendant es x x → ⊥
no-way_back es x acyclic (k, e, within, is, name) below =
    acyclic k e within (subst (λ (o : Option Name). IsSomeAnd o (λ a. IsDescendant es a a)) (sym name ∙ ap (λ (f : Entry). node_name f.1) (sym is)) below)

-- below the root of a tree no node has its name
pub no-second_root : (es : List Entry) (t : Tree Node) (i : ℕ) (a : Address) (n : Node) → NoLine (IsCyclic es) es → IsTreeIn es t → node_at t (i ∷ a) ≡ Some n → n.name ≡ (root_of t).name → ⊥
no-second_root es t i a n acyclic said at same =
    let down : NamesLead es (suc (length a)) (root_of t).name n.name = way-down es t (i ∷ a) n said at in
    no-way_back es (root_of t).name acyclic (lister es (root_of t).name down) (length a, subst (NamesLead es (suc (length a)) (root_of t).name) same down)
  where
    lister : (es : List Entry) (x : Name) → NamesLead es (suc (length a)) x n.name → Any (λ (e : Entry). node_name e.1 ≡ Some x) es
    lister es x (m, (k, e, within, is, (name, lists)), rest) = (k, e, within, is, name)
