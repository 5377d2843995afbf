-- The states of the nodes at the start.
use Rattle.sched_core.proofs.Prelude.{◌≡◌, ap, ◌∙◌, sym, ℕ, List, length, subst, Some, ◌<◌, [], refl, ◌∷◌, Option, None, ◌+◌, suc, zero, ◌++◌, ◌^◌, length-append, option_map_or, slice_get, IsSomeAnd, Err, IfOk, Ok, Result, address-undone, number-undone, address_at, HasFewChildren, number_at, Node, node_at, HasRoom, state_of, BelongsTo, children_of, NodeState, Program, IsStateInRange, SameState, State, first_state, Child, first_states, no_state, topology_of, Topology, Tree, Address, nodes, IsAddressOf, root_of, part_at, HaveValues, AreNodeStates, IsNodeStateOf, arity, Keeps}
use Rattle.sched_core.proofs.TreeParts.{some-is, some-and, part-is, part-known, node-of_part}
use Rattle.sched_core.proofs.ChildCounts.{arity-told, shape-there, few-children}

module _ (tree : Tree Node) (node : ℕ) (within : node < nodes tree) where
  abbrev here : Tree Node
  here = part_at tree (address_at tree node)

  there : IsAddressOf tree (address_at tree node)
  there = (address-undone tree node within).there

  pub program-of : (p q : Program) → p ≡ q → IsSomeAnd (node_at tree (address_at tree node)) (λ n. q ≡ n.program) → p ≡ (root_of (part_at tree (address_at tree node))).program
  program-of p q same is = same ∙ some-and _ _ (λ n. q ≡ n.program) (node-of_part tree (address_at tree node) here (part-is tree (address_at tree node) there)) is

  module _ (a : Address) (at : a ≡ address_at tree node) (t : Topology) (is : t ≡ topology_of tree) where
    pub shape-has : IsAddressOf t a
    shape-has = shape-there tree a t (subst (IsAddressOf tree) (sym at) there) is

    pub arity-is : arity (part_at t a) ≡ arity (part_at tree (address_at tree node))
    arity-is = ap (λ (b : Address). arity (part_at t b)) at ∙ arity-told tree (address_at tree node) t there is

    pub fits : (n : ℕ) → HasFewChildren tree → Some n ≡ arity (part_at t a) → n < 2 ^ 32
    fits n few told = few-children tree (address_at tree node) n there few (told ∙ arity-is)

module _ {E : Type 0} (t : Tree Node) (p : Program) (program : p ≡ (root_of t).program) where
  pub inner-node_state : (r : Result NodeState E) (n : ℕ) → Some n ≡ arity t → IfOk r (λ x. IsStateInRange p (state_of x)) → IfOk r (λ x. children_of x ≡ Some n) → IfOk r (λ x. (i : ℕ) → i < n → HasRoom x (Child i)) → IfOk r (IsNodeStateOf t)
  inner-node_state (Ok x) n is in_range children room = record {
    in_range = subst (λ (q : Program). IsStateInRange q (state_of x)) program in_range;
    children = children ∙ is;
    room = λ i belongs. room i (subst (λ (o : Option ℕ). BelongsTo o (Child i)) (sym is) belongs);
  }
  inner-node_state (Err e) n is in_range children room = tt

  pub leaf-node_state : (r : Result NodeState E) → None ≡ arity t → IfOk r (λ x. IsStateInRange p (state_of x)) → IfOk r (λ x. children_of x ≡ None) → IfOk r (IsNodeStateOf t)
  leaf-node_state (Ok x) is in_range children = record {
    in_range = subst (λ (q : Program). IsStateInRange q (state_of x)) program in_range;
    children = children ∙ is;
    room = λ i belongs. absurd (subst (λ (o : Option ℕ). BelongsTo o (Child i)) (sym is) belongs);
  }
  leaf-node_state (Err e) is in_range children = tt

  pub first-values : (r : Result NodeState E) → IfOk r (λ x. SameState (state_of x) (first_state p)) → IfOk r (λ x. SameState (state_of x) (first_state (root_of t).program))
  first-values r h = subst (λ (q : Program). IfOk r (λ x. SameState (state_of x) (first_state q))) program h

-- ---- one after another
pub record IsFirstState (tree : Tree Node) (k : ℕ) (x : NodeState) : Type 0 where
  pub node_state : IsNodeStateOf (part_at tree (address_at tree k)) x
  pub first : SameState (state_of x) (first_state (root_of (part_at tree (address_at tree k))).program)

pub record AreFirst (tree : Tree Node) (states : List NodeState) (n : ℕ) : Type 0 where
  pub count : length states ≡ n
  pub each : (k : ℕ) (x : NodeState) → slice_get states k ≡ Some x → IsFirstState tree k x

pub last-cases : {X P : Type 0} (xs : List X) (k : ℕ) (y x : X) → slice_get (xs ++ y ∷ []) k ≡ Some x → (slice_get xs k ≡ Some x → P) → (k ≡ length xs → y ≡ x → P) → P
last-cases [] zero y x e old new = new refl (some-is e)
last-cases [] (suc k) y x e old new = (let f : None ≡ Some x = e in cc)
last-cases (z ∷ xs) zero y x e old new = old e
last-cases (z ∷ xs) (suc k) y x e old new = last-cases xs k y x e old (λ q. new (ap suc q))

pub first-begun : (tree : Tree Node) (states : List NodeState) → states ≡ [] → AreFirst tree states 0
first-begun tree [] e = record { count = refl; each = λ k x at. (let f : None ≡ Some x = at in cc) }
first-begun tree (y ∷ states) e = cc

pub first-more : (tree : Tree Node) (states more : List NodeState) (n : ℕ) (y : NodeState) → AreFirst tree states n → more ≡ states ++ y ∷ [] → IsNodeStateOf (part_at tree (address_at tree n)) y
    → SameState (state_of y) (first_state (root_of (part_at tree (address_at tree n))).program) → AreFirst tree more (n + 1)
first-more tree states more n y h is node_state first = record { count = ap length is ∙ length-append states (y ∷ []) ∙ ap (λ m. m + 1) h.count; each = each }
  where
    each : (k : ℕ) (x : NodeState) → slice_get more k ≡ Some x → IsFirstState tree k x
    each k x at = last-cases states k y x (ap (λ (l : List NodeState). slice_get l k) (sym is) ∙ at) (h.each k x)
        (λ last same. subst (λ (j : ℕ). IsFirstState tree j x) (sym (last ∙ h.count)) (subst (λ (z : NodeState). IsFirstState tree n z) same (record { node_state = node_state; first = first })))

module _ (tree : Tree Node) (states : List NodeState) (h : AreFirst tree states (nodes tree)) where
  at-address : (a : Address) (x : NodeState) → IsAddressOf tree a → Keeps tree states a x → IsFirstState tree (number_at tree a) x
  at-address a x p keeps = h.each (number_at tree a) x keeps

  back : (a : Address) → IsAddressOf tree a → address_at tree (number_at tree a) ≡ a
  back a p = (number-undone tree a p.0 p.1).address

  pub first-node_states : AreNodeStates tree states
  first-node_states = record {
    count = h.count;
    each = λ a t x e keeps. subst (λ (u : Tree Node). IsNodeStateOf u x) (ap (part_at tree) (back a (t, e)) ∙ part-known tree a t e) (at-address a x (t, e) keeps).node_state;
  }

  pub first-have_values : HaveValues tree states (first_states tree)
  first-have_values a x p keeps =
      let is : first_states tree a ≡ first_state (root_of (part_at tree a)).program = ap (λ (o : Option Node). option_map_or (λ n. first_state n.program) o no_state) (node-of_part tree a (part_at tree a) (part-is tree a p)) in
      subst (λ (s : State). SameState (state_of x) s) (sym is)
      (subst (λ (b : Address). SameState (state_of x) (first_state (root_of (part_at tree b)).program)) (back a p) (at-address a x p keeps).first)
