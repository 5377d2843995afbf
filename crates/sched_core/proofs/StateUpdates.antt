-- The states with one node's state replaced.
use Rattle.sched_core.proofs.Prelude.{arith, ◌≡◌, ap, ◌∙◌, sym, ℕ, List, subst, Some, ◌<◌, [], refl, ◌∷◌, None, suc, zero, if◌then◌else◌, Bool, false, true, ◌≢◌, bytes_eq, length-set, slice_get, slice_set, address-undone, number-undone, address_at, number_at, Node, HasRoom, state_of, NodeState, same-trans, SameState, State, Who, States, with_state, Tree, Address, nodes, subtree, IsAddressOf, part_at, HaveValues, AreNodeStates, HasRoomAt, IsNodeStateOf, Keeps}
use Rattle.std.proofs.lemmas.Slice.Eq.{bytes_eq-Decides}
use Rattle.sched_core.proofs.TreeParts.{some-is, part-known}

-- an item of a list with one item replaced is the new one, or was there before
pub set-cases : {X P : Type 0} (xs : List X) (k j : ℕ) (x y : X) → slice_get (slice_set xs k x) j ≡ Some y → (j ≡ k → y ≡ x → P) → (j ≢ k → slice_get xs j ≡ Some y → P) → P
set-cases [] k j x y e same other = (let f : None ≡ Some y = e in cc)
set-cases (z ∷ xs) zero zero x y e same other = same refl (sym (some-is e))
set-cases (z ∷ xs) zero (suc j) x y e same other = other (λ q. omega (arith, q)) e
set-cases (z ∷ xs) (suc k) zero x y e same other = other (λ q. omega (arith, q)) e
set-cases (z ∷ xs) (suc k) (suc j) x y e same other = set-cases xs k j x y e (λ q. same (ap suc q)) (λ n. other (λ q. n (omega (arith, q))))

-- ---- the values with the state at one address replaced
with-there : (values : States) (a b : Address) (s : State) → b ≡ a → with_state values a s b ≡ s
with-there values a b s e = ap (λ (t : Bool). if t then s else values b) ((bytes_eq-Decides a b).1 (sym e))

pub with-apart : (values : States) (a b : Address) (s : State) → b ≢ a → with_state values a s b ≡ values b
with-apart values a b s n = by_test (bytes_eq a b) refl
  where
    by_test : (t : Bool) → bytes_eq a b ≡ t → with_state values a s b ≡ values b
    by_test true q = absurd (n (sym ((bytes_eq-Decides a b).0 q)))
    by_test false q = ap (λ (t : Bool). if t then s else values b) q

-- the same state at that address changes no value
pub values-same : (tree : Tree Node) (states : List NodeState) (values : States) (a : Address) (s : State) → SameState (values a) s → HaveValues tree states values → HaveValues tree states (with_state values a s)
values-same tree states values a s same h b y p keeps = by_test (bytes_eq a b) refl
  where
    by_test : (t : Bool) → bytes_eq a b ≡ t → SameState (state_of y) (with_state values a s b)
    by_test true q = subst (λ (t : Bool). SameState (state_of y) (if t then s else values b)) (sym q)
        (same-trans _ _ _ (h b y p keeps) (subst (λ (c : Address). SameState (values c) s) ((bytes_eq-Decides a b).0 q) same))
    by_test false q = subst (λ (t : Bool). SameState (state_of y) (if t then s else values b)) (sym q) (h b y p keeps)

-- ---- the states with the one at one number replaced
module _ (tree : Tree Node) (states : List NodeState) (k : ℕ) (x' : NodeState) where
  same-address : (b : Address) → IsAddressOf tree b → number_at tree b ≡ k → b ≡ address_at tree k
  same-address b p is = sym (number-undone tree b p.0 p.1).address ∙ ap (address_at tree) is

  pub node_states-set : IsNodeStateOf (part_at tree (address_at tree k)) x' → AreNodeStates tree states → AreNodeStates tree (slice_set states k x')
  node_states-set node_state h = record { count = length-set states k x' ∙ h.count; each = each }
    where
      each : (b : Address) (t : Tree Node) (y : NodeState) → subtree tree b ≡ Some t → Keeps tree (slice_set states k x') b y → IsNodeStateOf t y
      each b t y e keeps = set-cases states k (number_at tree b) x' y keeps
          (λ same is.
          let t-is : part_at tree (address_at tree k) ≡ t = ap (part_at tree) (sym (same-address b (t, e) same)) ∙ part-known tree b t e in
          subst (λ (u : Tree Node). IsNodeStateOf u y) t-is (subst (λ (z : NodeState). IsNodeStateOf (part_at tree (address_at tree k)) z) (sym is) node_state))
          (λ _ old. h.each b t y e old)

  pub values-set : (values : States) (s : State) → k < nodes tree → SameState (state_of x') s → HaveValues tree states values → HaveValues tree (slice_set states k x') (with_state values (address_at tree k) s)
  values-set values s within same h b y p keeps = set-cases states k (number_at tree b) x' y keeps
      (λ here is. subst (λ (t : State). SameState (state_of y) t) (sym (with-there values (address_at tree k) b s (same-address b p here))) (subst (λ (z : NodeState). SameState (state_of z) s) (sym is) same))
      (λ apart old. subst (λ (t : State). SameState (state_of y) t) (sym (with-apart values (address_at tree k) b s (λ e. apart (ap (number_at tree) e ∙ (address-undone tree k within).number)))) (h b y p old))

  pub room-set : (x : NodeState) → slice_get states k ≡ Some x → (b : Address) (who : Who) → (HasRoom x who → HasRoom x' who) → HasRoomAt tree states b who → HasRoomAt tree (slice_set states k x') b who
  room-set x there b who f room y keeps = set-cases states k (number_at tree b) x' y keeps
      (λ here is. subst (λ (z : NodeState). HasRoom z who) (sym is) (f (room x (ap (slice_get states) here ∙ there))))
      (λ _ old. room y old)
