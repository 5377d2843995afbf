-- Room made at one node.
use Rattle.sched_core.proofs.Prelude.{◌≡◌, ap, ◌∙◌, sym, ℕ, List, length, subst, Some, ◌<◌, get_or, slice_get-get_or, slice_get, slice_set, address-undone, address_at, number_at, Node, HasRoom, state_of, BelongsTo, children_of, NodeState, same-trans, in_range-same, same-sym, SameState, Who, Child, Flow, States, Tree, Address, LeadsToLeaf, nodes, part_at, HaveValues, AreNodeStates, HasRoomAt, IsNodeStateOf}
use Rattle.rank_defs.specs.declared.environment.FlowKey.{FlowKey}
use Rattle.sched_core.proofs.TreeParts.{part-is}
use Rattle.sched_core.proofs.StateUpdates.{set-cases, node_states-set, room-set}
use Rattle.sched_core.proofs.ClassLeaves.{leaf-arity}

module _ (tree : Tree Node) (states : List NodeState) (k : ℕ) (x : NodeState) (within : k < nodes tree) (short : k < length states) (kept : AreNodeStates tree states) (read : x ≡ get_or states k x) where
  held : slice_get states k ≡ Some x
  held = slice_get-get_or states k x short ∙ ap Some (sym read)

  node_state : IsNodeStateOf (part_at tree (address_at tree k)) x
  node_state = kept.each (address_at tree k) _ x (part-is tree (address_at tree k) (address-undone tree k within).there) (ap (slice_get states) (address-undone tree k within).number ∙ held)

  pub flow-belongs : (f : FlowKey) → LeadsToLeaf tree (address_at tree k) → BelongsTo (children_of x) (Flow f)
  flow-belongs f leads = subst (λ o. BelongsTo o (Flow f)) (sym (node_state.children ∙ leaf-arity tree (address_at tree k) leads)) tt

  module _ (x' : NodeState) (same : SameState (state_of x') (state_of x)) (room : (who : Who) → HasRoom x who → HasRoom x' who) where
    pub node_states-reserved : children_of x' ≡ children_of x → AreNodeStates tree (slice_set states k x')
    node_states-reserved children = node_states-set tree states k x' (record {
      in_range = in_range-same _ (state_of x) (state_of x') (same-sym _ _ same) node_state.in_range;
      children = children ∙ node_state.children;
      room = λ i belongs. room (Child i) (node_state.room i belongs);
    }) kept

    pub values-reserved : (values : States) → HaveValues tree states values → HaveValues tree (slice_set states k x') values
    values-reserved values h a y p keeps = set-cases states k (number_at tree a) x' y keeps
        (λ here is. subst (λ (z : NodeState). SameState (state_of z) (values a)) (sym is) (same-trans _ _ _ same (h a x p (ap (slice_get states) here ∙ held))))
        (λ _ old. h a y p old)

    pub room-reserved : (a : Address) (who : Who) → HasRoomAt tree states a who → HasRoomAt tree (slice_set states k x') a who
    room-reserved a who = room-set tree states k x' x held a who (room who)

    pub room-made : (a : Address) (who : Who) → number_at tree a ≡ k → HasRoom x' who → HasRoomAt tree (slice_set states k x') a who
    room-made a who at made y keeps = set-cases states k (number_at tree a) x' y keeps
        (λ _ is. subst (λ (z : NodeState). HasRoom z who) (sym is) made)
        (λ apart _. absurd (apart at))
