use Rattle.sched_core.proofs.Prelude.{arith, ◌≡◌, ◌<◌, ◌∙◌, sym, ap, length, subst, on_ok_weaker, Policy, Packet, Flow, class_of, policy_of, nodes, slice_set, LeadsToLeaf, address_at, HasRoomAt}
use Rattle.rank_defs.specs.declared.flow_group.FlowGroup.{FlowGroup}
use Rattle.rank_defs.specs.FlowGroups.{grouped}
use Rattle.rank_defs.specs.declared.environment.FlowKey.{FlowKey}
use Rattle.policy_defs.specs.Policy.{group_at}
use Rattle.sched_core.proofs.RootWays.{leaf-leads, leaf-address}
use Rattle.sched_core.proofs.GroupLaws.{room-grouped}
use Rattle.sched_core.proofs.RoomLaws.{flow-belongs, node_states-reserved, values-reserved, room-reserved, room-made}
use Rattle.sched_core.proofs.node_states.NodeStates.reserve.Goals as goal
use Rattle.sched_core.proofs.node_states.NodeStates.reserve.Goals.{After-path-path}

-- ---- if the leaf tells flows apart by all five fields
there : (c : After-path-path) → c.path-path.result.now.leaf < nodes (policy_of c.args.self.now).tree × LeadsToLeaf (policy_of c.args.self.now).tree (address_at (policy_of c.args.self.now).tree c.path-path.result.now.leaf)
there c = leaf-leads (policy_of c.args.self.now) c.args.packet.now c.requires.known c.requires.accepted c.path-path.result.now c.path-path.ensures.path

short : (c : After-path-path) → c.path-path.result.now.leaf < length c.args.self.now.states.items
short c = omega (arith, (there c).0, c.args.self.now.kept.count)

pub index_mut-requires : goal.index_mut-requires
index_mut-requires c = omega (arith, short (goal.at.index_mut-requires c).After-path-path, c.args.self.now.states.ok)

pub reserve-requires : goal.reserve-requires
reserve-requires c =
    let t = (goal.at.reserve-requires c).After-path-path in
    record { belongs = flow-belongs (policy_of c.args.self.now).tree c.args.self.now.states.items _ c.index_mut.result.now (there t).0 (short t) c.args.self.now.kept c.index_mut.ensures.value _ (there t).1 }

pub invariant_of-self-clause-kept : goal.invariant_of-self-clause-kept
invariant_of-self-clause-kept c =
    let t = (goal.at.invariant_of-self-clause-kept c).After-path-path in
    node_states-reserved (policy_of c.args.self.now).tree c.args.self.now.states.items _ c.index_mut.result.now (there t).0 (short t) c.args.self.now.kept c.index_mut.ensures.value
    c.reserve.new.self c.reserve.ensures.same c.reserve.ensures.kept c.reserve.ensures.children

pub returns-in-FiveTuple-clause-room : goal.returns-in-FiveTuple-clause-room
returns-in-FiveTuple-clause-room c =
    let t = (goal.at.returns-in-FiveTuple-clause-room c).After-path-path in
    let policy : Policy = policy_of c.args.self.now in
    let p : Packet = c.args.packet.now in
    let at : address_at policy.tree c.path-path.result.now.leaf ≡ (class_of policy p).leaf = leaf-address policy p c.requires.known c.requires.accepted c.path-path.result.now c.path-path.ensures.path in
    let key : p.flow ≡ grouped (group_at policy (class_of policy p).leaf) p.flow = ap (λ (g : FlowGroup). grouped g p.flow) (sym c.in-FiveTuple.is ∙ c.path-path.ensures.path.group) in
    on_ok_weaker c.reserve.result (λ made. subst (λ (f : FlowKey). HasRoomAt policy.tree (slice_set c.args.self.now.states.items c.path-path.result.now.leaf c.reserve.new.self) (class_of policy p).leaf (Flow f)) key
    (room-made policy.tree c.args.self.now.states.items _ c.index_mut.result.now (there t).0 (short t) c.args.self.now.kept c.index_mut.ensures.value
    c.reserve.new.self c.reserve.ensures.same c.reserve.ensures.kept (class_of policy p).leaf (Flow p.flow) (sym c.path-path.ensures.path.leaf) made)) c.reserve.ensures.room

pub returns-in-FiveTuple-clause-states : goal.returns-in-FiveTuple-clause-states
returns-in-FiveTuple-clause-states c =
    let t = (goal.at.returns-in-FiveTuple-clause-states c).After-path-path in
    values-reserved (policy_of c.args.self.now).tree c.args.self.now.states.items _ c.index_mut.result.now (there t).0 (short t) c.args.self.now.kept c.index_mut.ensures.value
    c.reserve.new.self c.reserve.ensures.same c.reserve.ensures.kept

pub returns-in-FiveTuple-clause-kept : goal.returns-in-FiveTuple-clause-kept
returns-in-FiveTuple-clause-kept c = λ other.
    let t = (goal.at.returns-in-FiveTuple-clause-kept c).After-path-path in
    room-reserved (policy_of c.args.self.now).tree c.args.self.now.states.items _ c.index_mut.result.now (there t).0 (short t) c.args.self.now.kept c.index_mut.ensures.value
    c.reserve.new.self c.reserve.ensures.same c.reserve.ensures.kept _ _

-- ---- if it groups them
pub reserve_at-requires : goal.reserve_at-requires
reserve_at-requires c =
    let l = leaf-leads (policy_of c.args.self.now) c.args.packet.now c.requires.known c.requires.accepted c.path-path.result.now c.path-path.ensures.path in
    record { there = l.0; leads = l.1 }

pub returns-in_default-clause-room : goal.returns-in_default-clause-room
returns-in_default-clause-room c =
    let policy : Policy = policy_of c.args.self.now in
    let p : Packet = c.args.packet.now in
    on_ok_weaker c.reserve_at.result (room-grouped c.reserve_at.new.self policy p _ _ c.reserve_at.ensures.policy (leaf-address policy p c.requires.known c.requires.accepted c.path-path.result.now c.path-path.ensures.path)
    (c.of-key.ensures ∙ ap (λ (g : FlowGroup). grouped g p.flow) c.path-path.ensures.path.group)) c.reserve_at.ensures.room
