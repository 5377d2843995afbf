use Rattle.sched_core.proofs.Prelude.{arith, on_ok_weaker, address-undone, policy_of}
use Rattle.sched_core.proofs.RoomLaws.{flow-belongs, node_states-reserved, values-reserved, room-reserved, room-made}
use Rattle.sched_core.proofs.node_states.NodeStates.reserve_at.Goals as goal

pub reserve-requires : goal.reserve-requires
reserve-requires c = record {
  belongs = flow-belongs (policy_of c.args.self.now).tree c.args.self.now.states.items _ c.index_mut.result.now c.requires.there (omega (arith, c.requires.there, c.args.self.now.kept.count)) c.args.self.now.kept c.index_mut.ensures.value _
      c.requires.leads;
}

pub invariant_of-self-clause-kept : goal.invariant_of-self-clause-kept
invariant_of-self-clause-kept c =
    node_states-reserved (policy_of c.args.self.now).tree c.args.self.now.states.items _ c.index_mut.result.now c.requires.there (omega (arith, c.requires.there, c.args.self.now.kept.count)) c.args.self.now.kept c.index_mut.ensures.value
    c.reserve.new.self c.reserve.ensures.same c.reserve.ensures.kept c.reserve.ensures.children

pub returns-clause-room : goal.returns-clause-room
returns-clause-room c =
    on_ok_weaker c.reserve.result (λ made. room-made (policy_of c.args.self.now).tree c.args.self.now.states.items _ c.index_mut.result.now c.requires.there (omega (arith, c.requires.there, c.args.self.now.kept.count)) c.args.self.now.kept c.index_mut.ensures.value
    c.reserve.new.self c.reserve.ensures.same c.reserve.ensures.kept _ _ (address-undone (policy_of c.args.self.now).tree c.args.leaf c.requires.there).number made) c.reserve.ensures.room

pub returns-clause-states : goal.returns-clause-states
returns-clause-states c =
    values-reserved (policy_of c.args.self.now).tree c.args.self.now.states.items _ c.index_mut.result.now c.requires.there (omega (arith, c.requires.there, c.args.self.now.kept.count)) c.args.self.now.kept c.index_mut.ensures.value
    c.reserve.new.self c.reserve.ensures.same c.reserve.ensures.kept

pub returns-clause-kept : goal.returns-clause-kept
returns-clause-kept c = λ other.
    room-reserved (policy_of c.args.self.now).tree c.args.self.now.states.items _ c.index_mut.result.now c.requires.there (omega (arith, c.requires.there, c.args.self.now.kept.count)) c.args.self.now.kept c.index_mut.ensures.value
    c.reserve.new.self c.reserve.ensures.same c.reserve.ensures.kept _ _
