use Rattle.sched_core.proofs.Prelude.{arith, ◌≡◌, subst, nodes}
use Rattle.sched_core.proofs.FirstStates.{AreFirst, first-more, first-node_states, first-have_values}
use Rattle.sched_core.proofs.first.first_states.Goals as goal

pub loop-node-preserved : goal.loop-node-preserved
loop-node-preserved c =
    first-more c.args.policy.now.policy.tree c.loop-node.states.items c.push.new.self.items c.loop-node.node c.in_ok-first_state.field-0 c.loop-node.invariant c.in_ok-push.ensures.items
    c.in_ok-first_state.ensures.node_state c.in_ok-first_state.ensures.first

pub returns-clause-kept : goal.returns-clause-kept
returns-clause-kept c =
    let all : c.loop-node.node ≡ nodes c.args.policy.now.policy.tree = omega (arith, c.loop-node.auto.node-end, c.loop-node-test.false, c.count-count.ensures.count) in
    first-node_states c.args.policy.now.policy.tree c.loop-node.states.items (subst (AreFirst c.args.policy.now.policy.tree c.loop-node.states.items) all c.loop-node.invariant)

pub returns-clause-values : goal.returns-clause-values
returns-clause-values c =
    let all : c.loop-node.node ≡ nodes c.args.policy.now.policy.tree = omega (arith, c.loop-node.auto.node-end, c.loop-node-test.false, c.count-count.ensures.count) in
    first-have_values c.args.policy.now.policy.tree c.loop-node.states.items (subst (AreFirst c.args.policy.now.policy.tree c.loop-node.states.items) all c.loop-node.invariant)
