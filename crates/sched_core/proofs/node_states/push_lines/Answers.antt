use Rattle.sched_core.proofs.Prelude.{arith}
use Rattle.sched_core.proofs.NodeSteps.{node-at, child-step, flow-step, range-here, can-run, push-made}
use Rattle.sched_core.proofs.node_states.push_lines.Goals as goal

-- ---- the node at this level
pub bounds-states-path_node : goal.bounds-states-path_node
bounds-states-path_node c = (node-at c.requires.there _).within

pub env-env-requires-clause-marks : goal.env-env-requires-clause-marks
env-env-requires-clause-marks c = range-here (node-at c.requires.there _)

-- ---- for a child
pub push_by_form-requires-clause-form : goal.push_by_form-requires-clause-form
push_by_form-requires-clause-form c = (node-at c.requires.there _).path_node.push_form

pub push_by_form-requires-clause-can : goal.push_by_form-requires-clause-can
push_by_form-requires-clause-can c = can-run (child-step c.requires.there c.index-passage-level.result _ c.env-env.ensures.env c.if-level-digits.true) c.requires.there.room c.env-env.ensures.range

pub returns-then-level-digits : goal.returns-then-level-digits
returns-then-level-digits c = push-made (child-step c.requires.there c.index-passage-level.result _ c.env-env.ensures.env c.if-level-digits.true) _ c.push_by_form.ensures

-- ---- for a flow of another group
pub push_by_form-requires-2-clause-form : goal.push_by_form-requires-2-clause-form
push_by_form-requires-2-clause-form c = (node-at c.requires.there _).path_node.push_form

pub push_by_form-requires-2-clause-can : goal.push_by_form-requires-2-clause-can
push_by_form-requires-2-clause-can c = can-run (flow-step c.requires.there c.index-passage-level.result _ c.env-env.ensures.env (omega (arith, c.if-level-digits.false)) c.of-key.ensures) c.requires.there.room c.env-env.ensures.range

pub returns : goal.returns
returns c = push-made (flow-step c.requires.there c.index-passage-level.result _ c.env-env.ensures.env (omega (arith, c.if-level-digits.false)) c.of-key.ensures) _ c.push_by_form-2.ensures
