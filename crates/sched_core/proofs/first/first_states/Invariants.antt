use Rattle.sched_core.proofs.FirstStates.{AreFirst}
use Rattle.sched_core.proofs.first.first_states.Given as goal

abbrev pub invariant-loop-node : goal.invariant-loop-node
invariant-loop-node l = AreFirst l.policy.policy.tree l.states.items l.node
