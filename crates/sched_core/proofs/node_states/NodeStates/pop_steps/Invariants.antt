use Rattle.sched_core.proofs.Prelude.{AreNodeStates, tree_for, ForValues, KeepsRoom}
use Rattle.sched_core.proofs.StepsMade.{HavePopped}
use Rattle.sched_core.proofs.node_states.NodeStates.pop_steps.Given as goal

abbrev pub invariant-loop-level : goal.invariant-loop-level
invariant-loop-level l = record {
  kept : AreNodeStates (tree_for l.passage) l.states;
  room : KeepsRoom l.passage l.initial.states l.states;
  popped : ForValues l.passage l.initial.states (λ v. HavePopped l.passage v l.ranks l.level l.states);
}
