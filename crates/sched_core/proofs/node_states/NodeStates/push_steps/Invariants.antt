use Rattle.sched_core.proofs.Prelude.{◌≡◌, length, take, AreNodeStates, tree_for, ForValues, KeepsRoom, AreLowRanks}
use Rattle.sched_core.proofs.StepsMade.{HavePushed}
use Rattle.sched_core.proofs.node_states.NodeStates.push_steps.Given as goal

abbrev pub invariant-loop-level : goal.invariant-loop-level
invariant-loop-level l = record {
  kept : AreNodeStates (tree_for l.passage) l.states;
  room : KeepsRoom l.passage l.initial.states l.states;
  digits : l.trace.digits ≡ take l.level l.digits;
  count : length l.trace.ranks ≡ l.level;
  low : AreLowRanks l.trace.ranks;
  spare : l.trace.room ≡ l.initial.trace.room;
  pushed : ForValues l.passage l.initial.states (λ v. HavePushed l.passage v l.level l.states l.trace.ranks);
}
