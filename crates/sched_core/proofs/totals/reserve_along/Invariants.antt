use Rattle.std.proofs.Common.{◌≡◌, length}
use Rattle.policy_defs.specs.Policy.{Policy}
use Rattle.sched_core.specs.Totals.{AreTotals, Values}
use Rattle.sched_core.proofs.TotalsLaws.{HaveRoomBelow}
use Rattle.sched_core.proofs.totals.reserve_along.Given as goal

abbrev pub invariant-loop-level : goal.invariant-loop-level
invariant-loop-level l = record {
  count : length l.nodes ≡ length l.initial.nodes;
  totals : (policy : Policy) (values : Values) → AreTotals policy l.initial.nodes values → AreTotals policy l.nodes values;
  room : HaveRoomBelow l.path l.nodes l.packet l.level;
}
