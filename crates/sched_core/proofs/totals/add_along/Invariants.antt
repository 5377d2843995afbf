use Rattle.std.proofs.Common.{◌≡◌, length}
use Rattle.sched_core.specs.NodeTotals.{raised}
use Rattle.sched_core.specs.Totals.{AreTotals, HaveRoom, ForTotals, AreFew, changed_above}
use Rattle.sched_core.proofs.totals.add_along.Given as goal

abbrev pub invariant-loop-level : goal.invariant-loop-level
invariant-loop-level l = record {
  count : length l.nodes ≡ length l.initial.nodes;
  room : HaveRoom l.path l.nodes l.packet l.level;
  totals : ForTotals l.path l.initial.nodes (λ policy leaf values. AreFew values → AreTotals policy l.nodes (changed_above policy leaf (λ group. raised group l.packet) values l.level));
}
