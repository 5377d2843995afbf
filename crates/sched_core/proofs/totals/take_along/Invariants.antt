use Rattle.std.proofs.Common.{◌≡◌, length}
use Rattle.sched_core.specs.NodeTotals.{lowered}
use Rattle.sched_core.specs.Totals.{AreTotals, ForTotals, changed_above}
use Rattle.sched_core.proofs.totals.take_along.Given as goal

abbrev pub invariant-loop-level : goal.invariant-loop-level
invariant-loop-level l = record {
  count : length l.nodes ≡ length l.initial.nodes;
  totals : ForTotals l.path l.initial.nodes (λ policy leaf values. AreTotals policy l.nodes (changed_above policy leaf (λ group. lowered group l.packet) values l.level));
}
