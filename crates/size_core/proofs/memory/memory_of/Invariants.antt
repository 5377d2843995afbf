use Rattle.size_core.proofs.Prelude.{◌≡◌, ◌+◌, ◌≤◌, ◌-◌, drop, ◌^◌, min, sum_by, queue_bits}
use Rattle.size_core.proofs.memory.memory_of.Given as goal

abbrev pub invariant-loop-node : goal.invariant-loop-node
invariant-loop-node l = record {
  fits : l.bits ≤ 2 ^ 128 - 1;
  same : min (sum_by (queue_bits l.widths) l.nodes) (2 ^ 128 - 1) ≡ min (l.bits + sum_by (queue_bits l.widths) (drop l.node-index l.nodes)) (2 ^ 128 - 1);
}
