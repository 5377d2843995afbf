use Rattle.std.specs.Prelude.{◌≡◌, ◌≤◌}
use Rattle.std.specs.Vec.{vec_capacity, vec_len}
use Rattle.sched_run.specs.Names.{AreNames}
use Rattle.sched_run.proofs.names.NameTable.new.Given as goal

-- the names of the first nodes
abbrev pub invariant-loop-node : goal.invariant-loop-node
invariant-loop-node l = record {
  so_far : vec_len l.names ≡ l.node;
  room : l.count ≤ vec_capacity l.names;
  each : AreNames l.policy.policy l.names.items;
}
