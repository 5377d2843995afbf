-- A run can begin at the start of a policy.
use Rattle.sched_run.proofs.Prelude.{ℕ, arith, Policy, start, size-empty, topology_of, CanBegin}

pub start_can_begin : (policy : Policy) (given : ℕ) → CanBegin given (start policy)
start_can_begin policy given = record {
  held = λ m p e. cc;
  few = omega (arith, size-empty (topology_of policy.tree));
}
