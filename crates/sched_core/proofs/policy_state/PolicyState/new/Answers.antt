use Rattle.sched_core.proofs.Prelude.{arith, refl, sym, subst, Policy, start, size-empty, topology_of}
use Rattle.sched_core.specs.Totals.{AreKept, amounts_in}
use Rattle.sched_core.proofs.Filling.{filled-start}
use Rattle.sched_core.proofs.LimitLaws.{kept-same, amounts-start}
use Rattle.sched_core.proofs.policy_state.PolicyState.new.Goals as goal

pub returns-clause-start : goal.returns-clause-start
returns-clause-start c =
    let policy : Policy = c.args.policy.now.policy in
    record {
      nodes = c.in_ok-new.ensures.first;
      held = c.new-2.ensures.empty;
      filled = filled-start policy _ c.in_ok-vec.field-0.items c.count.result c.in_ok-new.ensures.policy (c.in_ok-vec.ensures.items_if_clones_equal (λ y same. same)) c.count.ensures.count;
      totals = subst (λ (z : Policy). AreKept z c.in_ok-totals_of.field-0 (amounts_in z (start policy))) (sym c.in_ok-new.ensures.policy)
          (kept-same policy c.in_ok-totals_of.field-0 _ _ (amounts-start policy) c.in_ok-totals_of.ensures.kept);
      few = omega (arith, size-empty (topology_of policy.tree));
      now = refl;
    }
