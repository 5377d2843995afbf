use Rattle.sched_core.proofs.Prelude.{ap, ◌∙◌, sym, List, length, subst, refilled, Policy, class_of, policy_of}
use Rattle.sched_core.specs.Totals.{MayTotals, AreKept, AreSized, AreTotals, with_one_fewer}
use Rattle.sched_core.specs.declared.node_totals.NodeTotals.{NodeTotals}
use Rattle.sched_core.proofs.LimitLaws.{on-path}
use Rattle.sched_core.proofs.totals.take_from_totals.Goals as goal

pub take_along-requires : goal.take_along-requires
take_along-requires c =
    let policy : Policy = policy_of c.args.node_states.now in
    let on = on-path policy c.args.packet.now _ c.as_slice.result.now c.requires.accepted c.requires.known.class c.path.ensures.path c.as_slice.ensures.value in
    let sized = subst (AreSized policy) c.in-Some.is c.requires.sized in
    record {
      inside = on.inside (length c.as_mut_slice.result.now) (ap (λ (l : List NodeTotals). length l) c.as_mut_slice.ensures.value ∙ sized);
    }

pub returns-in-Some : goal.returns-in-Some
returns-in-Some c =
    let policy : Policy = policy_of c.args.node_states.now in
    let on = on-path policy c.args.packet.now _ c.as_slice.result.now c.requires.accepted c.requires.known.class c.path.ensures.path c.as_slice.ensures.value in
    let whole = refilled c.in-Some.nodes c.take_along.new.nodes (c.take_along.ensures.count ∙ ap (λ (l : List NodeTotals). length l) c.as_mut_slice.ensures.value) in
    record {
      kept = λ values h. subst (λ (l : List NodeTotals). AreTotals policy l (with_one_fewer policy c.args.packet.now values)) (sym whole)
          (c.take_along.ensures.totals policy (class_of policy c.args.packet.now).leaf values on.leads on.is (subst (λ (l : List NodeTotals). AreTotals policy l values) (sym c.as_mut_slice.ensures.value) (subst (λ (o : MayTotals). AreKept policy o values) c.in-Some.is h)));
    }
