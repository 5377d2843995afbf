use Rattle.sched_core.proofs.Prelude.{ap, ◌∙◌, sym, List, length, subst, refilled, Policy, class_of, policy_of}
use Rattle.sched_core.specs.Totals.{MayTotals, AreKept, AreSized, AreTotals, HasTotalsRoom, HaveRoomTo, with_one_more}
use Rattle.sched_core.specs.declared.node_totals.NodeTotals.{NodeTotals}
use Rattle.sched_core.proofs.LimitLaws.{on-path, path-apart, room-along}
use Rattle.sched_core.proofs.totals.add_to_totals.Goals as goal

pub add_along-requires : goal.add_along-requires
add_along-requires c =
    let policy : Policy = policy_of c.args.node_states.now in
    let on = on-path policy c.args.packet.now _ c.as_slice.result.now c.requires.accepted c.requires.known.class c.path.ensures.path c.as_slice.ensures.value in
    let sized = subst (AreSized policy) c.in-Some.is c.requires.sized in
    record {
      inside = on.inside (length c.as_mut_slice.result.now) (ap (λ (l : List NodeTotals). length l) c.as_mut_slice.ensures.value ∙ sized);
      apart = path-apart policy _ on.leads c.as_slice.result.now on.is;
      room = room-along policy _ on.leads c.as_slice.result.now on.is c.as_mut_slice.result.now c.args.packet.now
          (subst (λ (l : List NodeTotals). HaveRoomTo policy (class_of policy c.args.packet.now).leaf l c.args.packet.now) (sym c.as_mut_slice.ensures.value) (subst (HasTotalsRoom policy c.args.packet.now) c.in-Some.is c.requires.room));
    }

pub returns-in-Some : goal.returns-in-Some
returns-in-Some c =
    let policy : Policy = policy_of c.args.node_states.now in
    let on = on-path policy c.args.packet.now _ c.as_slice.result.now c.requires.accepted c.requires.known.class c.path.ensures.path c.as_slice.ensures.value in
    let whole = refilled c.in-Some.nodes c.add_along.new.nodes (c.add_along.ensures.count ∙ ap (λ (l : List NodeTotals). length l) c.as_mut_slice.ensures.value) in
    record {
      kept = λ values h few. subst (λ (l : List NodeTotals). AreTotals policy l (with_one_more policy c.args.packet.now values)) (sym whole)
          (c.add_along.ensures.totals policy (class_of policy c.args.packet.now).leaf values on.leads on.is (subst (λ (l : List NodeTotals). AreTotals policy l values) (sym c.as_mut_slice.ensures.value) (subst (λ (o : MayTotals). AreKept policy o values) c.in-Some.is h)) few);
    }
