use Rattle.sched_core.proofs.Prelude.{ap, ◌∙◌, sym, List, length, subst, on_ok_weaker, refilled, Policy, class_of, policy_of}
use Rattle.sched_core.specs.Totals.{MayTotals, AreKept, AreSized, AreTotals, HaveRoomTo}
use Rattle.sched_core.specs.declared.node_totals.NodeTotals.{NodeTotals}
use Rattle.sched_core.proofs.LimitLaws.{on-path, room-to}
use Rattle.sched_core.proofs.totals.reserve_totals.Goals as goal

pub reserve_along-requires : goal.reserve_along-requires
reserve_along-requires c =
    let policy : Policy = policy_of c.args.node_states.now in
    let on = on-path policy c.args.packet.now _ c.as_slice.result.now c.requires.accepted c.requires.known.class c.path.ensures.path c.as_slice.ensures.value in
    let sized = subst (AreSized policy) c.in-Some.is c.requires.sized in
    record {
      inside = on.inside (length c.as_mut_slice.result.now) (ap (λ (l : List NodeTotals). length l) c.as_mut_slice.ensures.value ∙ sized);
    }

pub returns-in-Some : goal.returns-in-Some
returns-in-Some c =
    let policy : Policy = policy_of c.args.node_states.now in
    let on = on-path policy c.args.packet.now _ c.as_slice.result.now c.requires.accepted c.requires.known.class c.path.ensures.path c.as_slice.ensures.value in
    let whole = refilled c.in-Some.nodes c.reserve_along.new.nodes (c.reserve_along.ensures.count ∙ ap (λ (l : List NodeTotals). length l) c.as_mut_slice.ensures.value) in
    record {
      room = on_ok_weaker c.reserve_along.result (λ h. subst (λ (l : List NodeTotals). HaveRoomTo policy (class_of policy c.args.packet.now).leaf l c.args.packet.now) (sym whole) (room-to policy _ on.leads c.as_slice.result.now on.is c.reserve_along.new.nodes c.args.packet.now h)) c.reserve_along.ensures.room;
      kept = λ values h. subst (λ (l : List NodeTotals). AreTotals policy l values) (sym whole) (c.reserve_along.ensures.totals policy values (subst (λ (l : List NodeTotals). AreTotals policy l values) (sym c.as_mut_slice.ensures.value) (subst (λ (o : MayTotals). AreKept policy o values) c.in-Some.is h)));
    }
