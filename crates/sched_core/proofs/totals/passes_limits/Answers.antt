use Rattle.sched_core.proofs.Prelude.{length, Policy, class_of, policy_of}
use Rattle.sched_core.proofs.LimitLaws.{on-path}
use Rattle.sched_core.proofs.totals.passes_limits.Goals as goal

pub passes_along-requires : goal.passes_along-requires
passes_along-requires c =
    let policy : Policy = policy_of c.args.node_states.now in
    let on = on-path policy c.args.packet.now _ c.as_slice.result.now c.requires.accepted c.requires.known.class c.path.ensures.path c.as_slice.ensures.value in
    record { inside = on.inside (length c.args.totals.now) c.requires.sized }

pub returns : goal.returns
returns c =
    let policy : Policy = policy_of c.args.node_states.now in
    let on = on-path policy c.args.packet.now _ c.as_slice.result.now c.requires.accepted c.requires.known.class c.path.ensures.path c.as_slice.ensures.value in
    record { passes = λ values h. c.passes_along.ensures.passes policy (class_of policy c.args.packet.now).leaf values on.leads on.is h }
