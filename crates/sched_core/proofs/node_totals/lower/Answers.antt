use Rattle.std.proofs.Common.{arith, ◌≡◌, ◌∙◌, subst, refl, Some, None, IsSome, ◌-◌, ◌<◌}
use Rattle.sched_core.specs.NodeTotals.{entry_of, count_in}
use Rattle.sched_core.proofs.FlowCounts.{found, count-lowered, counted-there}
use Rattle.sched_core.proofs.node_totals.lower.Goals as goal

pub returns-then-count-lt2 : goal.returns-then-count-lt2
returns-then-count-lt2 c =
    let none : 0 ≡ count_in c.args.flows.now c.args.flow.now - 1 = omega (arith, c.count-count.ensures, c.if-count-lt2.true) in
    record { counts = count-lowered c.args.flows.now c.remove.new.self c.args.flow.now None c.key_of-key.ensures c.remove.ensures.updates none }

pub unreachable-requires : goal.unreachable-requires
unreachable-requires c =
    let some : 1 < count_in c.args.flows.now c.args.flow.now = omega (arith, c.count-count.ensures, c.if-count-lt2.false) in
    counted-there (entry_of c.args.flows.now c.args.flow.now) (c.in-None.ensures.value ∙ found c.args.flows.now c.args.flow.now c.key_of-key.ensures) some

pub returns : goal.returns
returns c =
    let fewer : c.count-count.result - 1 ≡ count_in c.args.flows.now c.args.flow.now - 1 = omega (arith, c.count-count.ensures) in
    record {
      counts = count-lowered c.args.flows.now (c.get_mut.follows.lender (c.count-count.result - 1)) c.args.flow.now (Some (c.count-count.result - 1)) c.key_of-key.ensures
          ((c.get_mut.follows.holds (c.count-count.result - 1)).3 (subst IsSome c.in-Some.ensures.value refl)) fewer;
    }
