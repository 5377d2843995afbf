use Rattle.std.proofs.Common.{arith, ◌≡◌, ap, ◌∙◌, ℕ, subst, refl, Option, Some, IsSome, ◌+◌}
use Rattle.std.specs.Prelude.{unwrap_or}
use Rattle.sched_core.specs.NodeTotals.{entry_of, count_in}
use Rattle.sched_core.proofs.FlowCounts.{found, count-raised, none-there}
use Rattle.sched_core.proofs.node_totals.raise.Goals as goal

pub unreachable-requires : goal.unreachable-requires
unreachable-requires c = none-there (entry_of c.args.flows.now c.args.flow.now) (c.in-None.ensures.value ∙ found c.args.flows.now c.args.flow.now c.key_of.ensures) c.requires.room

pub returns : goal.returns
returns c = record {
  counts = λ few other.
      let old : c.in-Some.count.now ≡ count_in c.args.flows.now c.args.flow.now
      = ap (λ (o : Option ℕ). unwrap_or o 0) (c.in-Some.ensures.value ∙ found c.args.flows.now c.args.flow.now c.key_of.ensures) in
      let more : c.saturating_add.result ≡ count_in c.args.flows.now c.args.flow.now + 1 = omega (arith, c.saturating_add.ensures, old, few) in
      count-raised c.args.flows.now (c.get_mut.follows.lender c.saturating_add.result) c.args.flow.now (Some c.saturating_add.result) c.key_of.ensures
      ((c.get_mut.follows.holds c.saturating_add.result).3 (subst IsSome c.in-Some.ensures.value refl)) more other;
}
