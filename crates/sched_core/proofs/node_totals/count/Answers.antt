use Rattle.std.proofs.Common.{ap, ◌∙◌, ℕ, Option}
use Rattle.std.specs.Prelude.{unwrap_or}
use Rattle.sched_core.proofs.FlowCounts.{found}
use Rattle.sched_core.proofs.node_totals.count.Goals as goal

pub returns-in-Some : goal.returns-in-Some
returns-in-Some c = ap (λ (o : Option ℕ). unwrap_or o 0) (c.in-Some.ensures.value ∙ found c.args.flows.now c.args.flow.now c.key_of.ensures)

pub returns-in-None : goal.returns-in-None
returns-in-None c = ap (λ (o : Option ℕ). unwrap_or o 0) (c.in-None.ensures.value ∙ found c.args.flows.now c.args.flow.now c.key_of.ensures)
