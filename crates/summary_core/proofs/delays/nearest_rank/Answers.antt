use Rattle.summary_core.proofs.Prelude.{ap, ◌∙◌, ◌+◌, ◌*◌, ◌/◌, ap₂, ◌%◌, div_ceil}
use Rattle.summary_core.proofs.Ranks.{nearest}
use Rattle.summary_core.proofs.delays.nearest_rank.Goals as goal

pub returns-clause-value : goal.returns-clause-value
returns-clause-value c =
    let n = c.args.count in
    ap₂ (λ p r. (n / 100) * p + r) c.from-percent.ensures (c.div_ceil.ensures ∙ ap (λ p. div_ceil ((n % 100) * p) 100) c.from-percent.ensures) ∙ nearest c.args.percent n
