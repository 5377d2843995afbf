use Rattle.std.proofs.Common.{◌∙◌}
use Rattle.rank_core.proofs.Table.{here, further}
use Rattle.rank_core.proofs.builtins.row_named.Goals as goal

pub returns-then-eq : goal.returns-then-eq
returns-then-eq c =
    here c.args.name.now c.args.rows.now c.loop-row.row-index _ c.loop-row-test.true c.if-eq.ensures ∙ c.loop-row.invariant

pub loop-row-preserved : goal.loop-row-preserved
loop-row-preserved c =
    further c.args.name.now c.args.rows.now c.loop-row.row-index _ c.loop-row-test.true c.if-eq.ensures ∙ c.loop-row.invariant
