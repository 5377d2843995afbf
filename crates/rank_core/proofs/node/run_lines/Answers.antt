use Rattle.rank_core.proofs.Prelude.{◌∙◌, List, ap, sym, memory_for, state_of, run_of, Assign}
use Rattle.rank_core.proofs.NoLines.{rank_alone}
use Rattle.rank_core.proofs.node.run_lines.Goals as goal

-- a step that sets the rank to a variable of the environment
pub returns-in-Some-clause-after : goal.returns-in-Some-clause-after
returns-in-Some-clause-after c =
    rank_alone c.args.transaction.now c.args.assigns.now c.args.who.now c.args.env.now c.args.rank c.in-Some.told c.args.state.now
    (ap (λ (lines : List Assign). run_of c.args.transaction.now c.args.env.now lines (memory_for c.args.who.now c.args.rank (state_of c.args.state.now))) (sym c.as_slice.ensures)
    ∙ c.in-Some.ensures.rank c.args.transaction.now (memory_for c.args.who.now c.args.rank (state_of c.args.state.now)))
