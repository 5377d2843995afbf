use Rattle.rank_core.proofs.Prelude.{◌≡◌, rules, ◌∷◌, drop, ◌+◌, drop_more, program_of, memory}
use Rattle.rank_core.proofs.AssignmentLoop.{turn}
use Rattle.rank_core.proofs.step.run.Goals as goal

pub loop-assign-preserved : goal.loop-assign-preserved
loop-assign-preserved c =
    let split : drop c.loop-assign.assign-index c.args.assigns.now ≡ c.assign-item.result ∷ drop (c.loop-assign.assign-index + 1) c.args.assigns.now = search (rules, drop_more)
    in turn (program_of c.args.transaction.now) c.requires.shaped c.args.env.now c.assign-item.result (drop c.loop-assign.assign-index c.args.assigns.now) (drop (c.loop-assign.assign-index + 1) c.args.assigns.now) (memory c.loop-assign.current c.loop-assign.keeps c.loop-assign.eaches) _ _ split (search rules) c.loop-assign.invariant
