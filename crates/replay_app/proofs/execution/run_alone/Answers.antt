use Rattle.replay_app.proofs.Prelude.{[], laid_by, pace_of}
use Rattle.replay_app.proofs.TapLaws.{fabric_left}
use Rattle.replay_app.proofs.execution.run_alone.Goals as goal

pub returns-clause-answer : goal.returns-clause-answer
returns-clause-answer g c = rw (c.new-watch.ensures.taps, c.new.ensures.items) at c.run_laid.ensures.answer

pub returns-clause-left : goal.returns-clause-left
returns-clause-left g c =
    fabric_left g.F.Fabric c.args.laid.policy (laid_by c.args.laid) (pace_of c.args.task.now.pace) c.run_laid.result _ _ _ _ [] _
    (rw (c.new-watch.ensures.taps, c.new.ensures.items) at c.run_laid.ensures.left)
