use Rattle.replay_app.proofs.Prelude.{◌≡◌, refl, laid_by, pace_of, named_entries, entries, Sight, sight_of, watching_in}
use Rattle.replay_app.proofs.TapLaws.{watched_so}
use Rattle.replay_app.proofs.execution.run_watched.Goals as goal

pub returns-clause-answer : goal.returns-clause-answer
returns-clause-answer g c =
    let same : watching_in (sight_of g.T.Tap.kind_of g.T.Tap.state_of c.new-watch.result) ≡ named_entries c.args.named (entries g.T.Tap.kind_of g.T.Tap.state_of c.args.taps.now.items) =
    rw (c.new-watch.ensures.named, c.new-watch.ensures.taps, c.replace-watchers.ensures.value) refl in
    rw same at c.run_laid-answer.ensures.answer

pub returns-clause-left : goal.returns-clause-left
returns-clause-left g c =
    let before : Sight = sight_of g.T.Tap.kind_of g.T.Tap.state_of c.new-watch.result in
    watched_so g.F.Fabric c.args.laid.policy (laid_by c.args.laid) (pace_of c.args.task.now.pace) c.run_laid-answer.result _ _ before _ c.args.named _ _ c.new-watch.ensures.named
    (rw (c.new-watch.ensures.taps, c.replace-watchers.ensures.value) refl) (rw (c.into_taps.ensures) refl) _ c.run_laid-answer.ensures.left
