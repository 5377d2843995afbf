use Rattle.replay_app.proofs.Prelude.{err_from_is_err_and, laid_by, pace_of, Sight, sight_of}
use Rattle.replay_app.proofs.AnswerLaws.{pace_ends}
use Rattle.replay_app.proofs.CaptureLaws.{whole_told, lines_cut, report_cut, whole_left, lines_left, report_left}
use Rattle.replay_app.proofs.execution.run_laid.Goals as goal

pub returns-in_err-ending-clause-answer : goal.returns-in_err-ending-clause-answer
returns-in_err-ending-clause-answer g c =
    let p = err_from_is_err_and c.from_residual.result c.from_residual.ensures.1 in
    let before : Sight = sight_of g.T.Tap.kind_of g.T.Tap.state_of c.args.watch.now in
    rw (p.1) (report_cut c.args.laid.policy (laid_by c.args.laid) (pace_of c.args.task.now.pace) before _ _ _ _ _ c.in_err-ending.ensures.report)

pub returns-in_err-ending-clause-left : goal.returns-in_err-ending-clause-left
returns-in_err-ending-clause-left g c =
    let p = err_from_is_err_and c.from_residual.result c.from_residual.ensures.1 in
    let before : Sight = sight_of g.T.Tap.kind_of g.T.Tap.state_of c.args.watch.now in
    rw (p.1) (report_left c.args.laid.policy (laid_by c.args.laid) (pace_of c.args.task.now.pace) before g.F.Fabric _ _ _ _ _ c.in_err-ending.ensures.fabric_part)

pub returns-in_err-write_lines-clause-answer : goal.returns-in_err-write_lines-clause-answer
returns-in_err-write_lines-clause-answer g c =
    let p = err_from_is_err_and c.from_residual-in_err-write_lines.result c.from_residual-in_err-write_lines.ensures.1 in
    let before : Sight = sight_of g.T.Tap.kind_of g.T.Tap.state_of c.args.watch.now in
    let e = c.in_ok-ending.ensures in
    rw (p.1) (lines_cut c.args.laid.policy (laid_by c.args.laid) (pace_of c.args.task.now.pace) before _ _ _ _ _ _ _
    e.report e.watched c.in_err-write_lines.ensures.part)

pub returns-in_err-write_lines-clause-left : goal.returns-in_err-write_lines-clause-left
returns-in_err-write_lines-clause-left g c =
    let p = err_from_is_err_and c.from_residual-in_err-write_lines.result c.from_residual-in_err-write_lines.ensures.1 in
    let before : Sight = sight_of g.T.Tap.kind_of g.T.Tap.state_of c.args.watch.now in
    rw (p.1) (lines_left c.args.laid.policy (laid_by c.args.laid) (pace_of c.args.task.now.pace) before g.F.Fabric _ _ _ _ _ c.in_ok-ending.ensures.fabric)

pub returns-clause-answer : goal.returns-clause-answer
returns-clause-answer g c =
    let before : Sight = sight_of g.T.Tap.kind_of g.T.Tap.state_of c.args.watch.now in
    let e = c.in_ok-ending.ensures in
    rw (c.of_run.ensures) (whole_told c.args.laid.policy (laid_by c.args.laid) (pace_of c.args.task.now.pace) before _ _ _ _ _ _
    e.report e.watched c.in_ok-write_lines.ensures.text)

pub returns-clause-left : goal.returns-clause-left
returns-clause-left g c =
    let before : Sight = sight_of g.T.Tap.kind_of g.T.Tap.state_of c.args.watch.now in
    let e = c.in_ok-ending.ensures in
    rw (c.of_run.ensures) (whole_left c.args.laid.policy (laid_by c.args.laid) (pace_of c.args.task.now.pace) before g.F.Fabric _ _ _ _ _
    e.fabric e.watched)

pub returns-clause-statuses : goal.returns-clause-statuses
returns-clause-statuses g c = rw (c.of_run.ensures) (pace_ends c.args.task.now.pace c.in_ok-ending.ending c.in_ok-ending.ensures.ends)
