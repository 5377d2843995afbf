use Rattle.std.proofs.lemmas.Result.{err_from_is_err_and}
use Rattle.sched_capture.proofs.PacketsLeft.{refuses_over}
use Rattle.sched_capture.proofs.capture_packets.Arrivals.start.Goals as goal

pub returns-in_err-start-clause-refuses : goal.returns-in_err-start-clause-refuses
returns-in_err-start-clause-refuses g c =
    let p = err_from_is_err_and c.from_residual.result c.from_residual.ensures.1 in
    rw (p.1, p.2) (refuses_over _ g.R.CaptureReader.contents _ _ (g.S.Shelf.left c.args.shelf.now) c.over-reader.ensures.ahead c.in_err-start.ensures.refused)
