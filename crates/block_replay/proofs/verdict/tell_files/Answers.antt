use Rattle.block_replay.proofs.Prelude.{◌≡◌, ap, exactly_told, known-status, status_code}
use Rattle.std.proofs.lemmas.Result.{IfOk-weaker}
use Rattle.replay_app.specs.Answer.{text_alone}
use Rattle.replay_app.specs.Decided.{rejected}
use Rattle.replay_app.proofs.DecidedLaws.{told_so}
use Rattle.block_replay.specs.Output.{IsCalmTold, calm_line}
use Rattle.block_replay.proofs.verdict.tell_files.Goals as goal

pub returns-in-Ok-clause-answer : goal.returns-in-Ok-clause-answer
returns-in-Ok-clause-answer g c = λ contents told.
    let written = c.write_line.ensures in
    told_so _ _ (c.in-Ok.ensures.decided contents told) c.write_line.result _ _
    (exactly_told (text_alone 0 (calm_line c.in-Ok.is_calm)) c.write_line.result _ _ (IfOk-weaker c.write_line.result _ _ (λ s done. ap status_code done) written.status) written.text written.part)

pub returns-in-Err-Rejected-clause-answer : goal.returns-in-Err-Rejected-clause-answer
returns-in-Err-Rejected-clause-answer g c = λ contents told.
    let f = c.args.files.now in
    let r = c.in-Err-Rejected.rejection in
    let w = c.write_rejection in
    told_so (IsCalmTold f.latest (contents f.policy.now) (contents f.target.now)) (λ a. a ≡ rejected r) (rw c.in-Err-Rejected.field-0-is at (c.in-Err-Rejected.ensures.decided contents told)) w.result _ _
    (exactly_told (rejected r) w.result _ _ (known-status w.result r.kind w.ensures.status) w.ensures.text w.ensures.part)
