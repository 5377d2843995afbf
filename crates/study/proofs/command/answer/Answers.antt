use Rattle.study.proofs.Prelude.{◌∙◌, inl, ◌∷◌, exactly_told, drive_files, target_of}
use Rattle.replay_app.proofs.DecidedLaws.{told_so}
use Rattle.replay_app.proofs.FollowLaws.{known-status}
use Rattle.replay_app.specs.Decided.{rejected}
use Rattle.study.proofs.InputLaws.{later_files}
use Rattle.study.proofs.SumLaws.{or_told}
use Rattle.study.proofs.command.answer.Goals as goal

pub returns-in-Ok-clause-answer : goal.returns-in-Ok-clause-answer
returns-in-Ok-clause-answer g c = λ contents told.
    let s = c.args.study.now in
    let e = c.in-Ok.ensures in
    let capture = (later_files _ (target_of s) (s.capture.now ∷ drive_files s.drive) told.1).0 in
    let same = e.kept.files.contents s.capture.now ∙ capture in
    or_told _ (told_so _ _ (e.prepared contents told) c.execute_study.result _ _) (rw same at (c.execute_study.ensures.answer (e.names contents told)))

pub returns-in-Err-Rejected-clause-answer : goal.returns-in-Err-Rejected-clause-answer
returns-in-Err-Rejected-clause-answer g c = λ contents told.
    let r = c.in-Err-Rejected.rejection in
    let w = c.write_rejection.ensures in
    let decided = rw c.in-Err-Rejected.field-0-is at (c.in-Err-Rejected.ensures.prepared contents told) in
    inl (told_so _ _ decided c.write_rejection.result _ _ (exactly_told (rejected r) c.write_rejection.result _ _ (known-status c.write_rejection.result r.kind w.status) w.text w.part))
