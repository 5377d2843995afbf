use Rattle.study.proofs.EndLaws.{answered_ok, answered_err}
use Rattle.study.proofs.command.study.Goals as goal

pub returns-in-Ok-clause-answer : goal.returns-in-Ok-clause-answer
returns-in-Ok-clause-answer g c = λ contents told. rw c.code.ensures (answered_ok c.args.study.now contents c.in-Ok.status _ _ (c.in-Ok.ensures.answer contents told))

pub returns-in-Err-clause-answer : goal.returns-in-Err-clause-answer
returns-in-Err-clause-answer g c = λ contents told. rw c.stop_status.ensures (answered_err c.args.study.now contents c.in-Err.stop _ _ (c.in-Err.ensures.answer contents told))
