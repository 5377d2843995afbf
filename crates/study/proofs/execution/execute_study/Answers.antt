use Rattle.study.proofs.SumLaws.{only_told}
use Rattle.study.proofs.execution.execute_study.Goals.{in-Script, in-Link}
use Rattle.study.proofs.execution.execute_study.Goals as goal

pub returns-in-Forward-clause-answer : goal.returns-in-Forward-clause-answer
returns-in-Forward-clause-answer g c = λ names. rw c.in-Forward.is (only_told _ _ _ _ _ _ c.view_departures.ensures.answer)

pub returns-clause-answer : goal.returns-clause-answer
returns-clause-answer g c = λ names.
    elim c.match-study.branch [ in-Script w ↦ rw w.in-Script.is (rw (w.pace-is, w.steps_of.ensures) at (c.write_view.ensures.answer names)) | in-Link w ↦ rw w.in-Link.is (rw w.pace-is at (c.write_view.ensures.answer names)) ]
