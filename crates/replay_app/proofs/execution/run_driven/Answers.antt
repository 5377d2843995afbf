use Rattle.replay_app.proofs.execution.run_driven.Goals as goal

pub run_alone-requires-clause-bounded : goal.run_alone-requires-clause-bounded
run_alone-requires-clause-bounded g c = rw (c.steps.ensures) (rw c.in-Script.is at c.requires.drive)

pub run_alone-requires-in-Link-clause-bounded : goal.run_alone-requires-in-Link-clause-bounded
run_alone-requires-in-Link-clause-bounded g c = rw c.in-Link.is at c.requires.drive

pub run_forward-requires-clause-rate : goal.run_forward-requires-clause-rate
run_forward-requires-clause-rate g c = rw c.in-Forward.is at c.requires.drive

pub returns-in-Script-clause-answer : goal.returns-in-Script-clause-answer
returns-in-Script-clause-answer g c = rw c.in-Script.is (rw (c.steps.ensures) at c.run_alone.ensures.answer)

pub returns-in-Script-clause-left : goal.returns-in-Script-clause-left
returns-in-Script-clause-left g c = rw c.in-Script.is (rw (c.steps.ensures) at c.run_alone.ensures.left)

pub returns-in-Link-clause-answer : goal.returns-in-Link-clause-answer
returns-in-Link-clause-answer g c = rw c.in-Link.is c.run_alone-in-Link.ensures.answer

pub returns-in-Link-clause-left : goal.returns-in-Link-clause-left
returns-in-Link-clause-left g c = rw c.in-Link.is c.run_alone-in-Link.ensures.left

pub returns-in-Forward-clause-answer : goal.returns-in-Forward-clause-answer
returns-in-Forward-clause-answer g c = rw c.in-Forward.is c.run_forward.ensures.answer

pub returns-in-Forward-clause-left : goal.returns-in-Forward-clause-left
returns-in-Forward-clause-left g c = rw c.in-Forward.is c.run_forward.ensures.left
