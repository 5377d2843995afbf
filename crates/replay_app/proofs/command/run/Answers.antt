use Rattle.replay_app.proofs.command.run.Goals as goal

pub returns-clause-answer : goal.returns-clause-answer
returns-clause-answer g c = λ contents told. (c.run_to.ensures.told contents told).answer

pub returns-clause-fabric : goal.returns-clause-fabric
returns-clause-fabric g c = λ contents told. (c.run_to.ensures.told contents told).fabric

pub returns-clause-taps : goal.returns-clause-taps
returns-clause-taps g c = λ contents told. (c.run_to.ensures.told contents told).taps
