use Rattle.replay_app.specs.Jobs.{loads}
use Rattle.replay_app.proofs.DecidedLaws.{exact}
use Rattle.replay_app.proofs.preparation.prepare.Goals as goal

pub returns-in-Replay-clause-job : goal.returns-in-Replay-clause-job
returns-in-Replay-clause-job g c = rw c.in-Replay.is c.prepare_replay.ensures.job

pub returns-in-Check-clause-job : goal.returns-in-Check-clause-job
returns-in-Check-clause-job g c = rw c.in-Check.is c.prepare_check.ensures.job

pub returns-in-Plan-clause-job : goal.returns-in-Plan-clause-job
returns-in-Plan-clause-job g c = rw c.in-Plan.is c.prepare_plan.ensures.job

pub returns-in-Direct-clause-job : goal.returns-in-Direct-clause-job
returns-in-Direct-clause-job g c = rw c.in-Direct.is c.prepare_direct.ensures.job

pub returns-in-Via-clause-job : goal.returns-in-Via-clause-job
returns-in-Via-clause-job g c = rw c.in-Via.is c.prepare_via.ensures.job

pub returns-in-Soak-clause-job : goal.returns-in-Soak-clause-job
returns-in-Soak-clause-job g c = rw c.in-Soak.is (λ contents told taps. exact _)

pub returns-in-Soak-clause-fits : goal.returns-in-Soak-clause-fits
returns-in-Soak-clause-fits g c = rw c.in-Soak.is (loads _, rw c.in-Soak.is at c.requires.can)
