use Rattle.study.proofs.Prelude.{sym, subst, List, Option}
use Rattle.events_core.specs.declared.step.Step.{Step}
use Rattle.replay_app.proofs.DecidedLaws.{passed}
use Rattle.replay_app.proofs.PreparedLaws.{script_same, script_out}
use Rattle.replay_app.specs.Decided.{IsDecided}
use Rattle.study.specs.Prepared.{steps_of, IsPacedRun}
use Rattle.study.specs.Studied.{IsDriven}
use Rattle.study.specs.declared.parts.Drive.{Drive}
use Rattle.study.specs.declared.parts.Drive.TheVariants.{Script}
use Rattle.study.proofs.preparation.prepare_script.Goals as goal

pub returns-in_err-script-clause-script : goal.returns-in_err-script-clause-script
returns-in_err-script-clause-script g c = λ contents told view laid policy_file capture.
    let run = λ (d : Drive) (steps : Option (List Step)). IsPacedRun d view laid policy_file (steps_of steps) capture in
    let r = c.from_residual.result in
    subst (λ (d : Drive). IsDecided (IsDriven d view laid policy_file capture contents) (run d) r) (sym c.in-Script.is) (script_out (contents c.in-Script.name.now) _ (run (Script c.in-Script.name)) c.in_err-script.field-0.0 (rw (rw c.in-Script.is at told).0 at c.in_err-script.ensures.read) c.in_err-script.ensures.kind r (passed _ _ c.from_residual.ensures.1))

pub returns-clause-script : goal.returns-clause-script
returns-clause-script g c = λ contents told view laid policy_file capture.
    rw c.in-Script.is (script_same (contents c.in-Script.name.now) _ c.in_ok-script.script (rw (rw c.in-Script.is at told).0 at c.in_ok-script.ensures.read))
