use Rattle.study.proofs.Prelude.{◌≡◌, subst, sym, inr, List, ◌∷◌, Option, told-later, policy_file_of, PolicyFile, laid_of, policy_file_in, drive_files, target_of, with_target}
use Rattle.events_core.specs.declared.step.Step.{Step}
use Rattle.replay_app.proofs.DecidedLaws.{passed, same_trans, decided_so}
use Rattle.replay_app.proofs.PreparedLaws.{policy_same, policy_out}
use Rattle.replay_app.specs.Decided.{AreSame}
use Rattle.study.specs.Files.{drive_statuses, study_statuses}
use Rattle.study.specs.Prepared.{steps_of, IsPacedRun, IsRunOf, IsRunUnder}
use Rattle.study.specs.SumRuns.{HasNames}
use Rattle.study.specs.declared.place.Place.{Place}
use Rattle.study.specs.declared.preparation.Prepared.{Prepared}
use Rattle.study.proofs.InputLaws.{later_files, target_later, decided_out, rejects_out}
use Rattle.study.proofs.SumLaws.{named_classes}
use Rattle.study.proofs.preparation.prepare_study.Goals as goal

pub returns-in_err-policy_file-clause-prepared : goal.returns-in_err-policy_file-clause-prepared
returns-in_err-policy_file-clause-prepared g c = λ contents told.
    let s = c.args.study.now in
    policy_out s.latest (contents s.policy.now) _ (λ (p : Prepared). IsRunOf s p (contents s.capture.now))
    c.in_err-policy_file.field-0.0 (rw told.0 at c.in_err-policy_file.ensures.read) c.in_err-policy_file.ensures.kind c.from_residual.result (passed _ _ c.from_residual.ensures.1)

pub returns-in_err-place-clause-prepared : goal.returns-in_err-place-clause-prepared
returns-in_err-place-clause-prepared g c = λ contents told.
    let s = c.args.study.now in
    let j = policy_file_of c.in_ok-policy_file.policy_file in
    let later = told-later _ _ _ _ contents (with_target (target_of s) (s.capture.now ∷ drive_files s.drive)) c.in_ok-policy_file.ensures.kept.files told.1 in
    let run = λ (p : Prepared). IsRunOf s p (contents s.capture.now) in
    let r = c.from_residual-in_err-place.result in
    decided_so _ _ run r (policy_same s.latest (contents s.policy.now) _ c.in_ok-policy_file.policy_file (rw told.0 at c.in_ok-policy_file.ensures.read))
    (decided_out _ (λ (place : Place). IsRunUnder s contents j (laid_of place)) run c.in_err-place.field-0.0 (c.in_err-place.ensures.place contents later j.entries) r (passed _ _ c.from_residual-in_err-place.ensures.1))

pub returns-in_err-script-clause-prepared : goal.returns-in_err-script-clause-prepared
returns-in_err-script-clause-prepared g c = λ contents told.
    let s = c.args.study.now in
    let j = policy_file_of c.in_ok-policy_file.policy_file in
    let names = with_target (target_of s) (s.capture.now ∷ drive_files s.drive) in
    let later = told-later _ _ _ _ contents names c.in_ok-policy_file.ensures.kept.files told.1 in
    let last = later_files _ (target_of s) (s.capture.now ∷ drive_files s.drive) (told-later _ _ _ _ contents names c.prepare_place.ensures.kept.files later) in
    let run = λ (p : Prepared). IsRunOf s p (contents s.capture.now) in
    let laid = laid_of c.in_ok-place.place in
    let r = c.from_residual-in_err-script.result in
    decided_so _ _ run r (policy_same s.latest (contents s.policy.now) _ c.in_ok-policy_file.policy_file (rw told.0 at c.in_ok-policy_file.ensures.read))
    (decided_so _ (IsRunUnder s contents j laid) run r (c.in_ok-place.ensures.place contents later j.entries)
    (decided_out _ (λ (script : Option (List Step)). IsPacedRun s.drive s.view laid j (steps_of script) (contents s.capture.now)) run c.in_err-script.field-0.0
    (c.in_err-script.ensures.script contents last.1 s.view laid j (contents s.capture.now)) r (passed _ _ c.from_residual-in_err-script.ensures.1)))

pub returns-in_err-script-clause-rejects : goal.returns-in_err-script-clause-rejects
returns-in_err-script-clause-rejects g c =
    let s = c.args.study.now in
    rejects_out (Option (List Step)) Prepared _ (study_statuses s) (λ n one. inr (target_later (target_of s) (drive_statuses s.drive s.view) n one)) c.in_err-script.field-0.0
    (c.in_err-script.ensures.rejects s.view) _ (passed _ _ c.from_residual-in_err-script.ensures.1)

pub returns-clause-prepared : goal.returns-clause-prepared
returns-clause-prepared g c = λ contents told.
    let s = c.args.study.now in
    let j = policy_file_of c.in_ok-policy_file.policy_file in
    let names = with_target (target_of s) (s.capture.now ∷ drive_files s.drive) in
    let later = told-later _ _ _ _ contents names c.in_ok-policy_file.ensures.kept.files told.1 in
    let last = later_files _ (target_of s) (s.capture.now ∷ drive_files s.drive) (told-later _ _ _ _ contents names c.prepare_place.ensures.kept.files later) in
    let laid = laid_of c.in_ok-place.place in
    let same : policy_file_in c.in_ok-policy_file.policy_file.lines c.in_ok-place.place ≡ j = λ i. record { entries = j.entries; policy = c.in_ok-place.ensures.policy i } in
    let paced = c.in_ok-script.ensures.script contents last.1 s.view laid j (contents s.capture.now) in
    same_trans _ _ _ (policy_same s.latest (contents s.policy.now) _ c.in_ok-policy_file.policy_file (rw told.0 at c.in_ok-policy_file.ensures.read))
    (same_trans _ (IsRunUnder s contents j laid) _ (c.in_ok-place.ensures.place contents later j.entries)
    (subst (λ (k : PolicyFile). AreSame (IsRunUnder s contents j laid) (IsPacedRun s.drive s.view laid k (steps_of c.in_ok-script.script) (contents s.capture.now))) (sym same) paced))

pub returns-clause-names : goal.returns-clause-names
returns-clause-names g c = λ contents told.
    let s = c.args.study.now in
    let j = policy_file_of c.in_ok-policy_file.policy_file in
    let same : policy_file_in c.in_ok-policy_file.policy_file.lines c.in_ok-place.place ≡ j = λ i. record { entries = j.entries; policy = c.in_ok-place.ensures.policy i } in
    subst HasNames (sym same) (named_classes s.latest (contents s.policy.now) j (rw told.0 at c.in_ok-policy_file.ensures.read))
