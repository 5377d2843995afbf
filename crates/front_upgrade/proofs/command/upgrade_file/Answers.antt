use Rattle.std.proofs.Common.{◌≡◌, refl}
use Rattle.std.specs.Prelude.{Err}
use Rattle.std.proofs.lemmas.Option.{IfSome_then}
use Rattle.report_core.specs.declared.fault.FaultKind.TheVariants as kind
use Rattle.replay_app.proofs.DecidedLaws.{told_so}
use Rattle.replay_app.proofs.FollowLaws.{accepted_told, exactly_told, known-status}
use Rattle.replay_app.proofs.Inputs.{policies_are_one}
use Rattle.replay_app.proofs.PreparedLaws.{policy_out}
use Rattle.replay_app.specs.Answer.{Answer}
use Rattle.replay_app.specs.Decided.{rejected}
use Rattle.replay_app.specs.Policies.{policy_file_of}
use Rattle.replay_app.specs.declared.not_run.NotRun.TheVariants.{Rejected}
use Rattle.front_upgrade.specs.Upgraded.{latest, IsUpgraded}
use Rattle.front_upgrade.proofs.OneLaws.{sound_of}
use Rattle.front_upgrade.proofs.command.upgrade_file.Goals as goal

pub returns-in-Ok-clause-answer : goal.returns-in-Ok-clause-answer
returns-in-Ok-clause-answer g c =
    let j = policy_file_of c.in-Ok.policy_file in
    IfSome_then (g.S.Shelf.content c.args.shelf.now c.args.name.now) c.in-Ok.ensures.read (λ text is.
    accepted_told kind.Policy _ _ _ (policies_are_one latest text) c.upgrade_lines.result _ _ j is (c.upgrade_lines.ensures.answer (sound_of latest text j is)))

pub returns-in-Err-Rejected-clause-answer : goal.returns-in-Err-Rejected-clause-answer
returns-in-Err-Rejected-clause-answer g c =
    let r = c.in-Err-Rejected.rejection in
    let w = c.write_rejection in
    IfSome_then (g.S.Shelf.content c.args.shelf.now c.args.name.now) c.read_input.ensures.read (λ text read.
    let is = rw (c.in-Err-Rejected.is, c.in-Err-Rejected.field-0-is) at read in
    let of_kind = rw (c.in-Err-Rejected.is, c.in-Err-Rejected.field-0-is) at c.read_input.ensures.kind in
    told_so (IsUpgraded text) (λ a. a ≡ rejected r) (policy_out latest text _ (λ (b a : Answer). a ≡ b) (Rejected r) is of_kind (Err (Rejected r)) refl) w.result _ _
    (exactly_told (rejected r) w.result _ _ (known-status w.result r.kind w.ensures.status) w.ensures.text w.ensures.part))
