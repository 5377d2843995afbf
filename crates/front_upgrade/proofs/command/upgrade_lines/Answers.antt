use Rattle.std.proofs.Common.{rules, ◌≡◌, ◌∙◌, subst, sym, List, ℕ}
use Rattle.report_core.specs.declared.fault.FaultKind.TheVariants as kind
use Rattle.replay_app.proofs.FollowLaws.{accepted_told, refused_told}
use Rattle.replay_app.specs.Policies.{policy_file_of, entries_in, IsPolicyRead}
use Rattle.front_upgrade.specs.Upgraded.{latest, IsUpgradeRefused, at}
use Rattle.front_upgrade.proofs.OneLaws.{upgrades_are_one}
use Rattle.front_upgrade.proofs.command.upgrade_lines.Goals as goal

pub returns-in-Ok-clause-answer : goal.returns-in-Ok-clause-answer
returns-in-Ok-clause-answer g c =
    let es = entries_in c.args.lines.now in
    let same : c.deref.result.now ≡ c.in_ok-text.text.items = search rules in
    λ sound.
    let read = subst (λ (t : List ℕ). IsPolicyRead latest t c.in_ok-again.field-0) (same ∙ c.in_ok-text.ensures sound) c.in_ok-again.ensures.read in
    let is = rw c.in-Ok.is at read in
    accepted_told kind.Policy _ _ _ (upgrades_are_one es) c.write_upgraded.result _ _ (policy_file_of c.in-Ok.again) is (c.write_upgraded.ensures.answer sound)

pub returns-clause-answer : goal.returns-clause-answer
returns-clause-answer g c =
    let es = entries_in c.args.lines.now in
    let r = c.in-Err.refusal in
    let same : c.deref.result.now ≡ c.in_ok-text.text.items = search rules in
    λ sound.
    let read = subst (λ (t : List ℕ). IsPolicyRead latest t c.in_ok-again.field-0) (same ∙ c.in_ok-text.ensures sound) c.in_ok-again.ensures.read in
    let is = rw c.in-Err.is at read in
    refused_told kind.Policy _ _ _ (upgrades_are_one es) c.refuse.result _ _ r.code c.line_at-place.result (subst (λ (n : ℕ). IsUpgradeRefused es r.code n) (sym c.line_at-place.ensures) (at r.code r.place is))
    c.refuse.ensures.status c.refuse.ensures.text c.refuse.ensures.part
