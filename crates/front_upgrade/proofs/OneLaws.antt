-- A text has one upgrade.
use Rattle.front_upgrade.proofs.Prelude.{◌≡◌, ap, ℕ, List}
use Rattle.policy_text_defs.specs.declared.edition.Edition.{Edition}
use Rattle.policy_text_defs.specs.Sense.{Entry}
use Rattle.policy_core.proofs.TextAnswers.{sound_entries}
use Rattle.replay_app.proofs.FollowLaws.{AreOne}
use Rattle.replay_app.proofs.Inputs.{policies_are_one}
use Rattle.replay_app.specs.Policies.{PolicyFile, IsPolicy}
use Rattle.front_upgrade.specs.Upgraded.{latest, upgraded_text, line_at, IsUpgradeRefused, at, AreSound}

one_refusal : (es : List Entry) (code place d m : ℕ) → IsUpgradeRefused es code place → IsUpgradeRefused es d m → (code ≡ d) × (place ≡ m)
one_refusal es code place d m (at _ line h) (at _ other k) =
    let same = (policies_are_one latest (upgraded_text es)).one_refusal code line d other h k in
    (same.0, ap (line_at es) same.1)

no_both : (es : List Entry) (j : PolicyFile) (code place : ℕ) → IsPolicy latest (upgraded_text es) j → IsUpgradeRefused es code place → ⊥
no_both es j code place is (at _ line h) = (policies_are_one latest (upgraded_text es)).no_both j code line is h

pub upgrades_are_one : (es : List Entry) → AreOne (IsUpgradeRefused es) (IsPolicy latest (upgraded_text es))
upgrades_are_one es = record { one_refusal = one_refusal es; one = (policies_are_one latest (upgraded_text es)).one; no_both = no_both es }

-- the statements of an accepted policy
pub sound_of : (e : Edition) (text : List ℕ) (j : PolicyFile) → IsPolicy e text j → AreSound j.entries
sound_of e text j is =
    let sound = sound_entries e text j.entries is.has in
    record { rising = sound.rising; valid = sound.valid; accepted = is.accepted }
