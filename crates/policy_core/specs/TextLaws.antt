-- Consequences for policy texts, their statements, and the policies that accepted statements give.
use Rattle.std.specs.Prelude.{◌≡◌, ◌≢◌, ◌≤◌, ℕ, List, length}
use Rattle.policy_text_defs.specs.declared.edition.Edition.{Edition}
use Rattle.policy_text_defs.specs.Ranges.{most_text}
use Rattle.policy_text_defs.specs.Sense.{Entry}
use Rattle.policy_text_defs.specs.Text.{Fault, HasEntries, IsFirstFault}
use Rattle.policy_rules.specs.Entries.{AreRising}
use Rattle.policy_rules.specs.Accepted.{AreAccepted, IsFault}
use Rattle.policy_rules.specs.Resolved.{Resolved, IsResolved}
use Rattle.policy_rules.specs.declared.fault.PolicyFault.{PolicyFault}
use Rattle.policy_rules.specs.declared.fault.PolicyFault.TheVariants.{NoMemory}
use Rattle.policy_core.specs.PlaceLaws.{AreValid}

-- for a reader of the editions up to `latest`, statements and a line in error can't both be missing
-- in a text within the length limit
abbrev pub PolicyTextsHaveAnAnswer : Type 0
PolicyTextsHaveAnAnswer =
    (latest : Edition) (text : List ℕ) → length text ≤ most_text
    → ((entries : List Entry) → HasEntries latest text entries → ⊥)
    → ((n : ℕ) (fault : Fault) → IsFirstFault latest text n fault → ⊥)
    → ⊥

-- the statements of a text are on increasing lines, and each can be written as a line
pub record HasSoundEntries (entries : List Entry) : Type 0 where
  pub rising : AreRising entries
  pub valid : AreValid entries

abbrev pub TextsHaveSoundEntries : Type 0
TextsHaveSoundEntries = (latest : Edition) (text : List ℕ) (entries : List Entry) → HasEntries latest text entries → HasSoundEntries entries

-- statements without an error are accepted
abbrev pub FaultlessAreAccepted : Type 0
FaultlessAreAccepted =
    (entries : List Entry) → ((fault : PolicyFault) → fault ≢ NoMemory → IsFault entries fault → ⊥) → AreAccepted entries

-- the same statements give at most one policy
abbrev pub StatementsGiveOnePolicy : Type 0
StatementsGiveOnePolicy = (entries : List Entry) (r s : Resolved) → AreRising entries → AreAccepted entries → IsResolved entries r → IsResolved entries s → r ≡ s

-- accepted statements give a policy
abbrev pub StatementsGiveAPolicy : Type 0
StatementsGiveAPolicy =
    (entries : List Entry) → AreRising entries → AreValid entries → AreAccepted entries → (r : Resolved) × IsResolved entries r
