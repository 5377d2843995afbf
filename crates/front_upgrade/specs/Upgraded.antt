-- A policy as a text of version 3.
use Rattle.std.specs.Prelude.{◌≡◌, ℕ, zero, suc, List, [], ◌∷◌, map, drop}
use Rattle.report_core.specs.declared.fault.FaultKind.TheVariants.{Policy}
use Rattle.policy_text_defs.specs.declared.edition.Edition.{Edition}
use Rattle.policy_text_defs.specs.declared.edition.Edition.TheVariants.{Third}
use Rattle.policy_text_defs.specs.Canonical.{canonical_text}
use Rattle.policy_text_defs.specs.Sense.{Sense, Entry, version, class, filter}
use Rattle.policy_rules.specs.Accepted.{AreAccepted}
use Rattle.policy_rules.specs.Alternatives.{alternatives_of}
use Rattle.policy_rules.specs.Entries.{AreRising}
use Rattle.policy_core.specs.PlaceLaws.{AreValid}
use Rattle.replay_app.specs.Answer.{Answer, text_alone}
use Rattle.replay_app.specs.Follows.{Follows}
use Rattle.replay_app.specs.Policies.{UnderPolicy, IsPolicy, IsPolicyRefused, senses_of}

-- the latest edition of the language
abbrev pub latest : Edition
latest = Third

-- a class's conditions as tests; another statement is unchanged
abbrev pub with_tests : Sense → Sense
with_tests (class n a cs) = filter n a (alternatives_of cs)
with_tests s = s

-- `policy 3` in place of the first statement, and the others
abbrev pub upgraded : List Sense → List Sense
upgraded ss = version 3 ∷ map with_tests (drop 1 ss)

-- their canonical text
abbrev pub upgraded_text : List Entry → List ℕ
upgraded_text es = canonical_text (upgraded (senses_of es))

-- the line of the statement with this number, counted from 1, or 0 if there is none
abbrev pub line_at : List Entry → ℕ → ℕ
line_at es zero = 0
line_at [] (suc n) = 0
line_at (e ∷ es) (suc zero) = e.0
line_at (e ∷ es) (suc (suc n)) = line_at es (suc n)

-- the statements of an accepted policy: on increasing lines, and each can be written
pub record AreSound (es : List Entry) : Type 0 where
  pub rising : AreRising es
  pub valid : AreValid es
  pub accepted : AreAccepted es

-- the text of version 3 is rejected with this code, and at the statement on this line
pub data IsUpgradeRefused (es : List Entry) : ℕ → ℕ → Type 0 where
  at : (code line : ℕ) → IsPolicyRefused latest (upgraded_text es) code line → IsUpgradeRefused es code (line_at es line)

-- the text of version 3 is rejected, or is a policy and is written
abbrev pub IsUpgradeOf : List Entry → Answer → Type 0
IsUpgradeOf es = Follows Policy (IsUpgradeRefused es) (IsPolicy latest (upgraded_text es)) (λ again b. b ≡ text_alone 0 (upgraded_text es))

-- the output for the text of a policy: its first error, as `check` writes it; or what becomes of it
-- as a text of version 3
abbrev pub IsUpgraded : List ℕ → Answer → Type 0
IsUpgraded text = UnderPolicy latest text (λ policy_file. IsUpgradeOf policy_file.entries)
