-- Consequences of the definition of a target's text.
use Rattle.std.specs.Prelude.{◌≡◌, ◌⊎◌, ℕ, List}
use Rattle.embed_defs.specs.Target.{IsInRange}
use Rattle.target_core.specs.TargetText.{IsTargetText, IsRefused}

-- a text gives one target or has one error, and never both
pub record TextsHaveOneAnswer : Type 0 where
  pub one_target : (bytes arities other : List ℕ) (above over : ℕ) → IsTargetText bytes arities above → IsTargetText bytes other over → (arities ≡ other) × (above ≡ over)
  pub one_fault : (bytes : List ℕ) (code other : ℕ) → IsRefused bytes code → IsRefused bytes other → code ≡ other
  pub no_both : (bytes arities : List ℕ) (above code : ℕ) → IsTargetText bytes arities above → IsRefused bytes code → ⊥

-- an accepted text's target is in range, and so is the arity of the levels above it
abbrev pub AcceptedTargetsAreInRange : Type 0
AcceptedTargetsAreInRange = (bytes arities : List ℕ) (above : ℕ) → IsTargetText bytes arities above → IsInRange arities above

-- each text gives a target or has an error
abbrev pub TextsHaveAnAnswer : Type 0
TextsHaveAnAnswer =
    (bytes : List ℕ) → ((arities : List ℕ) × ((above : ℕ) × IsTargetText bytes arities above)) ⊎ ((code : ℕ) × IsRefused bytes code)
