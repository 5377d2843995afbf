-- Errors of a table that doesn't describe a target.
use Rattle.std.specs.Prelude.{◌≡◌, ℕ, List}
use Rattle.toml.specs.Data.{Items, Members}
use Rattle.target_core.specs.TargetText.{IsToml, AreArities, GivesArities}
use Rattle.target_core.specs.declared.fault.TargetFault.{TargetFault}
use Rattle.target_core.specs.declared.fault.TargetFault.TheVariants.{NotToml, Key}

-- the error for bytes that aren't a TOML document
abbrev pub IsNoToml : TargetFault → List ℕ → Type 0
IsNoToml fault bytes = (fault ≡ NotToml) × ((table : Members) → IsToml bytes table → ⊥)

-- the error for items that aren't arities
pub record IsArrayFault (fault : TargetFault) (items : Items) : Type 0 where
  pub key : fault ≡ Key
  pub none : (arities : List ℕ) → AreArities items arities → ⊥

-- the error for a table in neither form
pub record IsKeyFault (fault : TargetFault) (table : Members) : Type 0 where
  pub key : fault ≡ Key
  pub none : (arities : List ℕ) (above : ℕ) → GivesArities table arities above → ⊥
