-- Consequences of the definitions of targets.
use Rattle.std.specs.Prelude.{◌≡◌, ℕ, List, length}
use Rattle.embed_defs.specs.Target.{IsInRange, IsArity, lowest}
use Rattle.embed_defs.specs.Levels.{levels, down_from}

-- counted by height, a target's arities give the lists of its lowest levels
abbrev pub HeightsGiveTheLowestLevels : Type 0
HeightsGiveTheLowestLevels = (arities : List ℕ) (above height : ℕ) → down_from (levels arities above) height ≡ lowest arities above height

abbrev pub AllLevelsAreTheTarget : Type 0
AllLevelsAreTheTarget = (arities : List ℕ) (above : ℕ) → lowest arities above (length arities) ≡ arities

-- the nodes of each height have from 2 to 64 children
abbrev pub HeightsAreInRange : Type 0
HeightsAreInRange = (arities : List ℕ) (above : ℕ) → IsInRange arities above → (h : ℕ) → IsArity (levels arities above h)
