-- The number of the leaf that digits lead to.
use Rattle.std.specs.Prelude.{◌≡◌, refl, ℕ, ◌+◌, ◌*◌, [], ◌∷◌, length}
use Rattle.tree_defs.specs.Tree.{Address}
use Rattle.embed_defs.specs.Levels.{Arities}
use Rattle.embed_defs.specs.Need.{leaves_below}

-- The number of leaves before it. The last digit counts 1. Each other digit counts the leaves below
-- one node of the level that it chooses from.
abbrev pub value : Arities → Address → ℕ
value a [] = 0
value a (d ∷ ds) = d * leaves_below a (length ds) + value a ds

pub value-ternary : value (λ _. 3) (1 ∷ 2 ∷ []) ≡ 5
value-ternary = refl
