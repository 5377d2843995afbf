-- Targets: complete trees with an arity for each level (OOPSLA 2023).
use Rattle.std.specs.Prelude.{◌≡◌, refl, ℕ, ◌≤◌, ◌*◌, ◌-◌, List, [], ◌∷◌, ◌++◌, length, drop, replicate}
use Rattle.std.specs.List.{AllByRecursion}

-- the number of leaves of the complete tree of these arities
abbrev pub leaves : List ℕ → ℕ
leaves [] = 1
leaves (d ∷ arities) = d * leaves arities

-- the greatest height of a target, in levels
abbrev pub most_height : ℕ
most_height = 16

-- the least and the greatest number of children of a node
abbrev pub least_arity : ℕ
least_arity = 2

abbrev pub most_arity : ℕ
most_arity = 64

-- the greatest number of leaves of a target
abbrev pub most_leaves : ℕ
most_leaves = 65536

abbrev pub IsArity : ℕ → Type 0
IsArity d = (least_arity ≤ d) × (d ≤ most_arity)

-- the arities that a target may have: at most 16 levels, each of 2 to 64 children, and at most
-- 65,536 leaves in all
pub record IsTarget (arities : List ℕ) : Type 0 where
  pub levels : length arities ≤ most_height
  pub narrow : AllByRecursion IsArity arities
  pub few : leaves arities ≤ most_leaves

-- a target whose root may be put below further levels, each of 2 to 64 children
pub record IsInRange (arities : List ℕ) (above : ℕ) : Type 0 where
  pub target : IsTarget arities
  pub wide : least_arity ≤ above
  pub narrow : above ≤ most_arity

-- The lowest levels of a target, as many as the height. If the target has fewer levels, further
-- levels of arity `above` are added above its root.
abbrev pub lowest : List ℕ → ℕ → ℕ → List ℕ
lowest arities above height = replicate (height - length arities) above ++ drop (length arities - height) arities

pub leaves-of_binary_height_two : leaves (2 ∷ 2 ∷ []) ≡ 4
leaves-of_binary_height_two = refl

pub lowest-of_more : lowest (4 ∷ 3 ∷ 2 ∷ []) 5 2 ≡ 3 ∷ 2 ∷ []
lowest-of_more = refl

pub lowest-of_fewer : lowest (3 ∷ 2 ∷ []) 5 4 ≡ 5 ∷ 5 ∷ 3 ∷ 2 ∷ []
lowest-of_fewer = refl

pub lowest-all : lowest (3 ∷ 2 ∷ []) 5 2 ≡ 3 ∷ 2 ∷ []
lowest-all = refl
