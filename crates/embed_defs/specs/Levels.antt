-- The arities of a complete tree by height, counted from the leaves. The height of a node then
-- doesn't depend on the levels above it, and levels added above the root need no case of their own.
use Rattle.std.specs.Prelude.{◌≡◌, refl, ℕ, zero, suc, ◌-◌, List, [], ◌∷◌, length, slice_index, nat_lt, if◌then◌else◌}

-- at h, the number of children of a node of height h + 1
abbrev pub Arities : Type 0
Arities = ℕ → ℕ

-- the arities from a node of this height down
abbrev pub down_from : Arities → ℕ → List ℕ
down_from a zero = []
down_from a (suc h) = a h ∷ down_from a h

-- The arities of a target by height. The lowest level's arity is the last of the list; `above` is
-- the arity of all levels above the root.
abbrev pub levels : List ℕ → ℕ → Arities
levels arities above h = if nat_lt h (length arities) then slice_index arities (length arities - 1 - h) else above

pub down_from-target : down_from (levels (3 ∷ 2 ∷ []) 5) 2 ≡ 3 ∷ 2 ∷ []
down_from-target = refl

pub down_from-above : down_from (levels (3 ∷ 2 ∷ []) 5) 4 ≡ 5 ∷ 5 ∷ 3 ∷ 2 ∷ []
down_from-above = refl

pub down_from-lowest : down_from (levels (3 ∷ 2 ∷ []) 5) 1 ≡ 2 ∷ []
down_from-lowest = refl
