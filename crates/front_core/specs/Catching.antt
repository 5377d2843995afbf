-- A sink that holds the `fault` line back: the bytes written to it, and those that it holds back.
use Rattle.std.specs.Prelude.{◌≡◌, refl, ℕ, Option, Some, option_map, List, [], ◌∷◌, ◌++◌, drop}
use Rattle.front_core.specs.declared.catching.Catching.{Catching}

-- the sink that gets the other bytes
abbrev pub below_of : {K : Type 0} → Catching K → K
below_of s = s.below

-- the bytes that are held back
abbrev pub kept_of : {K : Type 0} → Catching K → List ℕ
kept_of s = drop s.sent s.held.items

-- the bytes that were passed on, followed by those that are held back
abbrev pub told : Option (List ℕ) → List ℕ → Option (List ℕ)
told sent kept = option_map (λ bytes. bytes ++ kept) sent

told-both : told (Some (1 ∷ [])) (2 ∷ []) ≡ Some (1 ∷ 2 ∷ [])
told-both = refl
