-- The contents of a path and of a `Taken`, as contracts see them.
use Rattle.std.specs.Prelude.{ℕ, List, [], ◌∷◌, ◌++◌, map, refl}
use Rattle.tree_core.specs.declared.path.Path.{Path}
use Rattle.std.specs.Coded.{Coded, code_by, coded×, coded_ℕ, coded_list}

-- the children's indices on a path
abbrev pub digits_of : List (ℕ × ℕ) → List ℕ
digits_of steps = map (λ s. s.0) steps

-- the ranks on a path, ending with that of the leaf
abbrev pub ranks_of : List (ℕ × ℕ) → ℕ → List ℕ
ranks_of steps last = map (λ s. s.1) steps ++ last ∷ []

abbrev pub digits : Path → List ℕ
digits path = digits_of path.steps

abbrev pub ranks : Path → List ℕ
ranks path = ranks_of path.steps path.last

-- the digits and ranks taken so far, and the room in levels
pub record Way : Type 0 where
  pub digits : List ℕ
  pub ranks : List ℕ
  pub room : ℕ

abbrev pub way_code : Coded Way
way_code = code_by (List ℕ × (List ℕ × ℕ)) (coded× (coded_list coded_ℕ) (coded× (coded_list coded_ℕ) coded_ℕ)) (λ w. (w.digits, (w.ranks, w.room))) (λ p. record { digits = p.0; ranks = p.1.0; room = p.1.1 }) (λ _. refl)
