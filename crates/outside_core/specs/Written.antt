-- What the calls of a sink do to its bytes.
use Rattle.std.specs.Prelude.{◌≡◌, refl, ℕ, Option, None, Some, List, [], ◌∷◌, ◌++◌, ⊤}

-- bytes that are observable now were observable before, and these bytes were appended
abbrev pub Appended : Option (List ℕ) → Option (List ℕ) → List ℕ → Type 0
Appended old None bytes = ⊤
Appended None (Some now) bytes = ⊥
Appended (Some before) (Some now) bytes = now ≡ before ++ bytes

-- the front of these bytes was appended, and this back was not
pub record AppendedBefore (old new : Option (List ℕ)) (bytes back : List ℕ) : Type 0 where
  pub front : List ℕ
  pub whole : front ++ back ≡ bytes
  pub grew : Appended old new front

-- a prefix of these bytes was appended
pub record AppendedPrefix (old new : Option (List ℕ)) (bytes : List ℕ) : Type 0 where
  pub front : List ℕ
  pub back : List ℕ
  pub whole : front ++ back ≡ bytes
  pub grew : Appended old new front

Appended-two : Appended (Some (1 ∷ [])) (Some (1 ∷ 2 ∷ 3 ∷ [])) (2 ∷ 3 ∷ [])
Appended-two = refl

Appended-stops_telling : Appended (Some (1 ∷ [])) None (2 ∷ 3 ∷ [])
Appended-stops_telling = tt

AppendedPrefix-one_of_two : AppendedPrefix (Some (1 ∷ [])) (Some (1 ∷ 2 ∷ [])) (2 ∷ 3 ∷ [])
AppendedPrefix-one_of_two = record { front = 2 ∷ []; back = 3 ∷ []; whole = refl; grew = refl }
