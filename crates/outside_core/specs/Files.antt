-- What the calls of a shelf do to its files and to the file being read.
use Rattle.std.specs.Prelude.{◌≡◌, refl, ◌↔◌, ℕ, Bool, Option, None, Some, List, [], ◌∷◌, ◌++◌, length, take, drop, ⊤}

-- the same names may be opened, and their contents are unchanged
pub record KeepsFiles {S : Type 0} (lends : S → List ℕ → Bool) (content : S → List ℕ → Option (List ℕ)) (old new : S) : Type 0 where
  pub lent : (name : List ℕ) → lends new name ≡ lends old name
  pub contents : (name : List ℕ) → content new name ≡ content old name

-- the first n remaining bytes were read into the buffer, and the others remain
abbrev pub Takes : Option (List ℕ) → Option (List ℕ) → List ℕ → ℕ → Type 0
Takes None new buf n = ⊤
Takes (Some left) new buf n = (left ≡ take n buf ++ drop n left) × (new ≡ Some (drop n left))

-- a read returns 0 bytes exactly if none remain
abbrev pub EndsWhereEmpty : Option (List ℕ) → ℕ → Type 0
EndsWhereEmpty None n = ⊤
EndsWhereEmpty (Some left) n = n ≡ 0 ↔ (left ≡ [])

-- if the content is observable, these bytes of it were read and the others remain
abbrev pub HasRead : Option (List ℕ) → Option (List ℕ) → List ℕ → Type 0
HasRead None left bytes = ⊤
HasRead (Some content) left bytes = (content ≡ bytes ++ drop (length bytes) content) × (left ≡ Some (drop (length bytes) content))

Takes-two_of_three : Takes (Some (7 ∷ 8 ∷ 9 ∷ [])) (Some (9 ∷ [])) (7 ∷ 8 ∷ 0 ∷ 0 ∷ []) 2
Takes-two_of_three = (refl, refl)

HasRead-one_of_three : HasRead (Some (7 ∷ 8 ∷ 9 ∷ [])) (Some (8 ∷ 9 ∷ [])) (7 ∷ [])
HasRead-one_of_three = (refl, refl)
