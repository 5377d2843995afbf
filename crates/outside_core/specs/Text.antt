-- A growing text of which a prefix is written. The bytes written may not be known to the contract.
use Rattle.std.specs.Prelude.{◌≡◌, refl, ℕ, Option, None, Some, List, [], ◌∷◌, ◌++◌, ⊤}
use Rattle.outside_core.specs.Kept.{IsFront}

-- a text, with more bytes after it
abbrev pub appended : Option (List ℕ) → List ℕ → Option (List ℕ)
appended None more = None
appended (Some text) more = Some (text ++ more)

-- a prefix of a text and the bytes after it was written; it may be shorter than the text alone
abbrev pub IsCut : Option (List ℕ) → List ℕ → Option (List ℕ) → Type 0
IsCut text more None = ⊤
IsCut None more (Some written) = ⊥
IsCut (Some text) more (Some written) = IsFront written (text ++ more)

appended-one : appended (Some (1 ∷ [])) (2 ∷ []) ≡ Some (1 ∷ 2 ∷ [])
appended-one = refl

appended-untold : appended None (2 ∷ []) ≡ None
appended-untold = refl

IsCut-one_of_two : IsCut (Some (1 ∷ [])) (2 ∷ 3 ∷ []) (Some (1 ∷ 2 ∷ []))
IsCut-one_of_two = record { rest = 3 ∷ []; joined = refl }

IsCut-in_the_text : IsCut (Some (1 ∷ 2 ∷ [])) (3 ∷ []) (Some (1 ∷ []))
IsCut-in_the_text = record { rest = 2 ∷ 3 ∷ []; joined = refl }

IsCut-stops_telling : IsCut (Some (1 ∷ [])) (2 ∷ []) None
IsCut-stops_telling = tt

-- the prefix may be all of it, or empty
IsCut-all : IsCut (Some (1 ∷ [])) (2 ∷ []) (Some (1 ∷ 2 ∷ []))
IsCut-all = record { rest = []; joined = refl }

IsCut-nothing : IsCut (Some []) (2 ∷ []) (Some [])
IsCut-nothing = record { rest = 2 ∷ []; joined = refl }

appended-nothing : appended (Some (1 ∷ 2 ∷ [])) [] ≡ Some (1 ∷ 2 ∷ [])
appended-nothing = refl
