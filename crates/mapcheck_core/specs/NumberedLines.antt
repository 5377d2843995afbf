-- The entries of a text's numbered lines, if each line is well formed.
use Rattle.std.specs.Prelude.{◌≡◌, ℕ, ◌+◌, List, [], ◌∷◌, ◌++◌, length}

-- the lines from a number on are well formed, and together give these entries
pub data Give {A : Type 0} (Gives : ℕ → List ℕ → List A → Type 0) : ℕ → List (List ℕ) → List A → Type 0 where
  over : (n : ℕ) → Give Gives n [] []
  next : (n : ℕ) (l : List ℕ) (ls : List (List ℕ)) (s ss : List A) → Gives n l s → Give Gives (n + 1) ls ss → Give Gives n (l ∷ ls) (s ++ ss)

-- the line of a number is malformed
abbrev pub InNoForm : {A : Type 0} → (ℕ → List ℕ → List A → Type 0) → ℕ → List ℕ → Type 0
InNoForm {A} Gives n l = (s : List A) → Gives n l s → ⊥

-- The first line with an error, counted from 1. The lines before it are well formed; whether a line
-- has an error may depend on their entries.
pub record IsFirstAtFault {A : Type 0} (Gives : ℕ → List ℕ → List A → Type 0) (AtFault : List A → ℕ → List ℕ → Type 0) (lines : List (List ℕ)) (number : ℕ) : Type 0 where
  pub before : List (List ℕ)
  pub line : List ℕ
  pub after : List (List ℕ)
  pub split : lines ≡ before ++ line ∷ after
  pub given : List A
  pub give : Give Gives 1 before given
  pub place : number ≡ length before + 1
  pub at_fault : AtFault given number line
