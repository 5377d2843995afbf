-- The definition of a script, and of the first error of any other text.
use Rattle.std.specs.Prelude.{◌≡◌, ℕ, ◌+◌, ◌<◌, ◌≤◌, true, List, [], ◌∷◌, ◌++◌, length, Some}
use Rattle.text_core.specs.Glyphs.{Glyph}
use Rattle.text_core.specs.Lines.{is_clean_text, statements_of}
use Rattle.text_core.specs.Says.{Says}
use Rattle.events_core.specs.declared.step.Step.{Step}
use Rattle.events_core.specs.declared.fault.ScriptFault.{ScriptFault}
use Rattle.events_core.specs.declared.fault.ScriptFault.TheVariants.{Line, TooMany, TooLong, NoMemory}
use Rattle.events_core.specs.Steps.{line_steps, counts_of}

-- the greatest length of a script in bytes
abbrev pub most_bytes : ℕ
most_bytes = 1048576

-- the greatest sum of the arrivals and departures that the lines of a script count
abbrev pub most_count : ℕ
most_count = 4194304

-- the line's statement is well-formed, and requests these steps
pub record Carries (line : List ℕ) (steps : List Step) : Type 0 where
  pub clean : is_clean_text line ≡ true
  pub glyphs : List Glyph
  pub says : Says line glyphs
  pub form : line_steps glyphs ≡ Some steps

-- each line is well-formed, and these are the steps of all lines
pub data Carry : List (List ℕ) → List Step → Type 0 where
  over : Carry [] []
  next : (l : List ℕ) (ls : List (List ℕ)) (s ss : List Step) → Carries l s → Carry ls ss → Carry (l ∷ ls) (s ++ ss)

-- the text is a script, and these are its steps
pub record IsScript (text : List ℕ) (steps : List Step) : Type 0 where
  pub short : length text ≤ most_bytes
  pub lines : Carry (statements_of text) steps
  pub few : counts_of steps ≤ most_count

-- the line is malformed
abbrev pub InNoForm : List ℕ → Type 0
InNoForm line = (steps : List Step) → Carries line steps → ⊥

-- after lines with this count, the counts exceed the maximum at this line
pub record Exceeds (counted : ℕ) (line : List ℕ) : Type 0 where
  pub steps : List Step
  pub carries : Carries line steps
  pub many : most_count < counted + counts_of steps

-- the line with this number has an error, after lines with this count
abbrev pub IsAtFault : ℕ → List ℕ → ℕ → ScriptFault → Type 0
IsAtFault counted line number (Line n) = (n ≡ number) × InNoForm line
IsAtFault counted line number (TooMany n) = (n ≡ number) × Exceeds counted line
IsAtFault counted line number _ = ⊥

-- the first line with an error, counted from 1, and its error: the lines before it are well-formed,
-- and their counts are within the limit
pub record IsFirstFault (text : List ℕ) (fault : ScriptFault) : Type 0 where
  pub short : length text ≤ most_bytes
  pub before : List (List ℕ)
  pub line : List ℕ
  pub after : List (List ℕ)
  pub split : statements_of text ≡ before ++ line ∷ after
  pub steps : List Step
  pub carry : Carry before steps
  pub few : counts_of steps ≤ most_count
  pub at_fault : IsAtFault (counts_of steps) line (length before + 1) fault

-- P holds of the steps, if the text is a script
abbrev pub ForScript : List ℕ → (List Step → Type 0) → Type 0
ForScript text P = (steps : List Step) → IsScript text steps → P steps

-- P holds of the first error, if there is one
abbrev pub ForFirstFault : List ℕ → (ScriptFault → Type 0) → Type 0
ForFirstFault text P = (fault : ScriptFault) → IsFirstFault text fault → P fault

-- the code of an error in a report, and its line number, or 0 if there is none
abbrev pub code_of : ScriptFault → ℕ
code_of (Line n) = 1
code_of (TooMany n) = 2
code_of TooLong = 4
code_of NoMemory = 0

abbrev pub place_of : ScriptFault → ℕ
place_of (Line n) = n
place_of (TooMany n) = n
place_of TooLong = 0
place_of NoMemory = 0
