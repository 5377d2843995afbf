-- The steps that the lines of a script request.
use Rattle.std.specs.Prelude.{ℕ, ◌+◌, List, [], ◌∷◌, Option, Some, None, option_map, if◌then◌else◌, codes}
use Rattle.std.specs.Str.{bytes_eq}
use Rattle.text_core.specs.Glyphs.{Glyph, text, figure}
use Rattle.events_core.specs.declared.step.Step.{Step}
use Rattle.events_core.specs.declared.step.Step.TheVariants.{Arrive, Depart, Rest, Drain}

-- the step of a word alone: `a`, `d`, `rest` or `drain`
abbrev pub word_step : List ℕ → Option Step
word_step w =
    if bytes_eq w (codes "a") then Some (Arrive 1)
    else (if bytes_eq w (codes "d") then Some (Depart 1)
    else (if bytes_eq w (codes "rest") then Some Rest
    else (if bytes_eq w (codes "drain") then Some Drain
    else None)))

-- the step of a word with a count: `a N` or `d N`
abbrev pub counted_step : List ℕ → ℕ → Option Step
counted_step w n =
    if bytes_eq w (codes "a") then Some (Arrive n)
    else (if bytes_eq w (codes "d") then Some (Depart n)
    else None)

abbrev pub alone : Step → List Step
alone s = s ∷ []

-- the steps of a line with these items, if it is well-formed: none if it is empty, otherwise one
abbrev pub line_steps : List Glyph → Option (List Step)
line_steps [] = Some []
line_steps (text w ∷ []) = option_map alone (word_step w)
line_steps (text w ∷ figure n ∷ []) = option_map alone (counted_step w n)
line_steps _ = None

-- the number that a step adds to the counts
abbrev pub count_of : Step → ℕ
count_of (Arrive n) = n
count_of (Depart n) = n
count_of Rest = 0
count_of Drain = 0

-- the sum of the counts of all steps
abbrev pub counts_of : List Step → ℕ
counts_of [] = 0
counts_of (s ∷ ss) = count_of s + counts_of ss
