-- Statements with their line numbers.
use Rattle.std.specs.Prelude.{ℕ, ◌<◌, List, All, AllPairs, map, Option, Some, None}
use Rattle.policy_text_defs.specs.declared.statement.Statement.{Statement}
use Rattle.policy_text_defs.specs.Sense.{Sense, Entry, entry, sense_of}
use Rattle.policy_text_defs.specs.declared.edition.Mode.{Mode}
use Rattle.policy_text_defs.specs.Editions.{after, edition_of}
use Rattle.policy_text_defs.specs.Text.{IsWritten}

-- a line's number and its statement
abbrev pub Numbered : Type 0
Numbered = ℕ × Statement

abbrev pub entry_of : Numbered → Entry
entry_of l = entry l.0 (sense_of l.1)

-- line numbers are strictly increasing
abbrev pub IsRising : List Numbered → Type 0
IsRising ls = AllPairs (λ a b. a.0 < b.0) ls

-- the statement of a line, without its location in memory
abbrev pub sense_at : Numbered → Sense
sense_at l = sense_of l.1

-- each statement can be written as a line of the edition that the first one chooses
abbrev pub AreWritten : List Numbered → Type 0
AreWritten ls = All (λ l. IsWritten (edition_of (map sense_at ls)) (sense_of l.1)) ls

-- how the statement after this one is read, if there is one
abbrev pub mode_after : Mode → Option Statement → Mode
mode_after m None = m
mode_after m (Some t) = after m (sense_of t)
