-- Parsed statements with their line numbers.
use Rattle.std.specs.Prelude.{ℕ, ◌<◌, List, map, AllPairs}
use Rattle.policy_text_defs.specs.declared.statement.Statement.{Statement}
use Rattle.policy_text_defs.specs.Sense.{Entry, entry, sense_of}

-- the statements without their location in memory
abbrev pub entries_of : List (ℕ × Statement) → List Entry
entries_of lines = map (λ l. entry l.0 (sense_of l.1)) lines

-- later statements are on later lines
abbrev pub AreRising : List Entry → Type 0
AreRising entries = AllPairs (λ a b. a.0 < b.0) entries
