-- The limit of a reader's buffer.
use Rattle.std.specs.Prelude.{ℕ}

-- the most bytes that are read but not consumed
abbrev pub most_held : ℕ
most_held = 65536
