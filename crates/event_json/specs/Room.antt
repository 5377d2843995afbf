-- The lengths of lines.
use Rattle.std.specs.Prelude.{ℕ}

-- room for the longest line, in bytes
abbrev pub line_room : ℕ
line_room = 2048
