-- The unread bytes of a file in memory.
use Rattle.std.specs.Prelude.{ℕ, Option, None, Some, List, [], slice_get, drop, Vec, String}
use Rattle.std.specs.Option.{option_map_or}
use Rattle.std.specs.declared.alloc.Global.{Global}
use Rattle.outside_core.specs.declared.files.Cursor.{Cursor}

-- the content of the file at an index; empty past the last file
abbrev pub content_at : List (String Global × Vec ℕ Global) → ℕ → List ℕ
content_at files place = option_map_or (λ file. file.1.items) (slice_get files place) []

-- the bytes from the cursor on; none if no file is open
abbrev pub left_at : List (String Global × Vec ℕ Global) → Option Cursor → List ℕ
left_at files None = []
left_at files (Some cursor) = drop cursor.at (content_at files cursor.place)
