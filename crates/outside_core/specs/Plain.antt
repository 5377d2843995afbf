-- Files and a sink in memory without faults, as contracts see them.
use Rattle.std.specs.Prelude.{ℕ, Bool, Option, None, Some, List, is_some, if◌then◌else◌}
use Rattle.outside_core.specs.Stored.{File, files_of}
use Rattle.outside_core.specs.Reading.{left_at}
use Rattle.outside_core.specs.declared.plain.PlainShelf.{PlainShelf}
use Rattle.outside_core.specs.declared.plain.PlainSink.{PlainSink}

abbrev pub held_files : PlainShelf → List File
held_files s = files_of s.files.items

abbrev pub is_begun : PlainShelf → Bool
is_begun s = is_some s.reading

-- the bytes of the open file that are still unread; none if no file is open
abbrev pub bytes_left : PlainShelf → List ℕ
bytes_left s = left_at s.files.items s.reading

abbrev pub kept_bytes : PlainSink → List ℕ
kept_bytes s = s.bytes.items

abbrev pub sink_room : PlainSink → ℕ
sink_room s = s.room

-- whether all bytes written are stored
abbrev pub is_whole : PlainSink → Bool
is_whole s = s.whole

-- the bytes written, observable as long as all of them are stored
abbrev pub told_bytes : PlainSink → Option (List ℕ)
told_bytes s = if is_whole s then Some (kept_bytes s) else None
