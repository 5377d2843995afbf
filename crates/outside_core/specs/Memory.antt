-- Files and a sink in memory whose calls fail as configured, as contracts see them.
use Rattle.std.specs.Prelude.{◌≡◌, ◌-◌, ℕ, Bool, List, length, is_some}
use Rattle.outside_core.specs.Faults.{one_more, is_to_fail}
use Rattle.outside_core.specs.Stored.{File, files_of}
use Rattle.outside_core.specs.Reading.{left_at}
use Rattle.outside_core.specs.declared.memory.MemShelf.{MemShelf}
use Rattle.outside_core.specs.declared.memory.MemSink.{MemSink}

abbrev pub held_files : MemShelf → List File
held_files s = files_of s.files.items

abbrev pub is_begun : MemShelf → Bool
is_begun s = is_some s.reading

-- the bytes of the open file that are still unread; none if no file is open
abbrev pub bytes_left : MemShelf → List ℕ
bytes_left s = left_at s.files.items s.reading

abbrev pub greatest_read : MemShelf → ℕ
greatest_read s = s.most

-- the numbers of the calls that are set to fail
abbrev pub failing_calls : MemShelf → List ℕ
failing_calls s = s.calls.fail.items

-- how many calls were made, `begin` and `read` together
abbrev pub calls_made : MemShelf → ℕ
calls_made s = s.calls.made

abbrev pub faults_met : MemShelf → ℕ
faults_met s = s.faults

-- whether the next call is set to fail
abbrev pub fails_next : MemShelf → Bool
fails_next s = is_to_fail (failing_calls s) (one_more (calls_made s))

-- the same files, the same greatest size of a read, the same calls set to fail
pub record KeepsSetting (old new : MemShelf) : Type 0 where
  pub files : held_files new ≡ held_files old
  pub most : greatest_read new ≡ greatest_read old
  pub fail : failing_calls new ≡ failing_calls old

abbrev pub sink_bytes : MemSink → List ℕ
sink_bytes s = s.bytes.items

abbrev pub sink_room : MemSink → ℕ
sink_room s = s.room

-- the room that is left, in bytes
abbrev pub room_left : MemSink → ℕ
room_left s = sink_room s - length (sink_bytes s)

abbrev pub greatest_write : MemSink → ℕ
greatest_write s = s.most

abbrev pub failing_writes : MemSink → List ℕ
failing_writes s = s.calls.fail.items

abbrev pub writes_made : MemSink → ℕ
writes_made s = s.calls.made

abbrev pub write_faults : MemSink → ℕ
write_faults s = s.faults

-- whether the next write is set to fail
abbrev pub write_fails_next : MemSink → Bool
write_fails_next s = is_to_fail (failing_writes s) (one_more (writes_made s))

-- the same room, the same greatest size of a write, the same writes set to fail
pub record KeepsSinkSetting (old new : MemSink) : Type 0 where
  pub room : sink_room new ≡ sink_room old
  pub most : greatest_write new ≡ greatest_write old
  pub fail : failing_writes new ≡ failing_writes old
