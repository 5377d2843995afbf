-- The bytes of a window.
use Rattle.std.specs.Prelude.{ℕ, ◌-◌, Option, Some, None, List, take, drop}
use Rattle.pcap_core.specs.declared.window.Window.{Window}

-- the bytes that were read but not consumed
abbrev pub held : Window → List ℕ
held w = take (w.end - w.at) (drop w.at w.buffer.items)

-- the last n of the first `at` bytes, or these copied bytes
abbrev pub last_of : Option ℕ → ℕ → List ℕ → List ℕ → List ℕ
last_of None at bytes copied = copied
last_of (Some n) at bytes copied = drop (at - n) (take at bytes)

-- the bytes that were taken last: in the window, or else these copied bytes
abbrev pub bytes_taken : Window → List ℕ → List ℕ
bytes_taken w copied = last_of w.in_place w.at w.buffer.items copied
