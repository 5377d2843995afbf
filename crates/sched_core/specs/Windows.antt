-- The packets in a window of chunks.
use Rattle.std.specs.Prelude.{ℕ, Option, List}
use Rattle.packet_defs.specs.declared.packet.Packet.{Packet}
use Rattle.sched_core.specs.declared.held.Window.{Window}
use Rattle.sched_core.specs.Chunks.{packet_within, packet_from, numbers_below}

-- the packet under a number, if there is one
abbrev pub packet_at : Window → ℕ → Option Packet
packet_at w n = packet_from w.first w.chunks.items n

-- the numbers of the packets in the window
unfoldable pub numbers_of : Window → List ℕ
numbers_of w = numbers_below (packet_within w.first w.chunks.items) w.end

-- the number after the last one so far
abbrev pub end_of : Window → ℕ
end_of w = w.end
