-- The packets in chunks of slots, and their numbers.
use Rattle.std.specs.Prelude.{ℕ, zero, suc, ◌+◌, ◌/◌, ◌==◌, if◌then◌else◌, Option, None, is_some, List, [], ◌∷◌}
use Rattle.packet_defs.specs.declared.packet.Packet.{Packet}
use Rattle.sched_core.specs.declared.chunk.Chunk.{Chunk}
use Rattle.sched_core.specs.Slots.{packet_among}

-- the packet in a chunk under a number of that chunk
abbrev pub packet_of : Chunk → ℕ → Option Packet
packet_of chunk n = packet_among chunk.base chunk.slots.items n

-- the packet under a number in chunks, the first of which is for the numbers from 64 first on
abbrev pub packet_within : ℕ → List Chunk → ℕ → Option Packet
packet_within first [] n = None
packet_within first (chunk ∷ chunks) n = if n / 64 == first then packet_of chunk n else packet_within (first + 1) chunks n

-- the same, where contracts keep it closed
unfoldable pub packet_from : ℕ → List Chunk → ℕ → Option Packet
packet_from first chunks n = packet_within first chunks n

-- the numbers below an end that have a packet
abbrev pub numbers_below : (ℕ → Option Packet) → ℕ → List ℕ
numbers_below found zero = []
numbers_below found (suc n) = if is_some (found n) then n ∷ numbers_below found n else numbers_below found n
