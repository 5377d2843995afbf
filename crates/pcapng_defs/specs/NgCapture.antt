-- A pcapng capture (draft-ietf-opsawg-pcapng, 3): blocks one after another, read as a function of
-- the file's bytes.
use Rattle.std.specs.Prelude.{ℕ, zero, suc, ◌+◌, ◌-◌, ◌%◌, ◌==◌, ◌&&◌, not, nat_lt, nat_le, Bool, true, false, if◌then◌else◌, Option, Some, None, Result, Ok, Err, List, [], ◌∷◌, ◌++◌, length, take, drop}
use Rattle.pcap_defs.specs.Number.{long_at}
use Rattle.pcapng_defs.specs.Fault.{BlockFault, block_cut, block_length, order_magic, too_many_blocks, block_end}
use Rattle.pcap_defs.specs.Packet.{CapturedPacket}
use Rattle.pcapng_defs.specs.Block.{Carried, at_start, BlockKind, kind_of, section_type, least_total, most_total, block_gives}

-- the most blocks of a capture
abbrev pub most_blocks : ℕ
most_blocks = 4294967295

-- the least length of a block in bytes
abbrev pub block_len : ℕ
block_len = 12

-- the number in the order bytes of a section header, in the section's byte order
abbrev pub order_number : ℕ
order_number = 0x1A2B3C4D

-- the byte order that the order bytes of a section header give
abbrev pub order_in : List ℕ → Option Bool
order_in rest =
    if long_at false 8 rest == order_number then Some false
    else if long_at true 8 rest == order_number then Some true
    else None

-- the byte order of the block at the front: a section header gives it, other blocks use their
-- section's; block 1 has to be a section header
abbrev pub order_at : Carried → List ℕ → Option Bool
order_at c rest =
    if long_at c.big 0 rest == section_type then order_in rest
    else if c.blocks == 0 then None
    else Some c.big

-- the total length is one that a block of this kind can have
abbrev pub fits_kind : BlockKind → ℕ → Bool
fits_kind kind total = total % 4 == 0 && nat_le (least_total kind) total && nat_le total most_total

-- the front of the remaining bytes: nothing, a fault, or a block with its packet, if it is one, the
-- next state, and the bytes after it
pub data BlockFront : Type 0 where
  nothing : BlockFront
  broken : BlockFault → BlockFront
  found : Option CapturedPacket → Carried → List ℕ → BlockFront

-- the front for this result of a whole block
abbrev pub front_with : List ℕ → Result (Option CapturedPacket × Carried) BlockFault → BlockFront
front_with others (Err fault) = broken fault
front_with others (Ok given) = found given.0 given.1 others

-- the front of at least twelve bytes whose block has this byte order, kind and total length
abbrev pub front_at : Carried → Bool → List ℕ → BlockKind → ℕ → BlockFront
front_at c big rest kind total =
    if not (fits_kind kind total) then broken (block_length (c.blocks + 1))
    else if nat_lt (length rest) total then broken (block_cut (c.blocks + 1))
    else if not (long_at big (total - 4) rest == total) then broken (block_end (c.blocks + 1))
    else front_with (drop total rest) (block_gives c big (take total rest) kind)

-- the front of at least twelve bytes whose block has this byte order, if it has one
abbrev pub front_in : Carried → List ℕ → Option Bool → BlockFront
front_in c rest None = broken (order_magic (c.blocks + 1))
front_in c rest (Some big) = front_at c big rest (kind_of (long_at big 0 rest)) (long_at big 4 rest)

-- The front of the remaining bytes, with the first fault that fits: one block too many, a cut
-- block, no byte order, a length that no such block has, a cut body, two lengths that differ, and
-- then the faults of the block's kind.
unfoldable pub front_of : Carried → List ℕ → BlockFront
front_of c rest =
    if length rest == 0 && not (c.blocks == 0) then nothing
    else if c.blocks == most_blocks then broken (too_many_blocks (c.blocks + 1))
    else if nat_lt (length rest) block_len then broken (block_cut (c.blocks + 1))
    else front_in c rest (order_at c rest)

-- the reading of some blocks: their packets in order, the fault at which they end, if there is one,
-- and the state after the last block without a fault
pub record Reading : Type 0 where
  pub packets : List CapturedPacket
  pub fault : Option BlockFault
  pub carried : Carried

-- nothing more is read
abbrev pub ended : Carried → Option BlockFault → Reading
ended c fault = record { packets = []; fault = fault; carried = c }

-- these packets, and then a reading
abbrev pub behind : List CapturedPacket → Reading → Reading
behind packets r = record r { packets = packets ++ r.packets }

-- the packet of a block, if it is one
abbrev pub packets_in : Option CapturedPacket → List CapturedPacket
packets_in None = []
packets_in (Some p) = p ∷ []

-- a reading ends at nothing or at a fault; after a block it goes on with the rest
abbrev pub at_front : (Carried → List ℕ → Reading) → Carried → BlockFront → Reading
at_front rest_gives c nothing = ended c None
at_front rest_gives c (broken fault) = ended c (Some fault)
at_front rest_gives c (found packet after others) = behind (packets_in packet) (rest_gives after others)

-- the reading of the first `more` blocks of the remaining bytes
unfoldable pub read_from : ℕ → Carried → List ℕ → Reading
read_from zero c rest = ended c None
read_from (suc more) c rest = at_front (λ after others. read_from more after others) c (front_of c rest)

-- the reading of all remaining bytes; there are no more blocks than bytes
abbrev pub reading_of : Carried → List ℕ → Reading
reading_of c rest = read_from (suc (length rest)) c rest

-- the reading of a file: its packets in order, and the fault at which it ends, if there is one
abbrev pub ng_capture_of : List ℕ → Reading
ng_capture_of file = reading_of at_start file
