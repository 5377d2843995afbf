-- A block of a pcapng capture (draft-ietf-opsawg-pcapng, 3.1 and 4.1 to 4.4): its type and its
-- total length of four bytes each, a body, and the total length again.
use Rattle.std.specs.Prelude.{ℕ, ◌+◌, ◌*◌, ◌^◌, ◌==◌, ◌&&◌, nat_le, min, Bool, false, if◌then◌else◌, Option, Some, None, Result, Ok, Err, List, [], ◌∷◌, ◌++◌, length, take, drop, slice_get}
use Rattle.pcap_defs.specs.Number.{long_at, short_at}
use Rattle.pcap_defs.specs.Record.{most_captured}
use Rattle.pcapng_defs.specs.declared.interface.Interface.{Interface}
use Rattle.pcapng_defs.specs.Fault.{BlockFault, ng_version, no_interface, packet_length, interfaces}
use Rattle.pcapng_defs.specs.Interface.{interface_at}
use Rattle.pcapng_defs.specs.Moment.{moment_in}
use Rattle.pcap_defs.specs.Packet.{CapturedPacket}

-- the state carried from block to block: the byte order and the interfaces of the section, the
-- timestamp of the previous packet, and the number of blocks read
pub record Carried : Type 0 where
  pub big : Bool
  pub described : List Interface
  pub moment : ℕ
  pub blocks : ℕ

-- the state before the first block
abbrev pub at_start : Carried
at_start = record { big = false; described = []; moment = 0; blocks = 0 }

-- the kinds of blocks that are read, and all others
pub data BlockKind : Type 0 where
  section : BlockKind
  interface : BlockKind
  enhanced : BlockKind
  simple : BlockKind
  other : BlockKind

-- the type of a section header; its bytes are the same in both byte orders
abbrev pub section_type : ℕ
section_type = 0x0A0D0D0A

-- the kind of a block by its type
abbrev pub kind_of : ℕ → BlockKind
kind_of number =
    if number == section_type then section
    else if number == 1 then interface
    else if number == 6 then enhanced
    else if number == 3 then simple
    else other

-- the least total length of a block, in bytes
abbrev pub least_total : BlockKind → ℕ
least_total section = 28
least_total interface = 20
least_total enhanced = 32
least_total simple = 16
least_total other = 12

-- the greatest total length of a block, in bytes
abbrev pub most_total : ℕ
most_total = 16777216

-- the most interfaces of a section
abbrev pub most_interfaces : ℕ
most_interfaces = 1024

-- the only major version that is read
abbrev pub ng_major : ℕ
ng_major = 1

-- the captured length of a simple packet: the snapshot length limits it, unless that is 0
abbrev pub simple_len : Interface → ℕ → ℕ
simple_len i original = if i.snapshot == 0 then original else min original i.snapshot

-- the state after the block: one more block read
abbrev pub past : Carried → Carried
past c = record c { blocks = c.blocks + 1 }

-- the packet with this timestamp and `count` captured bytes at position `at` of a block, with room
-- for four more bytes after them
abbrev pub packet_at : Carried → Interface → ℕ → ℕ → ℕ → ℕ → List ℕ → Result (Option CapturedPacket × Carried) BlockFault
packet_at c i moment original count at block =
    if nat_le count most_captured && nat_le (at + count + 4) (length block)
    then Ok (Some (record { link = i.link; moment = moment; original = original; captured = take count (drop at block) }), record (past c) { moment = moment })
    else Err (packet_length (c.blocks + 1))

-- an enhanced packet of this interface
abbrev pub enhanced_at : Carried → Bool → List ℕ → Option Interface → Result (Option CapturedPacket × Carried) BlockFault
enhanced_at c big block None = Err (no_interface (c.blocks + 1))
enhanced_at c big block (Some i) =
    packet_at c i (moment_in i.unit (long_at big 12 block * 2 ^ 32 + long_at big 16 block)) (long_at big 24 block) (long_at big 20 block) 28 block

-- a simple packet of this interface, with the timestamp of the previous packet
abbrev pub simple_at : Carried → Bool → List ℕ → Option Interface → Result (Option CapturedPacket × Carried) BlockFault
simple_at c big block None = Err (no_interface (c.blocks + 1))
simple_at c big block (Some i) = packet_at c i c.moment (long_at big 8 block) (simple_len i (long_at big 8 block)) 12 block

-- The result of a whole block of this kind in this byte order: the packet, if it is one, and the
-- next state, or the fault.
abbrev pub block_gives : Carried → Bool → List ℕ → BlockKind → Result (Option CapturedPacket × Carried) BlockFault
block_gives c big block section =
    if short_at big 12 block == ng_major
    then Ok (None, record (past c) { big = big; described = [] })
    else Err (ng_version (c.blocks + 1))
block_gives c big block interface =
    if length c.described == most_interfaces
    then Err (interfaces (c.blocks + 1))
    else Ok (None, record (past c) { described = c.described ++ interface_at big (length block) block ∷ [] })
block_gives c big block enhanced = enhanced_at c big block (slice_get c.described (long_at big 8 block))
block_gives c big block simple = simple_at c big block (slice_get c.described 0)
block_gives c big block other = Ok (None, past c)
