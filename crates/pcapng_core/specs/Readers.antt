-- The state of a reader of pcapng captures.
use Rattle.std.specs.Prelude.{◌≡◌, ◌≢◌, ◌≤◌, ℕ, Bool, true, Option, Some, None, List, [], IfSome, ⊤}
use Rattle.rank_defs.specs.Programs.{max_rank}
use Rattle.pcap_defs.specs.Record.{most_captured}
use Rattle.pcapng_core.specs.declared.reader.Block.{Block}
use Rattle.pcapng_core.specs.declared.reader.Block.TheVariants as block
use Rattle.pcap_core.specs.Rest.{rest_of, LeavesNothing}
use Rattle.pcapng_defs.specs.Fault.{BlockFault}
use Rattle.pcap_defs.specs.Packet.{CapturedPacket}
use Rattle.pcapng_defs.specs.Block.{Carried, at_start}
use Rattle.pcapng_defs.specs.NgCapture.{front_of, found, reading_of, behind}
use Rattle.pcap_core.specs.Held.{held}
use Rattle.pcapng_core.specs.Bodies.{packet_told}
use Rattle.pcapng_core.specs.Carries.{carried_of}
use Rattle.pcapng_core.specs.declared.body.Packet.{Packet}
use Rattle.pcapng_core.specs.declared.reader.NgReader.{NgReader}

-- the state that it carries from block to block
abbrev pub carry_of : NgReader → Carried
carry_of reader = carried_of reader.carry

-- the number of packets returned or skipped
abbrev pub packets_given : NgReader → ℕ
packets_given reader = reader.packets

-- the bytes that were read but not consumed
abbrev pub bytes_held : NgReader → List ℕ
bytes_held reader = held reader.window

-- the captured bytes of the packet read last, where the buffer for them has these contents: all are
-- copied
abbrev pub captured_of : NgReader → List ℕ → List ℕ
captured_of reader copied = copied

-- no call has returned an error
abbrev pub is_live : NgReader → Bool
is_live reader = reader.live

-- the remaining bytes of the capture, if the rest of the file is known to the contract
abbrev pub rest_left : NgReader → Option (List ℕ) → Option (List ℕ)
rest_left reader left = rest_of (bytes_held reader) left

-- no byte was consumed
pub record IsFresh (reader : NgReader) : Type 0 where
  pub before : carry_of reader ≡ at_start
  pub none_given : packets_given reader ≡ 0
  pub live : is_live reader ≡ true

-- the packet of a block, with its captured bytes, if it is one
abbrev pub block_packet : Block → List ℕ → Option CapturedPacket
block_packet (block.Packet p) captured = Some (packet_told p captured)
block_packet _ captured = None

-- a packet has n captured bytes, no more than it may, and a timestamp of at most the greatest one
abbrev pub IsBoundedBlock : Block → ℕ → Type 0
IsBoundedBlock (block.Packet p) n = (p.moment ≤ max_rank) × (p.captured ≤ most_captured) × (p.captured ≡ n)
IsBoundedBlock _ n = ⊤

-- the same for a packet alone
abbrev pub IsBoundedPacket : Packet → ℕ → Type 0
IsBoundedPacket p n = (p.moment ≤ max_rank) × (p.captured ≤ most_captured) × (p.captured ≡ n)

-- the remaining bytes were a block with this packet and next state, and then the bytes left now
abbrev pub TakesBlock : Carried → Option CapturedPacket → Carried → Option (List ℕ) → Option (List ℕ) → Type 0
TakesBlock c packet after None new = ⊤
TakesBlock c packet after (Some old) None = ⊥
TakesBlock c packet after (Some old) (Some new) = front_of c old ≡ found packet after new

-- the reading of the remaining bytes is these packets, and then the reading of the bytes left now
abbrev pub GoesOn : Carried → List CapturedPacket → Carried → Option (List ℕ) → Option (List ℕ) → Type 0
GoesOn c packets after None new = ⊤
GoesOn c packets after (Some old) None = ⊥
GoesOn c packets after (Some old) (Some new) = reading_of c old ≡ behind packets (reading_of after new)

-- the remaining bytes have no packet, and this fault or none
pub record IsOver (c : Carried) (fault : Option BlockFault) (rest : List ℕ) : Type 0 where
  pub none : (reading_of c rest).packets ≡ []
  pub ends : (reading_of c rest).fault ≡ fault

-- At least one block was read. No packet and no fault was left, and nothing is left now.
pub record HasNoPacket (c after : Carried) (old new : Option (List ℕ)) : Type 0 where
  pub ended : IfSome old (IsOver c None)
  pub over : LeavesNothing old new
  pub came : after.blocks ≢ 0
