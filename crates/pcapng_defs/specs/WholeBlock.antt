-- A whole block without a fault, as bytes (draft-ietf-opsawg-pcapng, 3.1).
use Rattle.std.specs.Prelude.{◌≡◌, ◌≢◌, ◌↔◌, ◌≤◌, ◌%◌, ◌-◌, ℕ, Bool, Option, Some, Ok, List, ◌++◌, length}
use Rattle.pcap_defs.specs.Number.{long_at}
use Rattle.pcap_defs.specs.Packet.{CapturedPacket}
use Rattle.pcapng_defs.specs.Block.{Carried, BlockKind, kind_of, least_total, most_total, block_gives}
use Rattle.pcapng_defs.specs.NgCapture.{order_at, most_blocks, found, front_of}

-- These bytes are a block of this kind. Their number is at their front and at their end.
pub record IsWholeBlock (big : Bool) (kind : BlockKind) (bytes : List ℕ) : Type 0 where
  pub kind_is : kind_of (long_at big 0 bytes) ≡ kind
  pub before : long_at big 4 bytes ≡ length bytes
  pub behind : long_at big (length bytes - 4) bytes ≡ length bytes
  pub filled : length bytes % 4 ≡ 0
  pub enough : least_total kind ≤ length bytes
  pub short : length bytes ≤ most_total

-- These bytes are the next block, with its packet, if it is one, and the next state.
pub record IsBlock (c : Carried) (packet : Option CapturedPacket) (after : Carried) (bytes : List ℕ) : Type 0 where
  pub big : Bool
  pub kind : BlockKind
  pub few : c.blocks ≢ most_blocks
  pub order : order_at c bytes ≡ Some big
  pub whole : IsWholeBlock big kind bytes
  pub gives : block_gives c big bytes kind ≡ Ok (packet, after)

-- a block is found exactly if the remaining bytes begin with one
abbrev pub ReadsBlocks : Type 0
ReadsBlocks =
    (c after : Carried) (packet : Option CapturedPacket) (rest others : List ℕ) →
    ((block : List ℕ) × (rest ≡ block ++ others) × IsBlock c packet after block) ↔ (front_of c rest ≡ found packet after others)
