-- The cause of each fault of a pcapng capture, in the order in which they are tested.
use Rattle.std.specs.Prelude.{◌≡◌, ◌≢◌, ◌↔◌, ◌⊎◌, ◌<◌, ◌≤◌, ◌+◌, ◌-◌, ℕ, Bool, true, Some, None, List, [], ◌++◌, length, slice_get}
use Rattle.pcap_defs.specs.Number.{long_at, short_at}
use Rattle.pcap_defs.specs.Record.{most_captured}
use Rattle.pcapng_defs.specs.declared.interface.Interface.{Interface}
use Rattle.pcapng_defs.specs.Fault.{BlockFault, block_cut, block_length, order_magic, ng_version, no_interface, packet_length, interfaces, too_many_blocks, block_end}
use Rattle.pcapng_defs.specs.Block.{Carried, BlockKind, section, interface, enhanced, simple, kind_of, ng_major, most_interfaces, simple_len}
use Rattle.pcapng_defs.specs.NgCapture.{order_at, fits_kind, block_len, most_blocks, nothing, broken, front_of}
use Rattle.pcapng_defs.specs.WholeBlock.{IsWholeBlock}

-- this many captured bytes at this position are more than a packet may have, or don't fit in the
-- block
abbrev pub IsTooLong : ℕ → ℕ → List ℕ → Type 0
IsTooLong count at block = (most_captured < count) ⊎ (length block < at + count + 4)

-- The body of a whole block of this kind has this fault.
abbrev pub IsBodyFault : Carried → Bool → List ℕ → BlockKind → BlockFault → Type 0
IsBodyFault c big block kind (ng_version n) = (n ≡ c.blocks + 1) × (kind ≡ section) × (short_at big 12 block ≢ ng_major)
IsBodyFault c big block kind (interfaces n) = (n ≡ c.blocks + 1) × (kind ≡ interface) × (length c.described ≡ most_interfaces)
IsBodyFault c big block kind (no_interface n) =
    (n ≡ c.blocks + 1)
    × (((kind ≡ enhanced) × (slice_get c.described (long_at big 8 block) ≡ None)) ⊎ ((kind ≡ simple) × (slice_get c.described 0 ≡ None)))
IsBodyFault c big block kind (packet_length n) =
    (n ≡ c.blocks + 1) × (i : Interface)
    × (((kind ≡ enhanced) × (slice_get c.described (long_at big 8 block) ≡ Some i) × IsTooLong (long_at big 20 block) 28 block)
    ⊎ ((kind ≡ simple) × (slice_get c.described 0 ≡ Some i) × IsTooLong (simple_len i (long_at big 8 block)) 12 block))
IsBodyFault c big block kind _ = ⊥

-- Another block is allowed, and at least its first twelve bytes are left, in this byte order.
pub record IsBegun (c : Carried) (big : Bool) (rest : List ℕ) : Type 0 where
  pub few : c.blocks ≢ most_blocks
  pub enough : block_len ≤ length rest
  pub order : order_at c rest ≡ Some big

-- the total length is one that a block of its kind can have
abbrev pub HasLength : Bool → List ℕ → Type 0
HasLength big rest = fits_kind (kind_of (long_at big 0 rest)) (long_at big 4 rest) ≡ true

-- fewer than twelve bytes are left and another block is allowed; no bytes at all only if it is
-- block 1
pub record IsCutFront (c : Carried) (rest : List ℕ) : Type 0 where
  pub few : c.blocks ≢ most_blocks
  pub cut : length rest < block_len
  pub some : (0 < length rest) ⊎ (c.blocks ≡ 0)

-- A whole block is at the front, and its body has this fault.
pub record HasBadBody (c : Carried) (rest : List ℕ) (fault : BlockFault) : Type 0 where
  pub big : Bool
  pub kind : BlockKind
  pub block : List ℕ
  pub others : List ℕ
  pub split : rest ≡ block ++ others
  pub few : c.blocks ≢ most_blocks
  pub order : order_at c block ≡ Some big
  pub whole : IsWholeBlock big kind block
  pub body : IsBodyFault c big block kind fault

-- The remaining bytes have this fault.
abbrev pub IsBlockFault : Carried → List ℕ → BlockFault → Type 0
IsBlockFault c rest (too_many_blocks n) = (n ≡ c.blocks + 1) × (c.blocks ≡ most_blocks) × (0 < length rest)
IsBlockFault c rest (order_magic n) = (n ≡ c.blocks + 1) × (c.blocks ≢ most_blocks) × (block_len ≤ length rest) × (order_at c rest ≡ None)
IsBlockFault c rest (block_length n) = (n ≡ c.blocks + 1) × (big : Bool) × IsBegun c big rest × (HasLength big rest → ⊥)
IsBlockFault c rest (block_cut n) =
    (n ≡ c.blocks + 1)
    × (IsCutFront c rest ⊎ ((big : Bool) × IsBegun c big rest × HasLength big rest × (length rest < long_at big 4 rest)))
IsBlockFault c rest (block_end n) =
    (n ≡ c.blocks + 1) × (big : Bool) × IsBegun c big rest × HasLength big rest × (long_at big 4 rest ≤ length rest)
    × (long_at big (long_at big 4 rest - 4) rest ≢ long_at big 4 rest)
IsBlockFault c rest fault = HasBadBody c rest fault

-- the front is a fault exactly if the remaining bytes have it, and the end exactly if nothing is
-- left after a block
pub record ReadsFaults : Type 0 where
  pub faults : (c : Carried) (rest : List ℕ) (fault : BlockFault) → IsBlockFault c rest fault ↔ (front_of c rest ≡ broken fault)
  pub ends : (c : Carried) (rest : List ℕ) → ((rest ≡ []) × (c.blocks ≢ 0)) ↔ (front_of c rest ≡ nothing)
