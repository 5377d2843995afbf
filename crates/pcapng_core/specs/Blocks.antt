-- The block at the front of the remaining bytes, in a reader's steps.
use Rattle.std.specs.Prelude.{◌≡◌, ◌≢◌, ◌<◌, ◌≤◌, ◌+◌, ◌-◌, ℕ, true, Option, Some, None, List, length, take, drop, ⊤}
use Rattle.pcap_defs.specs.Number.{long_at}
use Rattle.pcapng_defs.specs.declared.interface.Unit.{Unit}
use Rattle.pcapng_defs.specs.Fault.{BlockFault, block_cut, block_end}
use Rattle.pcapng_defs.specs.Interface.{unit_of}
use Rattle.pcapng_defs.specs.Block.{Carried, kind_of}
use Rattle.pcapng_defs.specs.NgCapture.{order_at, fits_kind, most_blocks, block_len}
use Rattle.pcapng_core.specs.Kinds.{kind_said}
use Rattle.pcapng_core.specs.declared.start.Kind.TheVariants as kind
use Rattle.pcapng_core.specs.declared.start.Start.{Start}

-- Another block is allowed, at least its first twelve bytes are left, and they have these values.
pub record IsStart (c : Carried) (s : Start) (rest : List ℕ) : Type 0 where
  pub few : c.blocks ≢ most_blocks
  pub enough : block_len ≤ length rest
  pub order : order_at c rest ≡ Some s.big
  pub kind : kind_of (long_at s.big 0 rest) ≡ kind_said s.kind
  pub total : long_at s.big 4 rest ≡ s.total
  pub fits : fits_kind (kind_said s.kind) s.total ≡ true

-- After `front` bytes of the block there is room for the captured bytes and the total length, or
-- the total length was among those bytes. An interface has its options there.
pub record HasRoom (s : Start) (front captured : ℕ) : Type 0 where
  pub least : 12 ≤ s.total
  pub short : s.total ≡ 12 → (front ≡ 12) × (captured ≡ 0)
  pub room : 12 < s.total → front + captured + 4 ≤ s.total
  pub options : s.kind ≡ kind.Interface → (front ≡ 16) × (captured ≡ 0) × (20 ≤ s.total)

-- The block is whole, its total length is repeated at its end, and the captured bytes are after its
-- first `front` bytes. The options of an interface give the unit.
pub record IsReadTo (s : Start) (front captured : ℕ) (into : List ℕ) (unit : Unit) (rest others : List ℕ) : Type 0 where
  pub whole : s.total ≤ length rest
  pub end : long_at s.big (s.total - 4) rest ≡ s.total
  pub behind : others ≡ drop s.total rest
  pub into_is : into ≡ take captured (drop front rest)
  pub unit_is : s.kind ≡ kind.Interface → unit_of s.big (take (s.total - 20) (drop 16 rest)) ≡ unit

-- the same, if the remaining bytes are known to the contract
abbrev pub ReadsTo : Start → ℕ → ℕ → List ℕ → Unit → Option (List ℕ) → Option (List ℕ) → Type 0
ReadsTo s front captured into unit None new = ⊤
ReadsTo s front captured into unit (Some old) None = ⊥
ReadsTo s front captured into unit (Some old) (Some new) = IsReadTo s front captured into unit old new

-- the block is cut, or has another total length at its end
abbrev pub IsEndFault : Start → ℕ → List ℕ → BlockFault → Type 0
IsEndFault s number rest (block_cut n) = (n ≡ number) × (length rest < s.total)
IsEndFault s number rest (block_end n) = (n ≡ number) × (s.total ≤ length rest) × (long_at s.big (s.total - 4) rest ≢ s.total)
IsEndFault s number rest _ = ⊥
