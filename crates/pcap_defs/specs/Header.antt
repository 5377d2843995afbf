-- The file header of a capture (libpcap 2.4).
use Rattle.std.specs.Prelude.{◌≡◌, ◌≢◌, ◌<◌, ◌≤◌, ◌%◌, ◌^◌, ℕ, Bool, if◌then◌else◌, List, [], ◌∷◌, length, take}
use Rattle.std.specs.Int.{w32, to_be_bytes, to_le_bytes}
use Rattle.pcap_defs.specs.declared.head.Head.{Head}
use Rattle.pcap_defs.specs.Number.{long_at, short_at}
use Rattle.pcap_defs.specs.Fault.{Fault, header_cut, bad_magic, pcap_ng, version}

-- the length of a file header in bytes
abbrev pub header_len : ℕ
header_len = 24

-- the magic number at the start of a capture, for its time unit
abbrev pub magic_number : Bool → ℕ
magic_number nano = if nano then 0xA1B23C4D else 0xA1B2C3D4

-- the magic number as bytes, in this byte order
abbrev pub magic_bytes : Bool → Bool → List ℕ
magic_bytes big nano = if big then to_be_bytes w32 (magic_number nano) else to_le_bytes w32 (magic_number nano)

-- the first four bytes of a file in the newer format pcapng
abbrev pub pcap_ng_bytes : List ℕ
pcap_ng_bytes = 0x0A ∷ 0x0D ∷ 0x0D ∷ 0x0A ∷ []

-- the file begins with the magic number for this byte order and time unit
abbrev pub HasMagic : Bool → Bool → List ℕ → Type 0
HasMagic big nano file = take 4 file ≡ magic_bytes big nano

abbrev pub major_version : ℕ
major_version = 2

-- These bytes are a header with these values. The minor version, the time zone, the significant
-- figures, the snapshot length and the high 16 bits of the link type may be anything.
pub record IsHeader (head : Head) (bytes : List ℕ) : Type 0 where
  pub whole : length bytes ≡ header_len
  pub magic : HasMagic head.big head.nano bytes
  pub major : short_at head.big 4 bytes ≡ major_version
  pub link : long_at head.big 20 bytes % 2 ^ 16 ≡ head.link

-- The file's header has this fault. Faults are tried in this order: too short, pcapng, no magic
-- number, another major version.
abbrev pub IsHeaderFault : List ℕ → Fault → Type 0
IsHeaderFault file header_cut = length file < header_len
IsHeaderFault file pcap_ng = (header_len ≤ length file) × (take 4 file ≡ pcap_ng_bytes)
IsHeaderFault file bad_magic =
    (header_len ≤ length file) × (take 4 file ≢ pcap_ng_bytes) × ((big nano : Bool) → HasMagic big nano file → ⊥)
IsHeaderFault file version =
    (header_len ≤ length file) × (big : Bool) × (nano : Bool) × HasMagic big nano file × (short_at big 4 file ≢ major_version)
IsHeaderFault file _ = ⊥
