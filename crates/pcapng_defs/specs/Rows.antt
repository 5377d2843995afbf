-- pcapng captures, whole and at fault, and how they are read.
use Rattle.std.specs.Prelude.{◌≡◌, refl, ℕ, false, Option, Some, None, List, [], ◌∷◌, ◌++◌, length, map, take, drop, replicate, ◌^◌, ◌+◌, ◌-◌}
use Rattle.pcapng_defs.specs.declared.interface.Unit.TheVariants.{Decimal, Binary}
use Rattle.pcapng_defs.specs.Fault.{BlockFault, block_cut, block_length, order_magic, ng_version, no_interface, packet_length, interfaces, too_many_blocks, block_end, code, place}
use Rattle.pcapng_defs.specs.Moment.{moment_in}
use Rattle.pcapng_defs.specs.Interface.{unit_of, unit_from, option_front}
use Rattle.pcap_defs.specs.Packet.{CapturedPacket, packet_with}
use Rattle.pcapng_defs.specs.Block.{Carried}
use Rattle.pcapng_defs.specs.NgCapture.{BlockFront, nothing, broken, reading_of, ng_capture_of, front_of, read_from}

-- a section header of 28 bytes, little-endian, version 1.0
abbrev pub section_header : List ℕ
section_header =
    (0x0A ∷ 0x0D ∷ 0x0D ∷ 0x0A ∷ 28 ∷ 0 ∷ 0 ∷ 0 ∷ []) ++ (0x4D ∷ 0x3C ∷ 0x2B ∷ 0x1A ∷ 1 ∷ 0 ∷ 0 ∷ 0 ∷ [])
    ++ replicate 8 0xFF ++ (28 ∷ 0 ∷ 0 ∷ 0 ∷ [])

-- an interface with link type 147 and snapshot length 262144, without options
abbrev pub plain_interface : List ℕ
plain_interface =
    (1 ∷ 0 ∷ 0 ∷ 0 ∷ 20 ∷ 0 ∷ 0 ∷ 0 ∷ []) ++ (0x93 ∷ 0 ∷ 0 ∷ 0 ∷ 0 ∷ 0 ∷ 4 ∷ 0 ∷ []) ++ (20 ∷ 0 ∷ 0 ∷ 0 ∷ [])

-- an enhanced packet of interface 0 with these low bytes of its timestamp and four captured bytes
-- of four, the last of them given
abbrev pub plain_packet : ℕ → ℕ → ℕ → ℕ → List ℕ
plain_packet a b c last =
    (6 ∷ 0 ∷ 0 ∷ 0 ∷ 36 ∷ 0 ∷ 0 ∷ 0 ∷ []) ++ replicate 8 0 ++ (a ∷ b ∷ c ∷ 0 ∷ 4 ∷ 0 ∷ 0 ∷ 0 ∷ [])
    ++ (4 ∷ 0 ∷ 0 ∷ 0 ∷ 0 ∷ 0 ∷ 0 ∷ last ∷ []) ++ (36 ∷ 0 ∷ 0 ∷ 0 ∷ [])

-- 120 bytes: a section with one interface and two packets, at seconds 1 and 2
abbrev pub two_packets : List ℕ
two_packets = section_header ++ plain_interface ++ plain_packet 0x40 0x42 0x0F 1 ++ plain_packet 0x80 0x84 0x1E 2

pub two_packets_length : length two_packets ≡ 120
two_packets_length = refl

abbrev pub packet_of : ℕ → ℕ → CapturedPacket
packet_of moment last = record { link = 147; moment = moment; original = 4; captured = 0 ∷ 0 ∷ 0 ∷ last ∷ [] }

-- the packets of a file, and its fault
abbrev pub told : List ℕ → List CapturedPacket × Option BlockFault
told file = ((ng_capture_of file).packets, (ng_capture_of file).fault)

pub two_packets_whole : told two_packets ≡ (packet_of 1000000000 1 ∷ packet_of 2000000000 2 ∷ [], None)
unfolding front_of read_from unit_from option_front
two_packets_whole = refl

-- a packet like the plain ones, at 513 times 2^32 microseconds and 259 more
abbrev pub late_packet : List ℕ
late_packet = take 12 (plain_packet 0 0 0 1) ++ (1 ∷ 2 ∷ 0 ∷ 0 ∷ 3 ∷ 1 ∷ 0 ∷ 0 ∷ []) ++ drop 20 (plain_packet 0 0 0 1)

pub high_half_of_a_time : told (section_header ++ plain_interface ++ late_packet) ≡ (packet_of 2203318223107000 1 ∷ [], None)
unfolding front_of read_from unit_from option_front
high_half_of_a_time = refl

-- the state after the last block
pub two_packets_carried : (ng_capture_of two_packets).carried ≡ record { big = false; described = record { link = 147; snapshot = 262144; unit = Decimal 6 } ∷ []; moment = 2000000000; blocks = 4 }
unfolding front_of read_from unit_from option_front
two_packets_carried = refl

-- the same packets as the records of a classic capture of microseconds
pub as_a_classic_capture : packet_with (record { link = 147; nano = false; big = false }) (record { seconds = 1; fraction = 0; original = 4; captured = 0 ∷ 0 ∷ 0 ∷ 1 ∷ [] }) ≡ packet_of 1000000000 1
as_a_classic_capture = refl

-- the first 118 bytes
pub last_block_cut : told (take 118 two_packets) ≡ (packet_of 1000000000 1 ∷ [], Some (block_cut 4))
unfolding front_of read_from unit_from option_front
last_block_cut = refl

pub eleven_bytes_of_a_block : told (take 95 two_packets) ≡ (packet_of 1000000000 1 ∷ [], Some (block_cut 4))
unfolding front_of read_from unit_from option_front
eleven_bytes_of_a_block = refl

pub no_byte : told [] ≡ ([], Some (block_cut 1))
unfolding front_of read_from
no_byte = refl

-- a section header alone is a capture
pub no_packet : told section_header ≡ ([], None)
unfolding front_of read_from
no_packet = refl

-- 28 bytes, all zeros after the first four
pub no_byte_order : told (take 4 section_header ++ replicate 24 0) ≡ ([], Some (order_magic 1))
unfolding front_of read_from
no_byte_order = refl

pub no_section_header : told plain_interface ≡ ([], Some (order_magic 1))
unfolding front_of read_from
no_section_header = refl

-- the same in big-endian: a section header, an interface of link type 1 whose times count 2^-10
-- seconds, and a packet of interface 0 at 1536 of these units, with two of its 46 bytes captured
abbrev pub big_section_header : List ℕ
big_section_header =
    (0x0A ∷ 0x0D ∷ 0x0D ∷ 0x0A ∷ 0 ∷ 0 ∷ 0 ∷ 28 ∷ []) ++ (0x1A ∷ 0x2B ∷ 0x3C ∷ 0x4D ∷ 0 ∷ 1 ∷ 0 ∷ 2 ∷ [])
    ++ replicate 8 0xFF ++ (0 ∷ 0 ∷ 0 ∷ 28 ∷ [])

abbrev pub binary_interface : List ℕ
binary_interface =
    (0 ∷ 0 ∷ 0 ∷ 1 ∷ 0 ∷ 0 ∷ 0 ∷ 32 ∷ []) ++ (0 ∷ 1 ∷ 0 ∷ 0 ∷ 0 ∷ 0 ∷ 0 ∷ 0 ∷ [])
    ++ (0 ∷ 9 ∷ 0 ∷ 1 ∷ 0x8A ∷ 0 ∷ 0 ∷ 0 ∷ []) ++ (0 ∷ 0 ∷ 0 ∷ 0 ∷ 0 ∷ 0 ∷ 0 ∷ 32 ∷ [])

abbrev pub big_packet : List ℕ
big_packet =
    (0 ∷ 0 ∷ 0 ∷ 6 ∷ 0 ∷ 0 ∷ 0 ∷ 36 ∷ []) ++ replicate 8 0 ++ (0 ∷ 0 ∷ 6 ∷ 0 ∷ 0 ∷ 0 ∷ 0 ∷ 2 ∷ [])
    ++ (0 ∷ 0 ∷ 0 ∷ 46 ∷ 7 ∷ 8 ∷ 0 ∷ 0 ∷ []) ++ (0 ∷ 0 ∷ 0 ∷ 36 ∷ [])

abbrev pub big_told : CapturedPacket
big_told = record { link = 1; moment = 1500000000; original = 46; captured = 7 ∷ 8 ∷ [] }

pub two_sections : told (two_packets ++ big_section_header ++ binary_interface ++ big_packet) ≡ (packet_of 1000000000 1 ∷ packet_of 2000000000 2 ∷ big_told ∷ [], None)
unfolding front_of read_from unit_from option_front
two_sections = refl

-- a section begins without interfaces
pub interfaces_of_another_section : told (section_header ++ plain_interface ++ big_section_header ++ big_packet) ≡ ([], Some (no_interface 4))
unfolding front_of read_from unit_from option_front
interfaces_of_another_section = refl

-- a simple packet of this original length, with four bytes present
abbrev pub simple_packet : ℕ → List ℕ
simple_packet original = (3 ∷ 0 ∷ 0 ∷ 0 ∷ 20 ∷ 0 ∷ 0 ∷ 0 ∷ []) ++ (original ∷ 0 ∷ 0 ∷ 0 ∷ 1 ∷ 2 ∷ 3 ∷ 4 ∷ []) ++ (20 ∷ 0 ∷ 0 ∷ 0 ∷ [])

-- an interface of link type 147 and this snapshot length
abbrev pub cutting_interface : ℕ → List ℕ
cutting_interface most =
    (1 ∷ 0 ∷ 0 ∷ 0 ∷ 20 ∷ 0 ∷ 0 ∷ 0 ∷ []) ++ (0x93 ∷ 0 ∷ 0 ∷ 0 ∷ most ∷ 0 ∷ 0 ∷ 0 ∷ []) ++ (20 ∷ 0 ∷ 0 ∷ 0 ∷ [])

-- the first packet has timestamp 0
pub simple_packet_cut : told (section_header ++ cutting_interface 2 ++ simple_packet 5) ≡ (record { link = 147; moment = 0; original = 5; captured = 1 ∷ 2 ∷ [] } ∷ [], None)
unfolding front_of read_from unit_from option_front
simple_packet_cut = refl

-- a snapshot length above the packet's length has no effect, and padding isn't captured
pub simple_packet_below_the_snapshot_length : map (λ original. told (section_header ++ cutting_interface 6 ++ simple_packet original)) (4 ∷ 3 ∷ []) ≡ (record { link = 147; moment = 0; original = 4; captured = 1 ∷ 2 ∷ 3 ∷ 4 ∷ [] } ∷ [], None) ∷ (record { link = 147; moment = 0; original = 3; captured = 1 ∷ 2 ∷ 3 ∷ [] } ∷ [], None) ∷ []
unfolding front_of read_from unit_from option_front
simple_packet_below_the_snapshot_length = refl

-- a snapshot length of 0 means no limit
pub simple_packet_whole : told (section_header ++ cutting_interface 0 ++ simple_packet 4) ≡ (record { link = 147; moment = 0; original = 4; captured = 1 ∷ 2 ∷ 3 ∷ 4 ∷ [] } ∷ [], None)
unfolding front_of read_from unit_from option_front
simple_packet_whole = refl

-- the previous packet is in another section
pub moment_of_the_packet_before : told (two_packets ++ section_header ++ cutting_interface 2 ++ simple_packet 5) ≡ (packet_of 1000000000 1 ∷ packet_of 2000000000 2 ∷ record { link = 147; moment = 2000000000; original = 5; captured = 1 ∷ 2 ∷ [] } ∷ [], None)
unfolding front_of read_from unit_from option_front
moment_of_the_packet_before = refl

pub simple_packet_without_interface : told (section_header ++ simple_packet 4) ≡ ([], Some (no_interface 2))
unfolding front_of read_from
simple_packet_without_interface = refl

pub simple_packet_too_long : told (section_header ++ cutting_interface 0 ++ simple_packet 5) ≡ ([], Some (packet_length 3))
unfolding front_of read_from unit_from option_front
simple_packet_too_long = refl

-- an enhanced packet with captured length five, of which four bytes are present
pub packet_too_long : told (section_header ++ plain_interface ++ take 20 (plain_packet 0 0 0 0) ++ 5 ∷ drop 21 (plain_packet 0 0 0 0)) ≡ ([], Some (packet_length 3))
unfolding front_of read_from unit_from option_front
packet_too_long = refl

-- a packet of interface 1, if only interface 0 is described
pub interface_not_described : told (section_header ++ plain_interface ++ take 8 (plain_packet 0 0 0 0) ++ 1 ∷ drop 9 (plain_packet 0 0 0 0)) ≡ ([], Some (no_interface 3))
unfolding front_of read_from unit_from option_front
interface_not_described = refl

-- a block of another type, with these total lengths
abbrev pub other_block : ℕ → ℕ → List ℕ
other_block before after = (9 ∷ 0 ∷ 0 ∷ 0 ∷ before ∷ 0 ∷ 0 ∷ 0 ∷ []) ++ replicate 4 7 ++ (after ∷ 0 ∷ 0 ∷ 0 ∷ [])

pub other_block_passed : told (section_header ++ other_block 16 16 ++ drop 28 two_packets) ≡ (packet_of 1000000000 1 ∷ packet_of 2000000000 2 ∷ [], None)
unfolding front_of read_from unit_from option_front
other_block_passed = refl

-- a block without a body: its two total lengths are adjacent
abbrev pub empty_block : ℕ → List ℕ
empty_block after = (9 ∷ 0 ∷ 0 ∷ 0 ∷ 12 ∷ 0 ∷ 0 ∷ 0 ∷ []) ++ (after ∷ 0 ∷ 0 ∷ 0 ∷ [])

pub empty_block_passed : told (section_header ++ empty_block 12 ++ drop 28 two_packets) ≡ (packet_of 1000000000 1 ∷ packet_of 2000000000 2 ∷ [], None)
unfolding front_of read_from unit_from option_front
empty_block_passed = refl

pub empty_block_at_the_end : map told ((section_header ++ empty_block 12) ∷ (section_header ++ empty_block 16) ∷ (section_header ++ take 11 (empty_block 12)) ∷ []) ≡ ([], None) ∷ ([], Some (block_end 2)) ∷ ([], Some (block_cut 2)) ∷ []
unfolding front_of read_from
empty_block_at_the_end = refl

pub lengths_differ : told (section_header ++ other_block 16 20) ≡ ([], Some (block_end 2))
unfolding front_of read_from
lengths_differ = refl

pub no_multiple_of_four : told (section_header ++ other_block 15 15) ≡ ([], Some (block_length 2))
unfolding front_of read_from
no_multiple_of_four = refl

pub block_too_short : told (section_header ++ other_block 8 8) ≡ ([], Some (block_length 2))
unfolding front_of read_from
block_too_short = refl

-- the fronts of these bytes after one block
abbrev pub fronts : List (List ℕ) → List BlockFront
fronts rests = map (λ rest. front_of (record { big = false; described = []; moment = 0; blocks = 1 }) rest) rests

-- twelve bytes of a block with this type and the first, third and fourth byte of its total length
abbrev pub preface : ℕ → ℕ → ℕ → ℕ → List ℕ
preface number low third high = (number ∷ 0 ∷ 0 ∷ 0 ∷ low ∷ 0 ∷ third ∷ high ∷ []) ++ replicate 4 0

-- the least lengths of an interface, an enhanced packet, a simple packet and another block; then
-- the greatest
pub least_lengths : fronts (preface 1 16 0 0 ∷ preface 1 20 0 0 ∷ preface 6 28 0 0 ∷ preface 6 32 0 0 ∷ preface 3 12 0 0 ∷ preface 3 16 0 0 ∷ preface 9 8 0 0 ∷ preface 9 16 0 0 ∷ [])
    ≡ broken (block_length 2) ∷ broken (block_cut 2) ∷ broken (block_length 2) ∷ broken (block_cut 2) ∷ broken (block_length 2) ∷ broken (block_cut 2) ∷ broken (block_length 2) ∷ broken (block_cut 2) ∷ []
unfolding front_of
least_lengths = refl

pub greatest_length : fronts (preface 9 0 0 1 ∷ preface 9 4 0 1 ∷ []) ≡ broken (block_cut 2) ∷ broken (block_length 2) ∷ []
unfolding front_of
greatest_length = refl

-- a section header of 24 bytes
pub section_header_too_short : told (take 4 section_header ++ 24 ∷ drop 5 section_header) ≡ ([], Some (block_length 1))
unfolding front_of read_from
section_header_too_short = refl

-- major versions 2 and 257
pub another_version : map told ((take 12 section_header ++ 2 ∷ drop 13 section_header) ∷ (take 13 section_header ++ 1 ∷ drop 14 section_header) ∷ []) ≡ ([], Some (ng_version 1)) ∷ ([], Some (ng_version 1)) ∷ []
unfolding front_of read_from
another_version = refl

-- another section header without a byte order
pub no_byte_order_later : told (two_packets ++ take 8 section_header ++ replicate 20 0) ≡ (packet_of 1000000000 1 ∷ packet_of 2000000000 2 ∷ [], Some (order_magic 5))
unfolding front_of read_from unit_from option_front
no_byte_order_later = refl

-- the state after a section header and this many equal interfaces
abbrev pub with_interfaces : ℕ → Carried
with_interfaces n = record { big = false; described = replicate n (record { link = 147; snapshot = 0; unit = Decimal 6 }); moment = 0; blocks = n + 1 }

pub one_interface_too_many : front_of (with_interfaces 1024) plain_interface ≡ broken (interfaces 1026)
unfolding front_of
one_interface_too_many = refl

pub last_interface : (reading_of (with_interfaces 1023) plain_interface).fault ≡ None
unfolding front_of read_from unit_from option_front
last_interface = refl

-- the state after this many blocks; the tests use the last block allowed, and the one before it
abbrev pub behind_blocks : ℕ → Carried
behind_blocks n = record { big = false; described = []; moment = 0; blocks = n }

pub one_block_too_many : front_of (behind_blocks 4294967295) (7 ∷ []) ≡ broken (too_many_blocks 4294967296)
unfolding front_of
one_block_too_many = refl

pub last_block : front_of (behind_blocks 4294967294) (7 ∷ []) ≡ broken (block_cut 4294967295)
unfolding front_of
last_block = refl

pub all_blocks : front_of (behind_blocks 4294967295) [] ≡ nothing
unfolding front_of
all_blocks = refl

-- timestamps: microseconds, nanoseconds, seconds, tenths of nanoseconds rounded down, and the
-- finest unit
pub decimal_moments : map (λ unit. moment_in unit 1000019) (Decimal 6 ∷ Decimal 9 ∷ Decimal 0 ∷ Decimal 10 ∷ Decimal 127 ∷ []) ≡ 1000019000 ∷ 1000019 ∷ 1000019000000000 ∷ 100001 ∷ 0 ∷ []
decimal_moments = refl

pub binary_moments : map (λ unit. moment_in unit (2 ^ 63 + 3)) (Binary 0 ∷ Binary 31 ∷ Binary 32 ∷ Binary 63 ∷ Binary 64 ∷ Binary 127 ∷ []) ≡ (2 ^ 62 - 1) ∷ 4294967296000000001 ∷ 2147483648000000000 ∷ 1000000000 ∷ 500000000 ∷ 0 ∷ []
binary_moments = refl

-- the greatest timestamp, one nanosecond before it, and one after it
pub greatest_moments : map (λ time. moment_in (Decimal 9) time) ((2 ^ 62 - 2) ∷ (2 ^ 62 - 1) ∷ 2 ^ 62 ∷ []) ≡ (2 ^ 62 - 2) ∷ (2 ^ 62 - 1) ∷ (2 ^ 62 - 1) ∷ []
greatest_moments = refl

-- options: none; the unit after a comment of three bytes; the first of two units; a value of two
-- bytes first; one after the end; and a cut one
pub units : map (λ bytes. unit_of false bytes) (
    []
    ∷ (1 ∷ 0 ∷ 3 ∷ 0 ∷ 65 ∷ 66 ∷ 67 ∷ 0 ∷ 9 ∷ 0 ∷ 1 ∷ 0 ∷ 9 ∷ 0 ∷ 0 ∷ 0 ∷ [])
    ∷ (9 ∷ 0 ∷ 1 ∷ 0 ∷ 0xFF ∷ 0 ∷ 0 ∷ 0 ∷ 9 ∷ 0 ∷ 1 ∷ 0 ∷ 9 ∷ 0 ∷ 0 ∷ 0 ∷ [])
    ∷ (9 ∷ 0 ∷ 2 ∷ 0 ∷ 3 ∷ 3 ∷ 0 ∷ 0 ∷ 9 ∷ 0 ∷ 1 ∷ 0 ∷ 0x7F ∷ 0 ∷ 0 ∷ 0 ∷ [])
    ∷ (0 ∷ 0 ∷ 0 ∷ 0 ∷ 9 ∷ 0 ∷ 1 ∷ 0 ∷ 9 ∷ 0 ∷ 0 ∷ 0 ∷ [])
    ∷ (9 ∷ 0 ∷ 1 ∷ 0 ∷ [])
    ∷ [])
    ≡ Decimal 6 ∷ Decimal 9 ∷ Binary 127 ∷ Decimal 127 ∷ Decimal 6 ∷ Decimal 6 ∷ []
unfolding unit_from option_front
units = refl

-- the unit after a value of 4 bytes, of 8 bytes and of none, each without padding
pub options_of_whole_words : map (λ bytes. unit_of false bytes) (
    (1 ∷ 0 ∷ 4 ∷ 0 ∷ 65 ∷ 66 ∷ 67 ∷ 68 ∷ 9 ∷ 0 ∷ 1 ∷ 0 ∷ 9 ∷ 0 ∷ 0 ∷ 0 ∷ [])
    ∷ (1 ∷ 0 ∷ 8 ∷ 0 ∷ 65 ∷ 66 ∷ 67 ∷ 68 ∷ 69 ∷ 70 ∷ 71 ∷ 72 ∷ 9 ∷ 0 ∷ 1 ∷ 0 ∷ 9 ∷ 0 ∷ 0 ∷ 0 ∷ [])
    ∷ (1 ∷ 0 ∷ 0 ∷ 0 ∷ 9 ∷ 0 ∷ 1 ∷ 0 ∷ 9 ∷ 0 ∷ 0 ∷ 0 ∷ [])
    ∷ [])
    ≡ Decimal 9 ∷ Decimal 9 ∷ Decimal 9 ∷ []
unfolding unit_from option_front
options_of_whole_words = refl

-- the codes of faults and the blocks at fault
pub codes_of_faults : map code (block_cut 9 ∷ block_length 9 ∷ order_magic 9 ∷ ng_version 9 ∷ no_interface 9 ∷ packet_length 9 ∷ interfaces 9 ∷ too_many_blocks 9 ∷ block_end 9 ∷ []) ≡ 11 ∷ 12 ∷ 13 ∷ 14 ∷ 15 ∷ 16 ∷ 17 ∷ 18 ∷ 19 ∷ []
codes_of_faults = refl

pub places_of_faults : map place (block_cut 1 ∷ block_length 2 ∷ order_magic 3 ∷ ng_version 4 ∷ no_interface 5 ∷ packet_length 6 ∷ interfaces 7 ∷ too_many_blocks 8 ∷ block_end 9 ∷ []) ≡ 1 ∷ 2 ∷ 3 ∷ 4 ∷ 5 ∷ 6 ∷ 7 ∷ 8 ∷ 9 ∷ []
places_of_faults = refl
