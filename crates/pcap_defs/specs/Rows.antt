-- Captures of two records and of one, complete and cut, and how they are read.
use Rattle.std.specs.Prelude.{◌≡◌, ℕ, true, false, Some, None, Ok, List, [], ◌∷◌, ◌++◌, map, take, drop, replicate, refl}
use Rattle.pcap_defs.specs.Fault.{header_cut, bad_magic, pcap_ng, version, record_cut, data_cut, record_long, too_many, code, place}
use Rattle.pcap_defs.specs.Number.{long_at, short_at}
use Rattle.pcap_defs.specs.Record.{Record, moment}
use Rattle.pcap_defs.specs.Reading.{capture_of, head_of, front_of, records_from, packets, refused, broken, nothing}
use Rattle.pcap_defs.specs.declared.head.Head.{Head}

-- little-endian, microseconds, link type 147
abbrev pub plain_header : List ℕ
plain_header =
    (0xD4 ∷ 0xC3 ∷ 0xB2 ∷ 0xA1 ∷ 2 ∷ 0 ∷ 4 ∷ 0 ∷ []) ++ (0 ∷ 0 ∷ 0 ∷ 0 ∷ 0 ∷ 0 ∷ 0 ∷ 0 ∷ []) ++ (0 ∷ 0 ∷ 4 ∷ 0 ∷ 0x93 ∷ 0 ∷ 0 ∷ 0 ∷ [])

-- second 1, this fraction, four captured bytes of four, the last of them `last`
abbrev pub plain_record : ℕ → ℕ → List ℕ
plain_record fraction last = (1 ∷ 0 ∷ 0 ∷ 0 ∷ fraction ∷ 0 ∷ 0 ∷ 0 ∷ []) ++ (4 ∷ 0 ∷ 0 ∷ 0 ∷ 4 ∷ 0 ∷ 0 ∷ 0 ∷ []) ++ (0 ∷ 0 ∷ 0 ∷ last ∷ [])

abbrev pub two_packets : List ℕ
two_packets = plain_header ++ plain_record 0 1 ++ plain_record 1 2

abbrev pub plain_head : Head
plain_head = record { link = 0x93; nano = false; big = false }

abbrev pub first_packet : Record
first_packet = record { seconds = 1; fraction = 0; original = 4; captured = 0 ∷ 0 ∷ 0 ∷ 1 ∷ [] }

abbrev pub second_packet : Record
second_packet = record { seconds = 1; fraction = 1; original = 4; captured = 0 ∷ 0 ∷ 0 ∷ 2 ∷ [] }

pub two_packets_whole : capture_of two_packets ≡ packets plain_head (first_packet ∷ second_packet ∷ []) None
unfolding capture_of head_of front_of records_from
two_packets_whole = refl

pub header_alone : capture_of plain_header ≡ packets plain_head [] None
unfolding capture_of head_of front_of records_from
header_alone = refl

pub one_byte_of_a_record : capture_of (take 25 two_packets) ≡ packets plain_head [] (Some (record_cut 1))
unfolding capture_of head_of front_of records_from
one_byte_of_a_record = refl

pub no_captured_byte : capture_of (take 40 two_packets) ≡ packets plain_head [] (Some (data_cut 1))
unfolding capture_of head_of front_of records_from
no_captured_byte = refl

pub one_byte_missing : capture_of (take 63 two_packets) ≡ packets plain_head (first_packet ∷ []) (Some (data_cut 2))
unfolding capture_of head_of front_of records_from
one_byte_missing = refl

pub header_one_byte_short : capture_of (take 23 two_packets) ≡ refused header_cut
unfolding capture_of head_of
header_one_byte_short = refl

-- the plain header with these four bytes in place of its first four
abbrev pub begun_with : ℕ → ℕ → ℕ → ℕ → List ℕ
begun_with a b c d = a ∷ b ∷ c ∷ d ∷ drop 4 plain_header

pub newer_format : capture_of (begun_with 0x0A 0x0D 0x0D 0x0A) ≡ refused pcap_ng
unfolding capture_of head_of
newer_format = refl

-- a file that is too short is cut, whatever bytes it begins with
pub newer_format_cut : capture_of (take 23 (begun_with 0x0A 0x0D 0x0D 0x0A)) ≡ refused header_cut
unfolding capture_of head_of
newer_format_cut = refl

pub no_magic_number : capture_of (replicate 24 0) ≡ refused bad_magic
unfolding capture_of head_of
no_magic_number = refl

-- the plain header with another version
abbrev pub of_version : ℕ → ℕ → ℕ → List ℕ
of_version low high minor = take 4 plain_header ++ low ∷ high ∷ minor ∷ drop 7 plain_header

-- major versions 1, 3 and 258
pub another_major_version : map (λ file. capture_of file) (of_version 1 0 4 ∷ of_version 3 0 4 ∷ of_version 2 1 4 ∷ []) ≡ refused version ∷ refused version ∷ refused version ∷ []
unfolding capture_of head_of
another_major_version = refl

pub another_minor_version : head_of (of_version 2 0 9) ≡ Ok plain_head
unfolding head_of
another_minor_version = refl

-- the high 16 bits of the link type may be anything
pub high_bits_of_the_link_type : head_of (take 20 plain_header ++ 0x13 ∷ 0x81 ∷ 0x01 ∷ 0xF4 ∷ []) ≡ Ok (record plain_head { link = 33043 })
unfolding head_of
high_bits_of_the_link_type = refl

-- a record whose captured length is 262144 bytes plus this many, with none of them present
abbrev pub long_record : ℕ → List ℕ
long_record more = plain_header ++ replicate 8 0 ++ (more ∷ 0 ∷ 4 ∷ 0 ∷ []) ++ replicate 4 0

pub too_long_a_record : capture_of (long_record 1) ≡ packets plain_head [] (Some (record_long 1))
unfolding capture_of head_of front_of records_from
too_long_a_record = refl

pub longest_record : capture_of (long_record 0) ≡ packets plain_head [] (Some (data_cut 1))
unfolding capture_of head_of front_of records_from
longest_record = refl

-- big-endian, nanoseconds, link type 1
abbrev pub exact_header : List ℕ
exact_header =
    (0xA1 ∷ 0xB2 ∷ 0x3C ∷ 0x4D ∷ 0 ∷ 2 ∷ 0 ∷ 4 ∷ []) ++ replicate 8 0 ++ (0 ∷ 4 ∷ 0 ∷ 0 ∷ 0 ∷ 0 ∷ 0 ∷ 1 ∷ [])

-- second 10 and 5 nanoseconds, 0 captured bytes of 46
abbrev pub exact_record : List ℕ
exact_record = (0 ∷ 0 ∷ 0 ∷ 10 ∷ 0 ∷ 0 ∷ 0 ∷ 5 ∷ []) ++ (0 ∷ 0 ∷ 0 ∷ 0 ∷ 0 ∷ 0 ∷ 0 ∷ 46 ∷ [])

abbrev pub exact_head : Head
exact_head = record { link = 1; nano = true; big = true }

abbrev pub exact_packet : Record
exact_packet = record { seconds = 10; fraction = 5; original = 46; captured = [] }

pub highest_byte_first : capture_of (exact_header ++ exact_record) ≡ packets exact_head (exact_packet ∷ []) None
unfolding capture_of head_of front_of records_from
highest_byte_first = refl

-- the two other magic numbers: big-endian microseconds and little-endian nanoseconds
pub other_magic_numbers : map (λ file. head_of file) ((0xA1 ∷ 0xB2 ∷ 0xC3 ∷ 0xD4 ∷ drop 4 exact_header) ∷ begun_with 0x4D 0x3C 0xB2 0xA1 ∷ []) ≡ Ok (record exact_head { nano = false }) ∷ Ok (record plain_head { nano = true }) ∷ []
unfolding head_of
other_magic_numbers = refl

-- numbers of four and of two bytes at a position
pub long_numbers : map (λ big. long_at big 1 (9 ∷ 1 ∷ 2 ∷ 3 ∷ 0x84 ∷ 9 ∷ [])) (true ∷ false ∷ []) ≡ 0x01020384 ∷ 0x84030201 ∷ []
long_numbers = refl

pub short_numbers : map (λ big. short_at big 1 (9 ∷ 1 ∷ 0x82 ∷ 9 ∷ [])) (true ∷ false ∷ []) ≡ 0x0182 ∷ 0x8201 ∷ []
short_numbers = refl

pub moment-nano : moment true exact_packet ≡ 10000000005
moment-nano = refl

pub moment-micro : moment false second_packet ≡ 1000001000
moment-micro = refl

-- a fraction may exceed one second
pub moment-two_seconds : moment false (record second_packet { fraction = 1000001 }) ≡ 2000001000
moment-two_seconds = refl

-- nothing may follow the last record that a capture may have
pub one_record_too_many : front_of false 4294967295 (7 ∷ []) ≡ broken too_many
unfolding front_of
one_record_too_many = refl

pub last_record_cut : front_of false 4294967294 (7 ∷ []) ≡ broken (record_cut 4294967295)
unfolding front_of
last_record_cut = refl

pub all_records : front_of false 4294967295 [] ≡ nothing
unfolding front_of
all_records = refl

-- the codes of faults and the records at fault
pub codes_of_faults : map code (header_cut ∷ bad_magic ∷ pcap_ng ∷ version ∷ record_cut 9 ∷ data_cut 9 ∷ record_long 9 ∷ too_many ∷ []) ≡ 1 ∷ 2 ∷ 3 ∷ 4 ∷ 5 ∷ 6 ∷ 7 ∷ 8 ∷ []
codes_of_faults = refl

pub places_of_faults : map place (header_cut ∷ bad_magic ∷ pcap_ng ∷ version ∷ record_cut 7 ∷ data_cut 8 ∷ record_long 9 ∷ too_many ∷ []) ≡ 0 ∷ 0 ∷ 0 ∷ 0 ∷ 7 ∷ 8 ∷ 9 ∷ 0 ∷ []
places_of_faults = refl
