-- The bytes of a written capture (libpcap 2.4): fractions count nanoseconds, and numbers are
-- little-endian.
use Rattle.std.specs.Prelude.{◌≡◌, ℕ, true, false, None, List, [], ◌∷◌, ◌++◌, length, drop, refl}
use Rattle.byteorder.specs.Endian.{little_bytes}
use Rattle.pcap_defs.specs.declared.head.Head.{Head}
use Rattle.pcap_defs.specs.Header.{magic_number, major_version}
use Rattle.pcap_defs.specs.Record.{Record, most_captured}
use Rattle.pcap_defs.specs.Reading.{capture_of, head_of, front_of, records_from, packets}

-- a number in two bytes
abbrev pub short_bytes : ℕ → List ℕ
short_bytes n = little_bytes 2 n

-- a number in four bytes
abbrev pub long_bytes : ℕ → List ℕ
long_bytes n = little_bytes 4 n

abbrev pub minor_version : ℕ
minor_version = 4

-- the file header: magic number, version, time zone, significant figures, snapshot length, link
-- type
abbrev pub header_bytes : ℕ → List ℕ
header_bytes link =
    long_bytes (magic_number true) ++ short_bytes major_version ++ short_bytes minor_version ++ long_bytes 0 ++ long_bytes 0
    ++ long_bytes most_captured ++ long_bytes link

-- the header of a record: seconds, nanoseconds, captured length, original length
abbrev pub record_front : ℕ → ℕ → ℕ → ℕ → List ℕ
record_front seconds nanos captured len = long_bytes seconds ++ long_bytes nanos ++ long_bytes captured ++ long_bytes len

-- a record with these captured bytes
abbrev pub record_bytes : ℕ → ℕ → ℕ → List ℕ → List ℕ
record_bytes seconds nanos len bytes = record_front seconds nanos (length bytes) len ++ bytes

-- records, one after another
abbrev pub records_bytes : List Record → List ℕ
records_bytes [] = []
records_bytes (r ∷ records) = record_bytes r.seconds r.fraction r.original r.captured ++ records_bytes records

-- a whole capture
abbrev pub file_bytes : ℕ → List Record → List ℕ
file_bytes link records = header_bytes link ++ records_bytes records

-- the header values of a written capture
abbrev pub head_with : ℕ → Head
head_with link = record { link = link; nano = true; big = false }

-- two packets of four bytes in second 1, the second one 1000 nanoseconds after the first
abbrev pub two_packets : List Record
two_packets =
    record { seconds = 1; fraction = 0; original = 4; captured = 0 ∷ 0 ∷ 0 ∷ 1 ∷ [] }
    ∷ record { seconds = 1; fraction = 1000; original = 4; captured = 0 ∷ 0 ∷ 0 ∷ 2 ∷ [] } ∷ []

-- the same packets as the 64 bytes of a file
abbrev pub two_packets_file : List ℕ
two_packets_file =
    (0x4D ∷ 0x3C ∷ 0xB2 ∷ 0xA1 ∷ 2 ∷ 0 ∷ 4 ∷ 0 ∷ []) ++ (0 ∷ 0 ∷ 0 ∷ 0 ∷ 0 ∷ 0 ∷ 0 ∷ 0 ∷ []) ++ (0 ∷ 0 ∷ 4 ∷ 0 ∷ 0x93 ∷ 0 ∷ 0 ∷ 0 ∷ [])
    ++ (1 ∷ 0 ∷ 0 ∷ 0 ∷ 0 ∷ 0 ∷ 0 ∷ 0 ∷ []) ++ (4 ∷ 0 ∷ 0 ∷ 0 ∷ 4 ∷ 0 ∷ 0 ∷ 0 ∷ []) ++ (0 ∷ 0 ∷ 0 ∷ 1 ∷ [])
    ++ (1 ∷ 0 ∷ 0 ∷ 0 ∷ 0xE8 ∷ 3 ∷ 0 ∷ 0 ∷ []) ++ (4 ∷ 0 ∷ 0 ∷ 0 ∷ 4 ∷ 0 ∷ 0 ∷ 0 ∷ []) ++ (0 ∷ 0 ∷ 0 ∷ 2 ∷ [])

pub file_bytes-two_packets : file_bytes 147 two_packets ≡ two_packets_file
file_bytes-two_packets = refl

pub two_packets_read_back : capture_of two_packets_file ≡ packets (head_with 147) two_packets None
unfolding capture_of head_of front_of records_from
two_packets_read_back = refl

pub header_alone : file_bytes 0 [] ≡ (0x4D ∷ 0x3C ∷ 0xB2 ∷ 0xA1 ∷ 2 ∷ 0 ∷ 4 ∷ 0 ∷ []) ++ (0 ∷ 0 ∷ 0 ∷ 0 ∷ 0 ∷ 0 ∷ 0 ∷ 0 ∷ []) ++ (0 ∷ 0 ∷ 4 ∷ 0 ∷ 0 ∷ 0 ∷ 0 ∷ 0 ∷ [])
header_alone = refl

-- numbers whose bytes differ
short_bytes-two : short_bytes 0x0102 ≡ 2 ∷ 1 ∷ []
short_bytes-two = refl

long_bytes-four : long_bytes 0x01020304 ≡ 4 ∷ 3 ∷ 2 ∷ 1 ∷ []
long_bytes-four = refl

-- three of 1500 bytes are captured: seconds, nanoseconds, captured length, original length
record_bytes-cut : record_bytes 0x01020304 999999999 1500 (7 ∷ 8 ∷ 9 ∷ [])
    ≡ (4 ∷ 3 ∷ 2 ∷ 1 ∷ 0xFF ∷ 0xC9 ∷ 0x9A ∷ 0x3B ∷ []) ++ (3 ∷ 0 ∷ 0 ∷ 0 ∷ 0xDC ∷ 5 ∷ 0 ∷ 0 ∷ []) ++ (7 ∷ 8 ∷ 9 ∷ [])
record_bytes-cut = refl

record_front-order : record_front 1 2 3 4 ≡ (1 ∷ 0 ∷ 0 ∷ 0 ∷ 2 ∷ 0 ∷ 0 ∷ 0 ∷ []) ++ (3 ∷ 0 ∷ 0 ∷ 0 ∷ 4 ∷ 0 ∷ 0 ∷ 0 ∷ [])
record_front-order = refl

-- the link type is last in the header, and has two bytes
header_bytes-link : drop 20 (header_bytes 0x0102) ≡ 2 ∷ 1 ∷ 0 ∷ 0 ∷ []
header_bytes-link = refl

records_bytes-none : records_bytes [] ≡ []
records_bytes-none = refl

head_with-link : head_with 101 ≡ record { link = 101; nano = true; big = false }
head_with-link = refl
