-- The laws of written captures, for their readers.
use Rattle.std.specs.Prelude.{◌≡◌, ◌≤◌, ◌<◌, ◌*◌, ◌/◌, ◌%◌, ◌^◌, ℕ, true, None, List, [], ◌∷◌, ◌++◌, length, All, refl}
use Rattle.pcap_defs.specs.Record.{Record, moment, most_captured, most_records}
use Rattle.pcap_defs.specs.Capture.{IsCapture}
use Rattle.pcap_defs.specs.Reading.{capture_of, packets}
use Rattle.pcap_core.specs.Bytes.{records_bytes, file_bytes, head_with}

-- a record that can be written: its numbers have 32 bits, its fraction is below one second, and it
-- captures no more bytes than a record may
pub record IsWritable (r : Record) : Type 0 where
  pub seconds : r.seconds < 2 ^ 32
  pub fraction : r.fraction < 10 ^ 9
  pub original : r.original < 2 ^ 32
  pub captured : length r.captured ≤ most_captured

-- the written bytes are a whole capture of these records with this link type
abbrev pub AreCaptures : Type 0
AreCaptures =
    (link : ℕ) (records : List Record) → link < 2 ^ 16 → All IsWritable records → length records ≤ most_records →
    IsCapture (head_with link) records None (file_bytes link records)

-- the written bytes are read as these records, with no fault after them
abbrev pub AreReadBack : Type 0
AreReadBack =
    (link : ℕ) (records : List Record) → link < 2 ^ 16 → All IsWritable records → length records ≤ most_records →
    capture_of (file_bytes link records) ≡ packets (head_with link) records None

-- the record of a packet that departs at this timestamp in nanoseconds
abbrev pub record_at : ℕ → ℕ → List ℕ → Record
record_at start len bytes = record { seconds = start / 10 ^ 9; fraction = start % 10 ^ 9; original = len; captured = bytes }

record_at-second_packet : record_at 1000001000 4 (0 ∷ 0 ∷ 0 ∷ 2 ∷ []) ≡ record { seconds = 1; fraction = 1000; original = 4; captured = 0 ∷ 0 ∷ 0 ∷ 2 ∷ [] }
record_at-second_packet = refl

-- the original length is that of the packet, even if less is captured
record_at-cut : record_at 4294967295999999999 1500 (7 ∷ []) ≡ record { seconds = 4294967295; fraction = 999999999; original = 1500; captured = 7 ∷ [] }
record_at-cut = refl

-- below 2^32 seconds such a record can be written, and its timestamp is read back
abbrev pub MomentsAreKept : Type 0
MomentsAreKept =
    (start len : ℕ) (bytes : List ℕ) → start < 2 ^ 32 * 10 ^ 9 → len < 2 ^ 32 → length bytes ≤ most_captured →
    IsWritable (record_at start len bytes) × (moment true (record_at start len bytes) ≡ start)

-- the bytes of records in a row are those of the first ones, and then those of the others
abbrev pub RecordsFollow : Type 0
RecordsFollow = (first others : List Record) → records_bytes (first ++ others) ≡ records_bytes first ++ records_bytes others
