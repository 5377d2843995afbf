-- The records of a capture (libpcap 2.4): a header of sixteen bytes each, and then the packet's
-- captured bytes.
use Rattle.std.specs.Prelude.{◌≡◌, ◌<◌, ◌≤◌, ◌+◌, ◌*◌, ◌^◌, ℕ, Bool, if◌then◌else◌, List, [], ◌∷◌, ◌++◌, length, drop}
use Rattle.pcap_defs.specs.Number.{long_at}
use Rattle.pcap_defs.specs.Fault.{Fault, record_cut, data_cut, record_long, too_many}

pub record Record : Type 0 where
  pub seconds : ℕ
  pub fraction : ℕ
  pub original : ℕ
  pub captured : List ℕ

-- the length of a record's header in bytes
abbrev pub record_len : ℕ
record_len = 16

-- the most captured bytes of a record
abbrev pub most_captured : ℕ
most_captured = 262144

-- the most records of a capture
abbrev pub most_records : ℕ
most_records = 4294967295

-- the timestamp in nanoseconds; the fraction counts nanoseconds if `nano`, and else microseconds
abbrev pub moment_at : Bool → ℕ → ℕ → ℕ
moment_at nano seconds fraction = seconds * 10 ^ 9 + (if nano then fraction else fraction * 1000)

-- the timestamp of a record, in nanoseconds
abbrev pub moment : Bool → Record → ℕ
moment nano r = moment_at nano r.seconds r.fraction

-- the captured length in the header of the record at the front of these bytes
abbrev pub captured_len : Bool → List ℕ → ℕ
captured_len big bytes = long_at big 8 bytes

-- These bytes spell the record in this byte order.
pub record IsSpelling (big : Bool) (r : Record) (bytes : List ℕ) : Type 0 where
  pub seconds : long_at big 0 bytes ≡ r.seconds
  pub fraction : long_at big 4 bytes ≡ r.fraction
  pub counted : captured_len big bytes ≡ length r.captured
  pub original : long_at big 12 bytes ≡ r.original
  pub captured : drop record_len bytes ≡ r.captured
  pub whole : length bytes ≡ record_len + length r.captured
  pub short : length r.captured ≤ most_captured

-- these bytes are the spellings of the records, one after another
abbrev pub AreSpellings : Bool → List Record → List ℕ → Type 0
AreSpellings big [] bytes = bytes ≡ []
AreSpellings big (r ∷ records) bytes =
    (first : List ℕ) × (others : List ℕ) × (bytes ≡ first ++ others) × IsSpelling big r first × AreSpellings big records others

-- The bytes left after n records have this fault. Faults are tried in this order: one record too
-- many, a cut record header, a captured length above the limit, cut captured bytes. Record numbers
-- count from 1.
abbrev pub IsRecordFault : Bool → ℕ → List ℕ → Fault → Type 0
IsRecordFault big n rest too_many = (n ≡ most_records) × (0 < length rest)
IsRecordFault big n rest (record_cut k) = (n < most_records) × (k ≡ n + 1) × (0 < length rest) × (length rest < record_len)
IsRecordFault big n rest (record_long k) = (n < most_records) × (k ≡ n + 1) × (record_len ≤ length rest) × (most_captured < captured_len big rest)
IsRecordFault big n rest (data_cut k) =
    (n < most_records) × (k ≡ n + 1) × (record_len ≤ length rest) × (captured_len big rest ≤ most_captured)
    × (length rest < record_len + captured_len big rest)
IsRecordFault big n rest _ = ⊥

-- no record can be split off the front
abbrev pub HasNoRecord : Bool → List ℕ → Type 0
HasNoRecord big rest = (r : Record) (first others : List ℕ) → rest ≡ first ++ others → IsSpelling big r first → ⊥
