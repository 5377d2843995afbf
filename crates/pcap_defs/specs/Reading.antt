-- The reading of a file as a capture, as a function of its bytes.
use Rattle.std.specs.Prelude.{◌≡◌, ◌↔◌, ◌+◌, ◌-◌, ◌%◌, ◌^◌, ◌<◌, ◌≤◌, ◌==◌, ℕ, zero, suc, nat_lt, Bool, true, false, if◌then◌else◌, Option, Some, None, Result, Ok, Err, List, [], ◌∷◌, length, take, drop}
use Rattle.std.specs.Str.{bytes_eq}
use Rattle.pcap_defs.specs.declared.head.Head.{Head}
use Rattle.pcap_defs.specs.Number.{long_at, short_at}
use Rattle.pcap_defs.specs.Fault.{Fault, header_cut, bad_magic, pcap_ng, version, record_cut, data_cut, record_long, too_many}
use Rattle.pcap_defs.specs.Header.{header_len, magic_bytes, pcap_ng_bytes, major_version, IsHeaderFault}
use Rattle.pcap_defs.specs.Record.{Record, record_len, most_captured, most_records, captured_len, moment, HasNoRecord, IsRecordFault}
use Rattle.pcap_defs.specs.Capture.{IsCapture}

-- a file rejected for the fault of its header, or the header, the records, and the fault after them
-- if there is one
pub data Capture : Type 0 where
  refused : Fault → Capture
  packets : Head → List Record → Option Fault → Capture

-- the header values in this byte order and time unit, or the version fault
abbrev pub head_with : Bool → Bool → List ℕ → Result Head Fault
head_with big nano file =
    if short_at big 4 file == major_version
    then Ok (record { link = long_at big 20 file % 2 ^ 16; nano = nano; big = big })
    else Err version

-- the header values of a file that begins with these four bytes, or its fault
abbrev pub head_by : List ℕ → List ℕ → Result Head Fault
head_by word file =
    if bytes_eq word pcap_ng_bytes then Err pcap_ng
    else if bytes_eq word (magic_bytes false false) then head_with false false file
    else if bytes_eq word (magic_bytes false true) then head_with false true file
    else if bytes_eq word (magic_bytes true false) then head_with true false file
    else if bytes_eq word (magic_bytes true true) then head_with true true file
    else Err bad_magic

-- the header values of a file, or its fault
unfoldable pub head_of : List ℕ → Result Head Fault
head_of file = if nat_lt (length file) header_len then Err header_cut else head_by (take 4 file) file

-- the front of the remaining bytes: nothing, a fault, or a record and the bytes after it
pub data Front : Type 0 where
  nothing : Front
  broken : Fault → Front
  found : Record → List ℕ → Front

-- the record at the front of at least sixteen bytes
abbrev pub record_at : Bool → List ℕ → Record
record_at big rest =
    record { seconds = long_at big 0 rest; fraction = long_at big 4 rest; original = long_at big 12 rest; captured = take (captured_len big rest) (drop record_len rest) }

-- the front of the bytes left after n records
unfoldable pub front_of : Bool → ℕ → List ℕ → Front
front_of big n rest =
    if length rest == 0 then nothing
    else if n == most_records then broken too_many
    else if nat_lt (length rest) record_len then broken (record_cut (n + 1))
    else if nat_lt most_captured (captured_len big rest) then broken (record_long (n + 1))
    else if nat_lt (length rest) (record_len + captured_len big rest) then broken (data_cut (n + 1))
    else found (record_at big rest) (drop (record_len + captured_len big rest) rest)

-- adds a record before the others
abbrev pub with_first : Record → List Record × Option Fault → List Record × Option Fault
with_first r run = (r ∷ run.0, run.1)

-- the records end at nothing or at a fault; after a record come those that `behind` gives
abbrev pub at_front : (List ℕ → List Record × Option Fault) → Front → List Record × Option Fault
at_front behind nothing = ([], None)
at_front behind (broken fault) = ([], Some fault)
at_front behind (found r rest) = with_first r (behind rest)

-- the records in the bytes left after n records, at most `more` of them, and the fault after them
unfoldable pub records_from : ℕ → Bool → ℕ → List ℕ → List Record × Option Fault
records_from zero big n rest = ([], None)
records_from (suc more) big n rest = at_front (λ others. records_from more big (n + 1) others) (front_of big n rest)

-- all records in the bytes left after n records, and the fault after them; there are no more
-- records than bytes
abbrev pub records_left : Bool → ℕ → List ℕ → List Record × Option Fault
records_left big n rest = records_from (length rest) big n rest

-- the capture made of a header and the bytes after it
abbrev pub capture_with : List ℕ → Result Head Fault → Capture
capture_with after (Err fault) = refused fault
capture_with after (Ok head) = packets head (records_left head.big 0 after).0 (records_left head.big 0 after).1

-- a file, read as a capture
unfoldable pub capture_of : List ℕ → Capture
capture_of file = capture_with (drop header_len file) (head_of file)

-- the reading finds exactly the captures of the grammar
abbrev pub ReadsCaptures : Type 0
ReadsCaptures =
    (head : Head) (records : List Record) (fault : Option Fault) (file : List ℕ) →
    IsCapture head records fault file ↔ (capture_of file ≡ packets head records fault)

-- the reading rejects exactly the files whose header has a fault
abbrev pub ReadsRefusals : Type 0
ReadsRefusals = (fault : Fault) (file : List ℕ) → IsHeaderFault file fault ↔ (capture_of file ≡ refused fault)

-- The remaining bytes have a fault exactly if they aren't empty, and either the limit of records is
-- reached or no record can be split off.
abbrev pub HasFaultOrRecord : Type 0
HasFaultOrRecord =
    (big : Bool) (n : ℕ) (rest : List ℕ) → n ≤ most_records →
    ((fault : Fault) × IsRecordFault big n rest fault) ↔ ((0 < length rest) × ((n < most_records) → HasNoRecord big rest))

-- if seconds and fraction have 32 bits each, the timestamp in nanoseconds has at most 62
abbrev pub MomentsAreSmall : Type 0
MomentsAreSmall = (nano : Bool) (r : Record) → r.seconds < 2 ^ 32 → r.fraction < 2 ^ 32 → moment nano r ≤ 2 ^ 62 - 1
