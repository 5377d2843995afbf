-- Frames and record headers, and the records that they belong to.
use Rattle.std.specs.Prelude.{◌≡◌, ◌≤◌, ◌<◌, ◌+◌, ◌^◌, ℕ, Bool, List, length}
use Rattle.pcap_defs.specs.declared.head.Head.{Head}
use Rattle.pcap_defs.specs.Fault.{Fault, data_cut}
use Rattle.pcap_defs.specs.Number.{long_at}
use Rattle.pcap_defs.specs.Record.{Record, moment, moment_at, captured_len, record_len, most_captured, most_records, IsRecordFault}
use Rattle.pcap_core.specs.declared.frame.Frame.{Frame}
use Rattle.pcap_core.specs.declared.header.RecordHeader.{RecordHeader}

-- The frame belongs to the record, and these are its captured bytes.
pub record IsFrameOf (nano : Bool) (r : Record) (frame : Frame) (bytes : List ℕ) : Type 0 where
  pub moment_is : moment nano r ≡ frame.moment
  pub original : r.original ≡ frame.len
  pub captured : r.captured ≡ bytes

-- The frame is the next after `count` others, tells how many captured bytes there are, and is within
-- the limits of a capture.
pub record IsNextFrame (count : ℕ) (frame : Frame) (bytes : List ℕ) : Type 0 where
  pub number : frame.number ≡ count + 1
  pub few : frame.number ≤ most_records
  pub captured : frame.captured ≡ length bytes
  pub short : frame.captured ≤ most_captured
  pub moment : frame.moment < 2 ^ 62

-- One more record than `count` is allowed, and its timestamp and captured length are within the
-- limits.
pub record IsInLimits (count : ℕ) (p : RecordHeader) : Type 0 where
  pub few : count < most_records
  pub moment : p.moment < 2 ^ 62
  pub short : p.captured ≤ most_captured

-- the faults that the first sixteen bytes of a record show
abbrev pub IsFrontFault : Bool → ℕ → List ℕ → Fault → Type 0
IsFrontFault big n front (data_cut k) = ⊥
IsFrontFault big n front fault = IsRecordFault big n front fault

-- the sixteen bytes before a record's captured bytes have these values
pub record IsPreface (head : Head) (p : RecordHeader) (front : List ℕ) : Type 0 where
  pub whole : length front ≡ record_len
  pub moment_is : p.moment ≡ moment_at head.nano (long_at head.big 0 front) (long_at head.big 4 front)
  pub counted : p.captured ≡ captured_len head.big front
  pub original : p.len ≡ long_at head.big 12 front
