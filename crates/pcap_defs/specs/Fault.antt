-- The faults of a capture.
use Rattle.std.specs.Prelude.{ℕ}

-- a fault of the header, or of a record, with the record's number counted from 1
pub data Fault : Type 0 where
  header_cut : Fault
  bad_magic : Fault
  pcap_ng : Fault
  version : Fault
  record_cut : ℕ → Fault
  data_cut : ℕ → Fault
  record_long : ℕ → Fault
  too_many : Fault

-- the fault's code in a report
abbrev pub code : Fault → ℕ
code header_cut = 1
code bad_magic = 2
code pcap_ng = 3
code version = 4
code (record_cut n) = 5
code (data_cut n) = 6
code (record_long n) = 7
code too_many = 8

-- the number of the record at fault, or 0 if there is none
abbrev pub place : Fault → ℕ
place (record_cut n) = n
place (data_cut n) = n
place (record_long n) = n
place _ = 0
