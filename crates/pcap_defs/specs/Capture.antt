-- A packet capture (libpcap 2.4): a header, the spellings of records, and a rest.
use Rattle.std.specs.Prelude.{◌≡◌, ◌≤◌, ℕ, Bool, Option, Some, None, List, [], ◌++◌, length}
use Rattle.pcap_defs.specs.declared.head.Head.{Head}
use Rattle.pcap_defs.specs.Fault.{Fault}
use Rattle.pcap_defs.specs.Header.{IsHeader}
use Rattle.pcap_defs.specs.Record.{Record, AreSpellings, IsRecordFault, most_records}

-- the bytes left after n records are empty, or have the fault
abbrev pub EndsWith : Bool → ℕ → List ℕ → Option Fault → Type 0
EndsWith big n rest None = rest ≡ []
EndsWith big n rest (Some fault) = IsRecordFault big n rest fault

-- The bytes are the spellings of these records, and then a rest that is empty or has the fault.
pub record AreRecords (big : Bool) (records : List Record) (fault : Option Fault) (bytes : List ℕ) : Type 0 where
  pub body : List ℕ
  pub rest : List ℕ
  pub bytes_are : bytes ≡ body ++ rest
  pub body_is : AreSpellings big records body
  pub few : length records ≤ most_records
  pub ends : EndsWith big (length records) rest fault

-- The file is a header with these values, and then these records, up to the fault if there is one.
pub record IsCapture (head : Head) (records : List Record) (fault : Option Fault) (file : List ℕ) : Type 0 where
  pub header : List ℕ
  pub after : List ℕ
  pub file_is : file ≡ header ++ after
  pub header_is : IsHeader head header
  pub records_are : AreRecords head.big records fault after
