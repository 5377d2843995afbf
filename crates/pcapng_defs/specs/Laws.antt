-- Consequences of the definition of a pcapng capture.
use Rattle.std.specs.Prelude.{◌≡◌, ◌≢◌, ℕ, ◌+◌, ◌≤◌, Bool, Option, Some, None, List, [], ◌++◌, ◌<◌, length, map}
use Rattle.std.specs.List.{AllByRecursion}
use Rattle.rank_defs.specs.Programs.{max_rank}
use Rattle.pcap_defs.specs.declared.head.Head.{Head}
use Rattle.pcap_defs.specs.Record.{Record, most_captured}
use Rattle.pcap_defs.specs.Fault.{pcap_ng}
use Rattle.pcap_defs.specs.Header.{header_len, IsHeaderFault}
use Rattle.pcap_defs.specs.Reading.{refused, packets, capture_of}
use Rattle.pcapng_defs.specs.Fault.{BlockFault, block_cut, code, place}
use Rattle.pcapng_defs.specs.Interface.{unit_of, at_option, option_front}
use Rattle.pcap_defs.specs.Packet.{CapturedPacket, packet_with}
use Rattle.pcapng_defs.specs.Block.{Carried}
use Rattle.pcap_defs.specs.Contents.{in_capture}
use Rattle.pcapng_defs.specs.NgContents.{in_file, in_ng_capture}
use Rattle.pcapng_defs.specs.NgCapture.{broken, found, front_of, at_front, behind, reading_of, ng_capture_of, most_blocks}

-- the remaining bytes are read block by block, with the state carried from each block to the next
abbrev pub GoesBlockByBlock : Type 0
GoesBlockByBlock = (c : Carried) (rest : List ℕ) → reading_of c rest ≡ at_front reading_of c (front_of c rest)

-- the unit that options give is the one at the front, or the one that the options after it give
abbrev pub UnitsGoOptionByOption : Type 0
UnitsGoOptionByOption = (big : Bool) (bytes : List ℕ) → unit_of big bytes ≡ at_option (unit_of big) (option_front big bytes)

-- a whole block without a fault has the same result whatever bytes follow it
abbrev pub BlocksStand : Type 0
BlocksStand =
    (c after : Carried) (packet : Option CapturedPacket) (rest others more : List ℕ) →
    front_of c rest ≡ found packet after others → front_of c (rest ++ more) ≡ found packet after (others ++ more)

-- a fault other than a cut block stays whatever bytes follow it
abbrev pub FaultsStand : Type 0
FaultsStand =
    (c : Carried) (fault : BlockFault) (rest more : List ℕ) →
    front_of c rest ≡ broken fault → fault ≢ block_cut (c.blocks + 1) → front_of c (rest ++ more) ≡ broken fault

-- After whole blocks the reading goes on with the rest: their packets come first, then the rest's,
-- and the fault is the rest's.
abbrev pub GoesOnBehindBlocks : Type 0
GoesOnBehindBlocks =
    (c : Carried) (first others : List ℕ) → (reading_of c first).fault ≡ None
    → reading_of c (first ++ others) ≡ behind (reading_of c first).packets (reading_of (reading_of c first).carried others)

-- The code of a fault, and the number of its block.
pub record IsNumbered (fault : BlockFault) (blocks : ℕ) : Type 0 where
  pub least_code : 11 ≤ code fault
  pub most_code : code fault ≤ 19
  pub next : place fault ≡ blocks + 1
  pub most_place : place fault ≤ 4294967296

-- the fault of a file has a code from 11 to 19, and its block is the one after those read
abbrev pub FaultsAreNumbered : Type 0
FaultsAreNumbered = (file : List ℕ) (fault : BlockFault) → (ng_capture_of file).fault ≡ Some fault → IsNumbered fault (ng_capture_of file).carried.blocks

-- a packet captures no more than a record of a classic capture may, and its timestamp is at most
-- the greatest one
pub record IsBounded (p : CapturedPacket) : Type 0 where
  pub short : length p.captured ≤ most_captured
  pub early : p.moment ≤ max_rank

abbrev pub PacketsAreBounded : Type 0
PacketsAreBounded = (file : List ℕ) → AllByRecursion IsBounded (ng_capture_of file).packets

-- there are at most as many packets as blocks read, and at most as many blocks as are allowed
abbrev pub PacketsAreFew : Type 0
PacketsAreFew = (file : List ℕ) → (length (ng_capture_of file).packets ≤ (ng_capture_of file).carried.blocks) × ((ng_capture_of file).carried.blocks ≤ most_blocks)

-- A classic file and a pcapng file, both without fault, whose packets have equal link types,
-- timestamps, lengths and bytes.
pub record AreAlike (file ng_file : List ℕ) : Type 0 where
  pub head : Head
  pub records : List Record
  pub classic : capture_of file ≡ packets head records None
  pub begins : capture_of ng_file ≡ refused pcap_ng
  pub whole : (ng_capture_of ng_file).fault ≡ None
  pub same : (ng_capture_of ng_file).packets ≡ map (packet_with head) records

-- such files have equal contents
abbrev pub AlikeFilesHoldTheSame : Type 0
AlikeFilesHoldTheSame = (file ng_file : List ℕ) → AreAlike file ng_file → in_file file ≡ in_file ng_file

-- These bytes are at the front of the file: as many as a header has, or all if there are fewer.
pub record IsHeaderFront (front file : List ℕ) : Type 0 where
  pub rest : List ℕ
  pub joined : file ≡ front ++ rest
  pub enough : length front < header_len → rest ≡ []

-- these bytes determine the file's format: pcapng if they are rejected as a header of it, and else
-- the classic one
abbrev pub FrontsTellFormats : Type 0
FrontsTellFormats =
    (front file : List ℕ) → IsHeaderFront front file
    → (IsHeaderFault front pcap_ng → in_file file ≡ in_ng_capture file)
    × ((IsHeaderFault front pcap_ng → ⊥) → in_file file ≡ in_capture (capture_of file))
