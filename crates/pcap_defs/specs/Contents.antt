-- The contents of a capture file, in any capture format.
use Rattle.std.specs.Prelude.{◌≡◌, refl, ℕ, false, Option, Some, option_map, List, [], ◌∷◌, map}
use Rattle.pcap_defs.specs.declared.head.Head.{Head}
use Rattle.pcap_defs.specs.Fault.{Fault, bad_magic, data_cut, code, place}
use Rattle.pcap_defs.specs.Record.{Record}
use Rattle.pcap_defs.specs.Reading.{Capture, refused, packets}
use Rattle.pcap_defs.specs.Packet.{CapturedPacket, packet_with}

-- a fault's code, and the number of the record or block at fault, or 0 if there is none
pub record FaultAt : Type 0 where
  pub code : ℕ
  pub place : ℕ

-- the packets in order, and the fault after them, if there is one
pub record Contents : Type 0 where
  pub packets : List CapturedPacket
  pub fault : Option FaultAt

-- a file is no capture, because of this fault at its beginning, or it holds these contents
pub data FileContents : Type 0 where
  no_capture : FaultAt → FileContents
  holds : Contents → FileContents

abbrev pub fault_at : Fault → FaultAt
fault_at fault = record { code = code fault; place = place fault }

-- the contents made of these records and the fault after them
abbrev pub contents_of : Head → List Record × Option Fault → Contents
contents_of head run = record { packets = map (packet_with head) run.0; fault = option_map fault_at run.1 }

-- the contents of a file that is this classic capture
abbrev pub in_capture : Capture → FileContents
in_capture (refused fault) = no_capture (fault_at fault)
in_capture (packets head records fault) = holds (contents_of head (records, fault))

in_capture-refused : in_capture (refused bad_magic) ≡ no_capture (record { code = 2; place = 0 })
in_capture-refused = refl

in_capture-cut : in_capture (packets (record { link = 147; nano = false; big = false }) (record { seconds = 1; fraction = 2; original = 4; captured = 7 ∷ [] } ∷ []) (Some (data_cut 2)))
    ≡ holds (record { packets = record { link = 147; moment = 1000002000; original = 4; captured = 7 ∷ [] } ∷ []; fault = Some (record { code = 6; place = 2 }) })
in_capture-cut = refl
