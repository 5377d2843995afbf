-- The meaning of the packets of a capture that is read, in either format.
use Rattle.std.specs.Prelude.{◌≡◌, ◌≤◌, ℕ, ◌+◌, Bool, if◌then◌else◌, Option, Some, None, List, [], ◌∷◌, IsTrue, ⊤}
use Rattle.pcap_defs.specs.Packet.{CapturedPacket}
use Rattle.pcap_defs.specs.Contents.{Contents, FileContents, no_capture, holds}
use Rattle.pcap_core.specs.Captures.{nothing_left}
use Rattle.policy_rules.specs.Resolved.{Resolved}
use Rattle.packet_core.specs.Classifier.{policy_of}
use Rattle.sched_defs.specs.Packets.{Left, Captured, most_packets}
use Rattle.outside_core.specs.declared.read_error.ReadError.{ReadError}
use Rattle.outside_core.specs.declared.read_error.ReadError.TheVariants.{Fault}
use Rattle.sched_capture.specs.Packets.{packets_from}
use Rattle.sched_capture.specs.declared.capture_packets.Arrivals.{Arrivals}

-- the policy that gives each packet its class
abbrev pub resolved_of : {R S : Type 0} → Arrivals R S → Resolved
resolved_of arrivals = policy_of arrivals.classifier

-- the number of packets read, by the reader's own count
abbrev pub given_by : {R S : Type 0} → (R → ℕ) → Arrivals R S → ℕ
given_by given arrivals = given arrivals.reader

-- the captured bytes of the last packet read, in the reader's window or in the buffer
abbrev pub captured_by : {R S : Type 0} → (R → List ℕ → List ℕ) → Arrivals R S → List ℕ
captured_by captured arrivals = captured arrivals.reader arrivals.bytes.items

-- the contents left of the capture, by its reader, or none after the end
abbrev pub contents_of : {R S : Type 0} → (R → Option (List ℕ) → Option Contents) → Arrivals R S → Option (List ℕ) → Option Contents
contents_of left arrivals told = if arrivals.over then Some nothing_left else left arrivals.reader told

-- the reader can go on, the number of packets read is within the limit, and the file is still begun
pub record IsReady {R S : Type 0} (ready : R → Type 0) (given : R → ℕ) (arrivals : Arrivals R S) (begun : Bool) : Type 0 where
  pub started : ready arrivals.reader
  pub few : given arrivals.reader ≤ most_packets
  pub still : IsTrue begun

-- the packets of these contents, numbered after n others, and the fault after them
abbrev pub left_in : Resolved → ℕ → Contents → Left
left_in policy n contents = record { packets = packets_from policy (n + 1) contents.packets; fault = contents.fault }

-- the file is a capture, and all its packets are left, with the fault after them
abbrev pub Begins : Resolved → FileContents → Option Left → Type 0
Begins policy (no_capture fault) left = ⊥
Begins policy (holds contents) left = left ≡ Some (left_in policy 0 contents)

-- an error that reports a fault reports the one for which the file is no capture
abbrev pub Refuses : ReadError → FileContents → Type 0
Refuses (Fault c p) file = file ≡ no_capture (record { code = c; place = p })
Refuses _ file = ⊤

-- ---- captured bytes, by packet number
-- the captured bytes of consecutive packets, the first of which has this number
abbrev pub AreCapturedFrom : ℕ → List CapturedPacket → Captured → Type 0
AreCapturedFrom first [] bytes = ⊤
AreCapturedFrom first (p ∷ packets) bytes = (bytes first ≡ p.captured) × AreCapturedFrom (first + 1) packets bytes

-- the contents left after `given` packets are known, and these are their captured bytes
abbrev pub AreCaptured : Option Contents → ℕ → Captured → Type 0
AreCaptured None given bytes = ⊥
AreCaptured (Some contents) given bytes = AreCapturedFrom (given + 1) contents.packets bytes

-- these are the captured bytes of all packets in the file
abbrev pub AreCapturedIn : FileContents → Captured → Type 0
AreCapturedIn (no_capture fault) bytes = ⊥
AreCapturedIn (holds contents) bytes = AreCapturedFrom 1 contents.packets bytes
