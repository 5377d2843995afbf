-- The meaning of a capture's packets up to one with another link type. The first packet is read
-- ahead.
use Rattle.std.specs.Prelude.{◌≡◌, refl, ◌≤◌, ℕ, ◌+◌, Bool, Option, None, Some, option_map, List, [], ◌∷◌, length, IfSome}
use Rattle.pcap_defs.specs.Packet.{CapturedPacket}
use Rattle.pcap_defs.specs.Record.{most_captured}
use Rattle.pcap_defs.specs.Contents.{FaultAt, Contents, FileContents, no_capture, holds}
use Rattle.pcap_core.specs.Captures.{Opens}
use Rattle.packet_defs.specs.declared.packet.Packet.{Packet}
use Rattle.policy_defs.specs.Policy.{Policy}
use Rattle.policy_rules.specs.Resolved.{Resolved}
use Rattle.sched_defs.specs.Numbered.{IsSendable}
use Rattle.sched_defs.specs.Packets.{Left, Captured, AreThere}
use Rattle.forward_defs.specs.SingleLinkType.{first_link, behind_packet, of_link, of_one_link}
use Rattle.sched_capture.specs.Packets.{packet_of}
use Rattle.sched_capture.specs.NextPacket.{packet_told}
use Rattle.sched_capture.specs.Arrivals.{left_in, AreCaptured}
use Rattle.sched_capture.specs.CapturedBytes as bytes
use Rattle.sched_capture.specs.CapturePackets as any
use Rattle.sched_capture.specs.declared.single_link_type.SingleLinkType.{SingleLinkType}

-- ---- the contents of a file
-- the contents of a file by its packets and the fault after them: it is no capture if the fault
-- comes first
abbrev pub ahead_in : List CapturedPacket → Option FaultAt → Contents → FileContents
ahead_in [] None contents = holds contents
ahead_in [] (Some fault) contents = no_capture fault
ahead_in (p ∷ packets) fault contents = holds contents

-- The contents of a file up to the first packet with another link type. It is no capture if its
-- first packet is at fault.
abbrev pub one_link_in : FileContents → FileContents
one_link_in (no_capture fault) = no_capture fault
one_link_in (holds contents) = ahead_in contents.packets contents.fault (of_one_link contents)

-- the link type of the file's first packet, or 0 without a packet
abbrev pub link_in : FileContents → ℕ
link_in (no_capture fault) = 0
link_in (holds contents) = first_link contents.packets

-- P holds of each file all of whose contents are left
abbrev pub EachFileOf : Option Contents → (FileContents → Type 0) → Type 0
EachFileOf left P = (file : FileContents) → Opens file left → P file

-- ---- the packets
abbrev pub resolved_of : {S : Type 0} → SingleLinkType S → Resolved
resolved_of packets = any.resolved_of packets.arrivals

-- the policy that gives each packet its class
abbrev pub policy_of : {S : Type 0} → SingleLinkType S → Policy
policy_of packets = (resolved_of packets).policy

-- the link type of the first packet, or 0 without a packet
abbrev pub link_of : {S : Type 0} → SingleLinkType S → ℕ
link_of packets = packets.link

-- the captured bytes of the last packet read, or of the one read ahead
abbrev pub captured_by : {S : Type 0} → SingleLinkType S → List ℕ
captured_by packets = any.captured_by packets.arrivals

-- the number of packets returned, after n were read: none while the first is read ahead
abbrev pub given_of : Option Packet → ℕ → ℕ
given_of None n = n
given_of (Some ahead) n = 0

abbrev pub given_by : {S : Type 0} → SingleLinkType S → ℕ
given_by packets = given_of packets.ahead (any.given_by packets.arrivals)

-- the contents left, with the packet read ahead in front if there is one
abbrev pub with_ahead : ℕ → Option Packet → List ℕ → Contents → Contents
with_ahead link None captured contents = contents
with_ahead link (Some ahead) captured contents = behind_packet (packet_told link ahead captured) contents

-- of the contents after n packets, those up to one with another link type
abbrev pub rest_of_link : ℕ → ℕ → Contents → Contents
rest_of_link link n contents = of_link link (n + 1) contents.packets contents.fault

-- the contents left of the capture, if the bytes left of the file are known to the contract
abbrev pub contents_of : {S : Type 0} → SingleLinkType S → Option (List ℕ) → Option Contents
contents_of packets told =
    option_map (λ (contents : Contents). with_ahead packets.link packets.ahead (captured_by packets)
    (rest_of_link packets.link (any.given_by packets.arrivals) contents)) (any.contents_of packets.arrivals told)

-- the packets left to read
abbrev pub left_of : {S : Type 0} → SingleLinkType S → Option (List ℕ) → Option Left
left_of packets told = option_map (left_in (resolved_of packets) (given_by packets)) (contents_of packets told)

-- these are their captured bytes
abbrev pub captures_of : {S : Type 0} → SingleLinkType S → Option (List ℕ) → Captured → Type 0
captures_of packets told bytes = AreCaptured (contents_of packets told) (given_by packets) bytes

-- if the packets left are known, such bytes exist
pub there : {S : Type 0} (packets : SingleLinkType S) (told : Option (List ℕ)) → AreThere (left_of packets told) (captures_of packets told)
there packets told = bytes.there (resolved_of packets) (given_by packets) (contents_of packets told)

-- The packet is the first of a capture with this link type and these captured bytes, as the policy
-- makes it. No other packet was read.
pub record IsFirst (policy : Resolved) (read link : ℕ) (captured : List ℕ) (p : Packet) : Type 0 where
  pub one : read ≡ 1
  pub packet : p ≡ packet_of policy 1 (packet_told link p captured)
  pub sendable : IsSendable policy.policy p
  pub short : length captured ≤ most_captured

-- more can be read, and the packet read ahead is the first
pub record IsReady {S : Type 0} (packets : SingleLinkType S) (begun : Bool) : Type 0 where
  pub arrivals : any.IsReady packets.arrivals begun
  pub ahead : IfSome packets.ahead (IsFirst (resolved_of packets) (any.given_by packets.arrivals) packets.link (captured_by packets))

-- ---- worked examples
abbrev packet_on : ℕ → CapturedPacket
packet_on link = record { link = link; moment = 0; original = 1; captured = [] }

-- a packet of another link type is left after the first, as a fault at its number
one_link_in-second : one_link_in (holds (record { packets = packet_on 1 ∷ packet_on 101 ∷ []; fault = None }))
    ≡ holds (record { packets = packet_on 1 ∷ []; fault = Some (record { code = 20; place = 2 }) })
one_link_in-second = refl

one_link_in-first_at_fault : one_link_in (holds (record { packets = []; fault = Some (record { code = 6; place = 1 }) })) ≡ no_capture (record { code = 6; place = 1 })
one_link_in-first_at_fault = refl

one_link_in-none : one_link_in (holds (record { packets = []; fault = None })) ≡ holds (record { packets = []; fault = None })
one_link_in-none = refl
