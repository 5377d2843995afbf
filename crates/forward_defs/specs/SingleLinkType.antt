-- The packets of a capture that have the link type of its first packet.
use Rattle.std.specs.Prelude.{◌≡◌, refl, ℕ, ◌+◌, ◌==◌, if◌then◌else◌, Option, None, Some, List, [], ◌∷◌}
use Rattle.pcap_defs.specs.Packet.{CapturedPacket}
use Rattle.pcap_defs.specs.Contents.{FaultAt, Contents}

-- the fault code of a packet with another link type than the first; it follows the codes of faults
-- of captures, and its position (`place`) is the packet's number
abbrev pub other_link : ℕ
other_link = 20

-- the link type of the first packet, or 0 if there is none
abbrev pub first_link : List CapturedPacket → ℕ
first_link [] = 0
first_link (p ∷ packets) = p.link

abbrev pub behind_packet : CapturedPacket → Contents → Contents
behind_packet p c = record { packets = p ∷ c.packets; fault = c.fault }

-- packets up to one with another link type than this; the first packet has this number
abbrev pub of_link : ℕ → ℕ → List CapturedPacket → Option FaultAt → Contents
of_link link n [] fault = record { packets = []; fault = fault }
of_link link n (p ∷ packets) fault =
    if p.link == link then behind_packet p (of_link link (n + 1) packets fault)
    else record { packets = []; fault = Some (record { code = other_link; place = n }) }

-- the packets of a capture up to one with another link type than the first
abbrev pub of_one_link : Contents → Contents
of_one_link c = of_link (first_link c.packets) 1 c.packets c.fault

abbrev packet_on : ℕ → CapturedPacket
packet_on link = record { link = link; moment = 0; original = 1; captured = [] }

of_one_link-third : of_one_link (record { packets = packet_on 1 ∷ packet_on 1 ∷ packet_on 101 ∷ packet_on 1 ∷ []; fault = None })
    ≡ record { packets = packet_on 1 ∷ packet_on 1 ∷ []; fault = Some (record { code = 20; place = 3 }) }
of_one_link-third = refl

-- a fault after packets of one link type stays
of_one_link-fault : of_one_link (record { packets = packet_on 1 ∷ []; fault = Some (record { code = 6; place = 2 }) })
    ≡ record { packets = packet_on 1 ∷ []; fault = Some (record { code = 6; place = 2 }) }
of_one_link-fault = refl

-- a packet of another link type is met first, so the fault of the capture isn't
of_one_link-before_the_fault : of_one_link (record { packets = packet_on 1 ∷ packet_on 0 ∷ []; fault = Some (record { code = 6; place = 3 }) })
    ≡ record { packets = packet_on 1 ∷ []; fault = Some (record { code = 20; place = 2 }) }
of_one_link-before_the_fault = refl

-- a capture without packets has link type 0, and keeps its fault
first_link-none : first_link [] ≡ 0
first_link-none = refl

first_link-of_two : first_link (packet_on 101 ∷ packet_on 1 ∷ []) ≡ 101
first_link-of_two = refl

of_one_link-none : of_one_link (record { packets = []; fault = Some (record { code = 6; place = 1 }) }) ≡ record { packets = []; fault = Some (record { code = 6; place = 1 }) }
of_one_link-none = refl
