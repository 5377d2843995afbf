-- The bytes of a capture of departures: little-endian, with nanoseconds (libpcap 2.4).
use Rattle.std.specs.Prelude.{◌≡◌, refl, ℕ, None, Some, List, [], ◌∷◌, map}
use Rattle.pcap_defs.specs.Packet.{CapturedPacket}
use Rattle.pcap_defs.specs.Record.{Record}
use Rattle.pcap_core.specs.Bytes.{file_bytes, two_packets_file}
use Rattle.pcap_core.specs.Laws.{record_at}
use Rattle.packet_defs.specs.declared.packet.Packet.{Packet}
use Rattle.rank_defs.specs.declared.environment.FlowKey.{FlowKey}
use Rattle.sched_defs.specs.Events.{Outcome, Departed, Empty, Dropped}
use Rattle.sched_defs.specs.Packets.{Captured, captured_from}
use Rattle.forward_defs.specs.Sendings.{Sending, sendings}

-- the record of a departing packet: the timestamp at which it starts, its original length and its
-- captured bytes
abbrev pub sent_record : Captured → Sending → Record
sent_record captured s = record_at s.start s.packet.len (captured s.packet.number)

-- the same as a captured packet, which is the same for every capture format
abbrev pub sent_packet : ℕ → Captured → Sending → CapturedPacket
sent_packet link captured s = record { link = link; moment = s.start; original = s.packet.len; captured = captured s.packet.number }

-- the header with a link type, and the records of the departures that aren't late, in order
abbrev pub forward_bytes : ℕ → Captured → List Outcome → List ℕ
forward_bytes link captured os = file_bytes link (map (sent_record captured) (sendings os))

-- two packets of 4 bytes, which depart at once and a microsecond later
abbrev no_flow : FlowKey
no_flow = record { version = 0; source = 0; target = 0; proto = 0; sport = 0; dport = 0 }

abbrev pub packet_of : ℕ → Packet
packet_of n = record { number = n; class = 0; len = 4; moment = 1000000000; flow = no_flow }

abbrev pub two_captured : Captured
two_captured = captured_from 1 (record { link = 147; moment = 1; original = 4; captured = 0 ∷ 0 ∷ 0 ∷ 1 ∷ [] } ∷ record { link = 147; moment = 1; original = 4; captured = 0 ∷ 0 ∷ 0 ∷ 2 ∷ [] } ∷ [])

-- drops, departures that find nothing, and late departures have no record
forward_bytes-two : forward_bytes 147 two_captured
    (Departed (packet_of 1) [] (0 ∷ []) (Some 1000000000) ∷ Dropped (packet_of 3) [] ∷ Departed (packet_of 2) [] (0 ∷ []) (Some 1000001000) ∷ Empty
    ∷ Departed (packet_of 3) [] (0 ∷ []) (Some 4294967296000000000) ∷ []) ≡ two_packets_file
forward_bytes-two = refl

-- a packet of 1500 bytes, four of them captured, that starts 1000 nanoseconds after it arrived
abbrev later : Sending
later = record { start = 1000001000; packet = record (packet_of 2) { len = 1500 } }

sent_record-later : sent_record two_captured later ≡ record { seconds = 1; fraction = 1000; original = 1500; captured = 0 ∷ 0 ∷ 0 ∷ 2 ∷ [] }
sent_record-later = refl

sent_packet-later : sent_packet 147 two_captured later ≡ record { link = 147; moment = 1000001000; original = 1500; captured = 0 ∷ 0 ∷ 0 ∷ 2 ∷ [] }
sent_packet-later = refl

-- departures stay in the order in which they start, each with its start; a departure without a
-- start is left out
sendings-in_order : sendings (Departed (packet_of 2) [] (0 ∷ []) (Some 5) ∷ Departed (packet_of 3) [] (0 ∷ []) None ∷ Dropped (packet_of 4) [] ∷ Departed (packet_of 1) [] (0 ∷ []) (Some 9) ∷ [])
    ≡ record { start = 5; packet = packet_of 2 } ∷ record { start = 9; packet = packet_of 1 } ∷ []
sendings-in_order = refl
