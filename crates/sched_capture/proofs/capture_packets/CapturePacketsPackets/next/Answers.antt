use Rattle.pcap_core.specs.Readers as classic
use Rattle.pcap_core.specs.Left as classic_left
use Rattle.pcapng_core.specs.Readers as blocks
use Rattle.pcapng_core.specs.Left as blocks_left
use Rattle.sched_capture.specs.Arrivals.{resolved_of, given_by, captured_by, contents_of}
use Rattle.sched_capture.proofs.PacketsLeft.{packet_of_call, known_of_call}
use Rattle.sched_capture.proofs.capture_packets.CapturePacketsPackets.next.Goals as goal

pub returns-in_ok-next_packet-in-Classic-clause-next : goal.returns-in_ok-next_packet-in-Classic-clause-next
returns-in_ok-next_packet-in-Classic-clause-next g c =
    let a = c.in-Classic.arrivals in
    let b = c.next_packet.new.self in
    let e = c.in_ok-next_packet-in-Classic.ensures in
    rw (c.in-Classic.is, c.next_packet.ensures.policy, c.is_some.ensures) (packet_of_call (resolved_of a) (given_by classic.records_given a) (given_by classic.records_given b)
    (contents_of classic_left.contents_left a (g.S.Shelf.left c.args.source.now)) (contents_of classic_left.contents_left b (g.S.Shelf.left c.next_packet.new.source)) c.next_packet.new.packet (captured_by classic.captured_of b) c.in_ok-next_packet-in-Classic.field-0 e.given e.next)

pub returns-in_ok-next_packet-in-Classic-clause-known : goal.returns-in_ok-next_packet-in-Classic-clause-known
returns-in_ok-next_packet-in-Classic-clause-known g c =
    let a = c.in-Classic.arrivals in
    let b = c.next_packet.new.self in
    let e = c.in_ok-next_packet-in-Classic.ensures in
    rw (c.in-Classic.is) (known_of_call (resolved_of a) (given_by classic.records_given a) (given_by classic.records_given b)
    (contents_of classic_left.contents_left a (g.S.Shelf.left c.args.source.now)) (contents_of classic_left.contents_left b (g.S.Shelf.left c.next_packet.new.source)) c.next_packet.new.packet (captured_by classic.captured_of b) c.in_ok-next_packet-in-Classic.field-0 e.given e.next e.ended)

pub returns-in_ok-next_packet-in-Blocks-clause-next : goal.returns-in_ok-next_packet-in-Blocks-clause-next
returns-in_ok-next_packet-in-Blocks-clause-next g c =
    let a = c.in-Blocks.arrivals in
    let b = c.next_packet-in-Blocks.new.self in
    let e = c.in_ok-next_packet-in-Blocks.ensures in
    rw (c.in-Blocks.is, c.next_packet-in-Blocks.ensures.policy, c.is_some-in-Blocks.ensures) (packet_of_call (resolved_of a) (given_by blocks.packets_given a) (given_by blocks.packets_given b)
    (contents_of blocks_left.contents_left a (g.S.Shelf.left c.args.source.now)) (contents_of blocks_left.contents_left b (g.S.Shelf.left c.next_packet-in-Blocks.new.source)) c.next_packet-in-Blocks.new.packet (captured_by blocks.captured_of b) c.in_ok-next_packet-in-Blocks.field-0 e.given e.next)

pub returns-in_ok-next_packet-in-Blocks-clause-known : goal.returns-in_ok-next_packet-in-Blocks-clause-known
returns-in_ok-next_packet-in-Blocks-clause-known g c =
    let a = c.in-Blocks.arrivals in
    let b = c.next_packet-in-Blocks.new.self in
    let e = c.in_ok-next_packet-in-Blocks.ensures in
    rw (c.in-Blocks.is) (known_of_call (resolved_of a) (given_by blocks.packets_given a) (given_by blocks.packets_given b)
    (contents_of blocks_left.contents_left a (g.S.Shelf.left c.args.source.now)) (contents_of blocks_left.contents_left b (g.S.Shelf.left c.next_packet-in-Blocks.new.source)) c.next_packet-in-Blocks.new.packet (captured_by blocks.captured_of b) c.in_ok-next_packet-in-Blocks.field-0 e.given e.next e.ended)
