use Rattle.sched_capture.proofs.Prelude.{refl, ◌≡◌, arith, ◌+◌, policy_of, IsSendable, packet_of}
use Rattle.pcap_core.specs.Captures.{packet_of as packet_told}
use Rattle.sched_capture.proofs.RecordPackets.{next_of_record, packet-is}
use Rattle.sched_capture.proofs.capture_packets.Arrivals.next_packet.Goals as goal

pub returns-in-Some-clause-next : goal.returns-in-Some-clause-next
returns-in-Some-clause-next g c =
    let a = c.args.self.now in
    let e = c.in_ok-read.ensures in
    let n = g.R.CaptureReader.given a.reader in
    let bytes = g.R.CaptureReader.captured_of c.next_in_place.new.self c.next_in_place.new.into.items in
    let read = c.in-Some.read in
    let r = rw c.in-Some.is at e.reads in
    let p = c.classify.ensures in
    let put = packet-is (policy_of a.classifier) read c.captured-captured.result.now _ c.classify.new.packet refl refl refl p in
    let packet : c.classify.new.packet ≡ packet_of (policy_of a.classifier) (n + 1) (packet_told read bytes) = rw (r.1.number, c.captured-captured.ensures, c.deref.ensures.value) at put in
    let sendable : IsSendable (policy_of a.classifier).policy c.classify.new.packet = record {
      known = record { class = p.there; len = omega (arith, p.len) };
      moment = omega (arith, p.moment, r.1.moment);
    } in
    rw (c.if-self.false) (next_of_record (policy_of a.classifier) n (g.R.CaptureReader.left a.reader (g.S.Shelf.left c.args.source.now)) (g.R.CaptureReader.left c.next_in_place.new.self (g.S.Shelf.left c.next_in_place.new.shelf))
    read c.classify.new.packet bytes packet r.0 sendable
    (omega (arith, r.1.captured, r.1.short)))

pub returns-in-Some-clause-given : goal.returns-in-Some-clause-given
returns-in-Some-clause-given g c = rw c.in-Some.is at c.in_ok-read.ensures.given

pub returns-in-Some-clause-ready : goal.returns-in-Some-clause-ready
returns-in-Some-clause-ready g c =
    let e = c.in_ok-read.ensures in
    let r = rw c.in-Some.is at e.reads in
    record {
      started = e.ready;
      few = omega (arith, rw c.in-Some.is at e.given, r.1.number, r.1.few);
      still = e.shelf.still;
    }
