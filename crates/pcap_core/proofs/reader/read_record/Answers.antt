use Rattle.pcap_core.proofs.Prelude.{◌≡◌, arith, length, bytes_taken}
use Rattle.pcap_core.proofs.Records.{short-taken, data-broken, frame-taken}
use Rattle.pcap_core.proofs.reader.read_record.Goals as goal

pub returns-then-taken-captured-clause-fault : goal.returns-then-taken-captured-clause-fault
returns-then-taken-captured-clause-fault g c =
    let p = rw c.in-Some.is at c.in_ok-preface.ensures in
    let bytes = bytes_taken c.take_in_place.new.self c.take_in_place.new.into.items in
    data-broken c.args.head c.args.count _ c.in-Some.preface _ _ p.told
    (short-taken c.in-Some.preface.captured _ bytes c.in_ok-taken.ensures.short (omega (arith, c.if-taken-captured.true, c.in_ok-taken.ensures.count)))
    p.limits.few (omega (arith, c.from-number.ensures)) p.limits.short

pub returns-clause-next : goal.returns-clause-next
returns-clause-next g c =
    let p = rw c.in-Some.is at c.in_ok-preface.ensures in
    let bytes = bytes_taken c.take_in_place.new.self c.take_in_place.new.into.items in
    let counted : c.in-Some.preface.captured ≡ length bytes = omega (arith, c.if-taken-captured.false, c.in_ok-taken.ensures.count, c.in_ok-taken.ensures.bound) in
    record {
      found = frame-taken c.args.head _ c.in-Some.preface bytes _ _ _ p.told c.in_ok-taken.ensures.taken p.limits.short counted;
      next = record {
        number = omega (arith, c.from-number.ensures);
        few = omega (arith, c.from-number.ensures, p.limits.few);
        captured = counted;
        short = p.limits.short;
        moment = p.limits.moment;
      };
    }
