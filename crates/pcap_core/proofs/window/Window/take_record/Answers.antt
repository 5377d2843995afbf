use Rattle.pcap_core.proofs.Prelude.{◌≡◌, ◌≤◌, ◌+◌, ◌-◌, arith, subst, take, drop, length, length-take, length-take-le, length-drop, most_captured, held}
use Rattle.pcap_core.specs.Frames.{IsPreface}
use Rattle.pcap_core.proofs.Records.{frame-held}
use Rattle.pcap_core.proofs.Windows.{taken-held}
use Rattle.pcap_core.proofs.window.Window.take_record.Goals as goal

pub returns-clause-some : goal.returns-clause-some
returns-clause-some c copied left =
    let w = c.args.self.now in
    let xs = w.buffer.items in
    let p = c.record_header_in-header.result in
    let after = w.at + (16 + p.captured) in
    let taken = drop (after - p.captured) (take after xs) in
    let whole : after ≤ w.end =
    omega (arith, c.if-front-captured.false, length-take (w.end - w.at) (drop w.at c.deref.result.now), length-drop w.at c.deref.result.now) in
    let counted : p.captured ≡ length taken = omega (arith, whole, length-drop (after - p.captured) (take after xs), length-take-le after xs (omega (arith, whole))) in
    let short : p.captured ≤ most_captured = omega (arith, whole) in
    record {
      found = frame-held c.args.head _ p (held w) (take 16 (held w)) taken (take (w.end - after) (drop after xs)) left
          (subst (λ ys. IsPreface c.args.head p (take 16 (take (w.end - w.at) (drop w.at ys)))) c.deref.ensures.value c.record_header_in-header.ensures.values)
          (taken-held xs w.at w.end 16 p.captured whole (omega arith)) short counted;
      next = record {
        number = omega (arith, c.from.ensures);
        few = omega (arith, c.from.ensures, c.if-count-eq4294967295.false);
        captured = counted;
        short = short;
        moment = c.record_header_in-header.ensures.bound;
      };
    }
