use Rattle.pcap_core.proofs.Prelude.{◌≡◌, ap, false, option_map_or, Head, is_big}
use Rattle.pcap_core.proofs.Records.{record-sound, record-some}
use Rattle.pcap_core.proofs.reader.Reader.pass_next.Goals as goal

pub returns-in-Ok-true-clause-stops : goal.returns-in-Ok-true-clause-stops
returns-in-Ok-true-clause-stops g c =
    let e = c.in-Ok-true.ensures in
    let some = c.in-Ok-true.field-0-test in
    let f = e.found some in
    let order : is_big c.args.self.now ≡ c.in-Some.head.big = ap (λ o. option_map_or (λ (head : Head). head.big) o false) c.in-Some.is in
    record {
      ended = λ no. absurd (cc);
      ends = record-some c.in-Some.head.big f.0 _ _ f.1;
      fault = tt;
      refused = record-sound (is_big c.args.self.now) c.in-Some.head.big c.args.self.now.records f.0 _ _ order (e.few some) f.1;
    }
