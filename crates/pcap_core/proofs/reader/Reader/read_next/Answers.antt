use Rattle.pcap_core.proofs.Prelude.{◌≡◌, ◌<◌, arith, ap, false, option_map_or, Head, is_big, most_records}
use Rattle.pcap_core.proofs.Records.{record-sound, record-some}
use Rattle.pcap_core.proofs.reader.Reader.read_next.Goals as goal

pub returns-in-Ok-Some-clause-stops : goal.returns-in-Ok-Some-clause-stops
returns-in-Ok-Some-clause-stops g c =
    let e = c.in-Ok-Some.ensures in
    let taken = rw c.in-Ok-Some.field-0-is at e.next in
    let f = taken.found in
    let few : c.args.self.now.records < most_records = omega (arith, taken.next.number, taken.next.few) in
    let order : is_big c.args.self.now ≡ c.in-Some.head.big = ap (λ o. option_map_or (λ (head : Head). head.big) o false) c.in-Some.is in
    record {
      ended = λ no. absurd (cc);
      ends = record-some c.in-Some.head.big f.0 _ _ f.2;
      fault = tt;
      refused = record-sound (is_big c.args.self.now) c.in-Some.head.big c.args.self.now.records f.0 _ _ order few f.2;
    }
