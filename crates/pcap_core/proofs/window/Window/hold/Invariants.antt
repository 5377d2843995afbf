use Rattle.pcap_core.proofs.Prelude.{◌≡◌, [], ◌-◌, vec_len, held, TakesFront, rest_of, Serves}
use Rattle.pcap_core.specs.Limits.{most_held}
use Rattle.pcap_core.proofs.window.Window.hold.Given as goal

abbrev pub invariant-loop-self : goal.invariant-loop-self
invariant-loop-self g l =
    let s = g.S.Shelf in
    record {
      same : TakesFront (rest_of (held l.fn.self) (s.left l.fn.shelf)) (rest_of (held l.self) (s.left l.shelf)) [];
      front : l.self.at ≡ 0;
      room : vec_len l.self.buffer ≡ most_held;
      serves : Serves s.lends s.content s.begun s.faults l.fn.shelf l.shelf;
    }

abbrev pub decreases-loop-self : goal.decreases-loop-self
decreases-loop-self g l = l.count - l.self.end
