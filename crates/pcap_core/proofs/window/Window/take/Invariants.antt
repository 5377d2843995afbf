use Rattle.pcap_core.proofs.Prelude.{◌++◌, ◌-◌, ◌≤◌, vec_len, held, TakesFront, rest_of, Serves}
use Rattle.pcap_core.proofs.window.Window.take.Given as goal

abbrev pub invariant-loop-into : goal.invariant-loop-into
invariant-loop-into g l =
    let s = g.S.Shelf in
    record {
      taken : TakesFront (rest_of (l.fn.into.items ++ held l.fn.self) (s.left l.fn.shelf)) (rest_of (held l.self) (s.left l.shelf)) l.into.items;
      bound : vec_len l.into ≤ l.most;
      serves : Serves s.lends s.content s.begun s.faults l.fn.shelf l.shelf;
    }

abbrev pub decreases-loop-into : goal.decreases-loop-into
decreases-loop-into g l = l.most - vec_len l.into
