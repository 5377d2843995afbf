use Rattle.pcap_core.proofs.Prelude.{◌-◌, ◌≤◌, held, Passes, rest_of, Serves}
use Rattle.pcap_core.proofs.window.Window.pass.Given as goal

abbrev pub invariant-loop-rest : goal.invariant-loop-rest
invariant-loop-rest g l =
    let s = g.S.Shelf in
    record {
      passed : Passes (l.count - l.rest) (rest_of (held l.fn.self) (s.left l.fn.shelf)) (rest_of (held l.self) (s.left l.shelf));
      bound : l.rest ≤ l.count;
      serves : Serves s.lends s.content s.begun s.faults l.fn.shelf l.shelf;
    }

abbrev pub decreases-loop-rest : goal.decreases-loop-rest
decreases-loop-rest g l = l.rest
