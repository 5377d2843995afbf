use Rattle.sched_run.proofs.Prelude.{◌≡◌, List, ◌≤◌, length, ◌-◌, Packet, Came, KeepsPackets}
use Rattle.sched_run.proofs.course.count_unsent.Given as goal

abbrev pub invariant-loop-unsent : goal.invariant-loop-unsent
invariant-loop-unsent g l =
    let P = g.P.Packets in
    record {
      came : (ps : List Packet) × (length ps ≡ l.unsent) × Came (P.left l.fn.packets l.fn.source) (P.left l.packets l.source) ps;
      few : l.unsent ≤ P.given l.packets;
      ready : P.ready l.packets l.source;
      kept : KeepsPackets P l.fn.packets l.packets l.fn.source l.source;
    }

abbrev pub decreases-loop-unsent : goal.decreases-loop-unsent
decreases-loop-unsent g l = 4294967296 - g.P.Packets.given l.packets
