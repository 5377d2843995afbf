use Rattle.pcapng_core.proofs.Prelude.{◌≡◌, ◌≤◌, ◌-◌, [], Serves, most_blocks, carry_of, rest_left, GoesOn, is_live, packets_given}
use Rattle.pcapng_core.proofs.reader.NgReader.read_packet.Given as goal

abbrev pub invariant-loop-packet : goal.invariant-loop-packet
invariant-loop-packet g l =
    let s = g.S.Shelf in
    record {
      goes_on : GoesOn (carry_of l.fn.self) [] (carry_of l.self) (rest_left l.fn.self (s.left l.fn.shelf)) (rest_left l.self (s.left l.shelf));
      counted : (carry_of l.fn.self).blocks ≤ (carry_of l.self).blocks;
      given : packets_given l.self ≡ packets_given l.fn.self;
      live : is_live l.self ≡ is_live l.fn.self;
      serves : Serves s.lends s.content s.begun s.faults l.fn.shelf l.shelf;
    }

abbrev pub decreases-loop-packet : goal.decreases-loop-packet
decreases-loop-packet g l = most_blocks - (carry_of l.self).blocks
