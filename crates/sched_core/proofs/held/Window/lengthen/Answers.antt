use Rattle.sched_core.proofs.Prelude.{arith, ap, ◌∙◌, sym, length, ◌+◌, packet_within}
use Rattle.sched_core.specs.Chunks.{packet_from}
use Rattle.sched_core.proofs.NumberLaws.{below-farther}
use Rattle.sched_core.proofs.held.Window.lengthen.Goals as goal

pub invariant_of-self : goal.invariant_of-self
invariant_of-self c =
    let w = c.loop-self.self in
    record {
      low = w.low;
      ends = omega (arith, c.requires.low);
      behind = λ n far. w.behind n (omega (arith, far, c.requires.behind, c.loop-self.invariant.end));
      counted = w.counted ∙ sym (ap length (below-farther (packet_within w.first w.chunks.items) w.end (c.args.number + 1) (omega (arith, c.requires.behind, c.loop-self.invariant.end)) w.behind));
    }

pub returns-clause-packets : goal.returns-clause-packets
unfolding packet_from
returns-clause-packets c = λ n. c.loop-self.invariant.packets n
