use Rattle.sched_core.proofs.Prelude.{arith, ap, ◌∙◌, sym, length, refl, ◌+◌, packet_within}
use Rattle.sched_core.specs.Chunks.{packet_from}
use Rattle.sched_core.proofs.NumberLaws.{below-farther}
use Rattle.sched_core.proofs.held.Window.stretch.Goals as goal

pub invariant_of-self : goal.invariant_of-self
invariant_of-self c =
    let w = c.args.self.now in
    record {
      low = w.low;
      ends = omega (arith, c.requires.low);
      behind = λ n far. w.behind n (omega (arith, far, c.requires.behind));
      counted = w.counted ∙ sym (ap length (below-farther (packet_within w.first w.chunks.items) w.end (c.args.number + 1) (omega (arith, c.requires.behind)) w.behind));
    }

pub returns-clause-packets : goal.returns-clause-packets
unfolding packet_from
returns-clause-packets c = λ n. refl
