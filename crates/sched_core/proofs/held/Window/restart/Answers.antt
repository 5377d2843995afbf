use Rattle.sched_core.proofs.Prelude.{arith, ◌≡◌, ap, ◌∙◌, sym, ℕ, List, length, None, packet_within, Chunk}
use Rattle.sched_core.specs.Chunks.{packet_from}
use Rattle.sched_core.proofs.NumberLaws.{below-same, none-at-all}
use Rattle.sched_core.proofs.held.Window.restart.Goals as goal

pub invariant_of-self : goal.invariant_of-self
invariant_of-self c =
    let w = c.args.self.now in
    let none : (n : ℕ) → packet_within w.first w.chunks.items n ≡ None = λ n. none-at-all (packet_within w.first w.chunks.items) w.end n (sym w.counted ∙ c.if-self-eq0.true) w.behind in
    let gone : (n : ℕ) → packet_within c.args.chunk c.clear.new.self.items n ≡ None = λ n. ap (λ (cs : List Chunk). packet_within c.args.chunk cs n) c.clear.ensures.items in
    record {
      low = omega (arith, c.requires.low, c.clear.ensures.len);
      ends = w.ends;
      behind = λ n far. gone n;
      counted = w.counted ∙ ap length (below-same (packet_within w.first w.chunks.items) (packet_within c.args.chunk c.clear.new.self.items) w.end (λ n l. none n ∙ sym (gone n)));
    }

pub returns-then-self-len-clause-packets : goal.returns-then-self-len-clause-packets
unfolding packet_from
returns-then-self-len-clause-packets c = λ n.
    let w = c.args.self.now in
    ap (λ (cs : List Chunk). packet_within c.args.chunk cs n) c.clear.ensures.items
    ∙ sym (none-at-all (packet_within w.first w.chunks.items) w.end n (sym w.counted ∙ c.if-self-eq0.true) w.behind)
