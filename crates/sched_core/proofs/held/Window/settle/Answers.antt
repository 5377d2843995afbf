use Rattle.sched_core.proofs.Prelude.{arith, ◌≡◌, ap, ◌∙◌, sym, ℕ, length, ◌<◌, set, ◌-◌, packet_within, packet_of, Chunk}
use Rattle.sched_core.specs.Chunks.{packet_from}
use Rattle.sched_core.proofs.ChunkLaws.{within-same}
use Rattle.sched_core.proofs.NumberLaws.{below-same}
use Rattle.sched_core.proofs.held.Window.settle.Goals as goal

pub invariant_of-self : goal.invariant_of-self
invariant_of-self c =
    let w = c.args.self.now in
    let i : ℕ = c.len-len.result - 4 in
    let within : i < length w.chunks.items = omega (arith, c.len-len.ensures, c.if-len-lt-OPEN.false, w.chunks.ok) in
    let same : (n : ℕ) → packet_within w.first (set w.chunks.items i c.shrink.new.self) n ≡ packet_within w.first w.chunks.items n
    = λ n. within-same w.first w.chunks.items i c.index_mut.result.now c.shrink.new.self n within (c.shrink.ensures.packets n ∙ ap (λ (x : Chunk). packet_of x n) c.index_mut.ensures.value) in
    record {
      low = w.low;
      ends = w.ends;
      behind = λ n far. same n ∙ w.behind n far;
      counted = w.counted ∙ sym (ap length (below-same (packet_within w.first (set w.chunks.items i c.shrink.new.self)) (packet_within w.first w.chunks.items) w.end (λ n l. same n)));
    }

pub returns-clause-packets : goal.returns-clause-packets
unfolding packet_from
returns-clause-packets c = λ n.
    let w = c.args.self.now in
    let i : ℕ = c.len-len.result - 4 in
    let within : i < length w.chunks.items = omega (arith, c.len-len.ensures, c.if-len-lt-OPEN.false, w.chunks.ok) in
    within-same w.first w.chunks.items i c.index_mut.result.now c.shrink.new.self n within (c.shrink.ensures.packets n ∙ ap (λ (x : Chunk). packet_of x n) c.index_mut.ensures.value)
