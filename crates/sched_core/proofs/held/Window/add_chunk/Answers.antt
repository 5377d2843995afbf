use Rattle.sched_core.proofs.Prelude.{arith, ◌≡◌, ap, ◌∙◌, sym, ℕ, List, length, is_ok, deque_len, packet_within, Chunk}
use Rattle.sched_core.specs.Chunks.{packet_from}
use Rattle.sched_core.proofs.ChunkLaws.{within-push, within-maybe, one-more}
use Rattle.sched_core.proofs.NumberLaws.{below-same}
use Rattle.sched_core.proofs.held.Window.add_chunk.Goals as goal

pub invariant_of-self : goal.invariant_of-self
invariant_of-self c =
    let w = c.settle.new.self in
    let more : (n : ℕ) → packet_within w.first c.push_back.new.self.items n ≡ packet_within w.first w.chunks.items n
    = λ n. ap (λ (cs : List Chunk). packet_within w.first cs n) c.push_back.ensures.items ∙ within-maybe w.first w.chunks.items c.new.result (is_ok c.push_back.result) n (c.new.ensures.empty n) in
    record {
      low = omega (arith, c.requires.low, c.settle.ensures.first, c.settle.ensures.len, c.push_back.ensures.len, one-more (is_ok c.push_back.result) (deque_len w.chunks));
      ends = w.ends;
      behind = λ n far. more n ∙ w.behind n far;
      counted = w.counted ∙ sym (ap length (below-same (packet_within w.first c.push_back.new.self.items) (packet_within w.first w.chunks.items) w.end (λ n l. more n)));
    }

pub returns-in_err-push_back-clause-packets : goal.returns-in_err-push_back-clause-packets
unfolding packet_from
returns-in_err-push_back-clause-packets c = λ n. ap (λ (cs : List Chunk). packet_within c.settle.new.self.first cs n) c.in_err-push_back.ensures.items ∙ c.settle.ensures.packets n

pub returns-clause-packets : goal.returns-clause-packets
unfolding packet_from
returns-clause-packets c = λ n.
    let w = c.settle.new.self in
    ap (λ (cs : List Chunk). packet_within w.first cs n) c.in_ok-push_back.ensures.items ∙ within-push w.first w.chunks.items c.new.result n (c.new.ensures.empty n) ∙ c.settle.ensures.packets n
