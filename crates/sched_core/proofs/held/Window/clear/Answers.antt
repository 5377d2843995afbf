use Rattle.sched_core.proofs.Prelude.{arith, List, Chunk, ◌≡◌, ap, ◌∙◌, sym, ℕ, length, Some, ◌<◌, Option, None, ◌+◌, is_some, if◌then◌else◌, ◌==◌, ◌/◌, set, Packet, packet_within, packet_of, numbers_below}
use Rattle.sched_core.specs.Chunks.{packet_from}
use Rattle.sched_core.proofs.SlotLaws.{if_same, if_other, split, among-none}
use Rattle.sched_core.proofs.ChunkLaws.{index_from, index-is, index-past, taken, told, within-drop, drop-length}
use Rattle.sched_core.proofs.NumberLaws.{below-same, below-without, found-below}
use Rattle.sched_core.proofs.HeldNumbers.{was_empty}
use Rattle.sched_core.proofs.held.Window.clear.Goals as goal
use Rattle.sched_core.proofs.held.Window.clear.Goals.{After-take}

-- ---- the number's chunk
abbrev at : After-take → ℕ
at c = index_from c.args.self.now.first (c.args.number / 64)

within : (c : After-take) → at c < length c.args.self.now.chunks.items
within c = omega (arith, c.if-i-len.false, c.len.ensures, c.args.self.now.chunks.ok)

chunk : (c : After-take) → c.args.number / 64 ≡ c.args.self.now.first + at c
chunk c =
    let w = c.args.self.now in
    index-is w.first (length w.chunks.items) c.args.number (omega (arith, w.low, w.chunks.ok)) (omega (arith, c.ranges.number.fits)) (within c)

pub returns-then-i-len-clause-value : goal.returns-then-i-len-clause-value
unfolding packet_from
returns-then-i-len-clause-value c =
    let w = c.args.self.now in
    index-past w.first w.chunks.items c.args.number (omega (arith, w.low, w.chunks.ok)) (omega (arith, c.ranges.number.fits)) (omega (arith, c.if-i-len.true, c.len.ensures, w.chunks.ok))

pub returns-then-i-len-clause-packets : goal.returns-then-i-len-clause-packets
unfolding packet_from
returns-then-i-len-clause-packets c = λ n.
    let w = c.args.self.now in
    let none = index-past w.first w.chunks.items c.args.number (omega (arith, w.low, w.chunks.ok)) (omega (arith, c.ranges.number.fits)) (omega (arith, c.if-i-len.true, c.len.ensures, w.chunks.ok)) in
    sym (split n c.args.number
    (λ same. if_same n c.args.number None (packet_within w.first w.chunks.items n) same ∙ sym (ap (packet_within w.first w.chunks.items) same ∙ none))
    (λ other. if_other n c.args.number None (packet_within w.first w.chunks.items n) other))

-- the packets in the window before a chunk is asked for a packet, and after
abbrev before : After-take → ℕ → Option Packet
before c = packet_within c.args.self.now.first c.args.self.now.chunks.items

abbrev after : After-take → ℕ → Option Packet
after c = packet_within c.args.self.now.first (set c.args.self.now.chunks.items (at c) c.take.new.self)

-- the chunk's packet under the number
abbrev told_now : After-take → Option Packet
told_now c = packet_of c.index_mut.result.now c.args.number

-- ---- the chunk gives the window's packet under the number, and only that packet is gone
stood : (c : After-take) → before c c.args.number ≡ told_now c
stood c =
    let w = c.args.self.now in
    sym (told w.first w.chunks.items (at c) c.index_mut.result.now c.args.number (within c) (chunk c) c.index_mut.ensures.value)

gone : (c : After-take) (n : ℕ) → after c n ≡ (if n == c.args.number then None else before c n)
gone c n =
    let w = c.args.self.now in
    taken w.first w.chunks.items (at c) c.index_mut.result.now c.take.new.self c.args.number n (within c) (chunk c) c.index_mut.ensures.value (c.take.ensures.rest n)

-- if there was no packet, all packets stay
stay : (c : After-take) → told_now c ≡ None → (n : ℕ) → after c n ≡ before c n
stay c none n = was_empty n c.args.number (before c n) (after c n) (gone c n) (λ same. ap (before c) same ∙ stood c ∙ none)

-- if there was a packet, its number was below the end, and one fewer is in the window
near : (c : After-take) → told_now c ≡ Some c.take.new.packet → c.args.number < c.args.self.now.end
near c some = found-below (before c) c.args.self.now.end c.args.number (ap is_some (stood c ∙ some)) c.args.self.now.behind

fewer : (c : After-take) → told_now c ≡ Some c.take.new.packet → length (numbers_below (after c) c.args.self.now.end) + 1 ≡ c.args.self.now.filled
fewer c some = below-without (before c) (after c) c.args.number c.args.self.now.end (near c some) (ap is_some (stood c ∙ some)) (gone c) ∙ sym c.args.self.now.counted

pub invariant_of-self : goal.invariant_of-self
invariant_of-self c =
    let w = c.args.self.now in
    let t = (goal.at.invariant_of-self c).After-take in
    let same = stay t c.if-not-take.ensures.value in
    record {
      low = w.low;
      ends = w.ends;
      behind = λ n far. same n ∙ w.behind n far;
      counted = w.counted ∙ sym (ap length (below-same (after t) (before t) w.end (λ n l. same n)));
    }

pub returns-then-not-take-clause-value : goal.returns-then-not-take-clause-value
unfolding packet_from
returns-then-not-take-clause-value c = stood (goal.at.returns-then-not-take-clause-value c).After-take ∙ c.if-not-take.ensures.value

pub returns-then-not-take-clause-packets : goal.returns-then-not-take-clause-packets
unfolding packet_from
returns-then-not-take-clause-packets c = gone (goal.at.returns-then-not-take-clause-packets c).After-take

pub overflow_sub-self : goal.overflow_sub-self
overflow_sub-self c = omega (arith, fewer (goal.at.overflow_sub-self c).After-take c.if-not-take.ensures.value)

pub invariant_of-self-2 : goal.invariant_of-self-2
invariant_of-self-2 c =
    let w = c.args.self.now in
    let t = (goal.at.invariant_of-self-2 c).After-take in
    record {
      low = w.low;
      ends = w.ends;
      behind = λ n far. gone t n ∙ if_other n c.args.number None (before t n) (omega (arith, far, near t c.if-not-take.ensures.value)) ∙ w.behind n far;
      counted = omega (arith, fewer t c.if-not-take.ensures.value);
    }

-- ---- empty chunks before all others are dropped
none-in : (chunk x : Chunk) (n : ℕ) → chunk ≡ x → chunk.filled ≡ 0 → packet_of x n ≡ None
none-in chunk x n is none = sym (ap (λ (y : Chunk). packet_of y n) is) ∙ among-none chunk.base chunk.slots.items n (sym chunk.counted ∙ none)

pub invariant_of-self-in-loop-self : goal.invariant_of-self-in-loop-self
invariant_of-self-in-loop-self c =
    let w = c.loop-self.self in
    let some : 0 < length w.chunks.items = omega (arith, c.loop-self-test.true, c.len.ensures, w.chunks.ok) in
    let rest : (n : ℕ) → packet_within (w.first + 1) c.pop_front.new.self.items n ≡ packet_within w.first w.chunks.items n
    = λ n. ap (λ (cs : List Chunk). packet_within (w.first + 1) cs n) c.pop_front.ensures.rest
    ∙ within-drop w.first w.chunks.items c.index.result.now n some (none-in c.index.result.now _ n c.index.ensures (omega (arith, c.if-index-eq0.true))) in
    record {
      low = omega (arith, w.low, ap length c.pop_front.ensures.rest, drop-length w.chunks.items some, c.pop_front.new.self.ok, w.chunks.ok);
      ends = w.ends;
      behind = λ n far. rest n ∙ w.behind n far;
      counted = w.counted ∙ sym (ap length (below-same (packet_within (w.first + 1) c.pop_front.new.self.items) (packet_within w.first w.chunks.items) w.end (λ n l. rest n)));
    }

pub loop-self-preserved : goal.loop-self-preserved
unfolding packet_from
loop-self-preserved c =
    let w = c.loop-self.self in
    let some : 0 < length w.chunks.items = omega (arith, c.loop-self-test.true, c.len.ensures, w.chunks.ok) in
    record {
      packets = λ n. ap (λ (cs : List Chunk). packet_within (w.first + 1) cs n) c.pop_front.ensures.rest
          ∙ within-drop w.first w.chunks.items c.index.result.now n some (none-in c.index.result.now _ n c.index.ensures (omega (arith, c.if-index-eq0.true)))
          ∙ c.loop-self.invariant.packets n;
      end = c.loop-self.invariant.end;
      filled = c.loop-self.invariant.filled;
    }

-- ---- then the first chunk has a packet, or is the only one
pub returns-else-index-eq0-clause-value : goal.returns-else-index-eq0-clause-value
unfolding packet_from
returns-else-index-eq0-clause-value c = stood (goal.at.returns-else-index-eq0-clause-value c).After-take ∙ c.if-not-take.ensures.value

pub returns-else-index-eq0-clause-packets : goal.returns-else-index-eq0-clause-packets
unfolding packet_from
returns-else-index-eq0-clause-packets c = λ n. c.loop-self.invariant.packets n ∙ gone (goal.at.returns-else-index-eq0-clause-packets c).After-take n

pub returns-else-index-eq0-clause-fewer : goal.returns-else-index-eq0-clause-fewer
returns-else-index-eq0-clause-fewer c = λ _. omega (arith, c.loop-self.invariant.filled, fewer (goal.at.returns-else-index-eq0-clause-fewer c).After-take c.if-not-take.ensures.value)

pub returns-after-loop-self-clause-value : goal.returns-after-loop-self-clause-value
unfolding packet_from
returns-after-loop-self-clause-value c = stood (goal.at.returns-after-loop-self-clause-value c).After-take ∙ c.if-not-take.ensures.value

pub returns-after-loop-self-clause-packets : goal.returns-after-loop-self-clause-packets
unfolding packet_from
returns-after-loop-self-clause-packets c = λ n. c.loop-self.invariant.packets n ∙ gone (goal.at.returns-after-loop-self-clause-packets c).After-take n

pub returns-after-loop-self-clause-fewer : goal.returns-after-loop-self-clause-fewer
returns-after-loop-self-clause-fewer c = λ _. omega (arith, c.loop-self.invariant.filled, fewer (goal.at.returns-after-loop-self-clause-fewer c).After-take c.if-not-take.ensures.value)
