use Rattle.sched_core.proofs.Prelude.{arith, ◌≡◌, ap, ◌∙◌, sym, ℕ, length, Some, Option, true, false, ◌<◌, if◌then◌else◌, ◌==◌, Bool, set, ◌+◌, ◌/◌, ◌&&◌, err_from_is_err_and, Packet, packet_within, packet_of, Chunk}
use Rattle.sched_core.specs.Chunks.{packet_from}
use Rattle.sched_core.proofs.SlotLaws.{if_other}
use Rattle.sched_core.proofs.ChunkLaws.{index_from, index-is, within-added, within-same}
use Rattle.sched_core.proofs.NumberLaws.{below-same, below-with, below-length}
use Rattle.sched_core.proofs.held.Window.push.Goals as goal
use Rattle.sched_core.proofs.held.Window.push.Goals.{After-push}

-- ---- the packet is offered to the chunk of its number
abbrev at : After-push → ℕ
at c = index_from c.args.self.now.first (c.args.packet.now.number / 64)

within : (c : After-push) → at c < length c.args.self.now.chunks.items
within c = omega (arith, c.if-i-len.false, c.len.ensures, c.args.self.now.chunks.ok)

chunk : (c : After-push) → c.args.packet.now.number / 64 ≡ c.args.self.now.first + at c
chunk c =
    let w = c.args.self.now in
    index-is w.first (length w.chunks.items) c.args.packet.now.number (omega (arith, w.low, w.chunks.ok)) (omega (arith, c.requires.below, w.ends)) (within c)

-- the packets in the window after
abbrev after : After-push → ℕ → Option Packet
after c = packet_within c.args.self.now.first (set c.args.self.now.chunks.items (at c) c.push.new.self)

abbrev before : After-push → ℕ → Option Packet
before c = packet_within c.args.self.now.first c.args.self.now.chunks.items

-- memory ran out
kept : (c : After-push) → ((n : ℕ) → packet_of c.push.new.self n ≡ packet_of c.index_mut.result.now n) → (n : ℕ) → after c n ≡ before c n
kept c same n =
    let w = c.args.self.now in
    within-same w.first w.chunks.items (at c) c.index_mut.result.now c.push.new.self n (within c) (same n ∙ ap (λ (x : Chunk). packet_of x n) c.index_mut.ensures.value)

-- the packet was added, or not
added : (c : After-push) (stands : Bool) → ((n : ℕ) → n / 64 ≡ c.args.packet.now.number / 64 → packet_of c.push.new.self n ≡ (if stands && (n == c.args.packet.now.number) then Some c.args.packet.now else packet_of c.index_mut.result.now n))
    → (n : ℕ) → after c n ≡ (if stands && (n == c.args.packet.now.number) then Some c.args.packet.now else before c n)
added c stands ok n =
    let w = c.args.self.now in
    within-added w.first w.chunks.items (at c) c.index_mut.result.now c.push.new.self c.args.packet.now stands n (within c) (chunk c) c.index_mut.ensures.value (ok n)

when : (c : After-push) (stands on : Bool) (n : ℕ) → stands ≡ on → (if stands && (n == c.args.packet.now.number) then Some c.args.packet.now else before c n) ≡ (if on && (n == c.args.packet.now.number) then Some c.args.packet.now else before c n)
when c stands on n e = ap (λ (t : Bool). if t && (n == c.args.packet.now.number) then Some c.args.packet.now else before c n) e

pub invariant_of-self : goal.invariant_of-self
invariant_of-self c =
    let t = (goal.at.invariant_of-self c).After-push in
    let w = c.args.self.now in
    let same = kept t c.in_err-stands.ensures.err in
    record {
      low = w.low;
      ends = w.ends;
      behind = λ n far. same n ∙ w.behind n far;
      counted = w.counted ∙ sym (ap length (below-same (after t) (before t) w.end (λ n l. same n)));
    }

pub returns-in_err-stands-clause-err : goal.returns-in_err-stands-clause-err
unfolding packet_from
returns-in_err-stands-clause-err c =
    let t = (goal.at.returns-in_err-stands-clause-err c).After-push in
    let p = err_from_is_err_and c.from_residual.result c.from_residual.ensures.1 in
    rw (p.1) (kept t c.in_err-stands.ensures.err)

pub overflow_add-self : goal.overflow_add-self
overflow_add-self c =
    let w = c.args.self.now in
    omega (arith, w.counted, below-length (packet_within w.first w.chunks.items) w.end, w.ends)

pub invariant_of-self-then-stands : goal.invariant_of-self-then-stands
unfolding packet_from
invariant_of-self-then-stands c =
    let t = (goal.at.invariant_of-self-then-stands c).After-push in
    let w = c.args.self.now in
    let p = c.args.packet.now in
    let more : (n : ℕ) → after t n ≡ (if n == p.number then Some p else before t n) = λ n. added t c.in_ok-stands.stands c.in_ok-stands.ensures.ok n ∙ when t c.in_ok-stands.stands true n c.if-stands.true in
    record {
      low = w.low;
      ends = w.ends;
      behind = λ n far. more n ∙ if_other n p.number (Some p) (before t n) (omega (arith, far, c.requires.below)) ∙ w.behind n far;
      counted = omega (arith, w.counted, below-with (before t) (after t) p.number w.end p c.requires.below c.requires.free more);
    }

pub invariant_of-self-else-stands : goal.invariant_of-self-else-stands
invariant_of-self-else-stands c =
    let t = (goal.at.invariant_of-self-else-stands c).After-push in
    let w = c.args.self.now in
    let same : (n : ℕ) → after t n ≡ before t n = λ n. added t c.in_ok-stands.stands c.in_ok-stands.ensures.ok n ∙ when t c.in_ok-stands.stands false n c.if-stands.false in
    record {
      low = w.low;
      ends = w.ends;
      behind = λ n far. same n ∙ w.behind n far;
      counted = w.counted ∙ sym (ap length (below-same (after t) (before t) w.end (λ n l. same n)));
    }

pub returns-then-stands-clause-ok : goal.returns-then-stands-clause-ok
unfolding packet_from
returns-then-stands-clause-ok c = added (goal.at.returns-then-stands-clause-ok c).After-push c.in_ok-stands.stands c.in_ok-stands.ensures.ok

pub returns-else-stands-clause-ok : goal.returns-else-stands-clause-ok
unfolding packet_from
returns-else-stands-clause-ok c = added (goal.at.returns-else-stands-clause-ok c).After-push c.in_ok-stands.stands c.in_ok-stands.ensures.ok
