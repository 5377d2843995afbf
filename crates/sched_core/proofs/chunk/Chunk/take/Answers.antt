use Rattle.sched_core.proofs.Prelude.{arith, ◌≡◌, ap, ap₂, ℕ, ◌+◌, ◌∙◌, sym, List, length, subst, Some, ◌<◌, ◌-◌, refl, None, get_or, if◌then◌else◌, ◌==◌, true, ◌%◌, packet_in, packet_among, stands_at, Slot}
use Rattle.sched_core.proofs.SlotLaws.{split, if_same, if_other, none-place, stands-marked, place-there, emptied-mark, any-default, filled-there, some-filled, filled-emptied, ordered-in, ordered-out, ordered-set, at-least, elsewhere, among-at, among-nowhere, among-emptied}
use Rattle.sched_core.proofs.chunk.Chunk.take.Goals as goal
use Rattle.sched_core.proofs.chunk.Chunk.take.Goals.{After-index_mut}

abbrev emptied : ℕ → Slot → Slot
emptied place s = record { mark = place + 64; class = s.class; version = s.version; proto = s.proto; sport = s.sport; dport = s.dport; source = s.source; target = s.target; late_low = s.late_low; late_high = s.late_high; len = s.len }

pub loop-i-init : goal.loop-i-init
loop-i-init c =
    let chunk = c.args.self.now in
    let slots = chunk.slots.items in
    record {
      within = omega (arith, c.min-i.ensures, c.len.ensures, chunk.slots.ok);
      same = refl;
      base = refl;
      behind = λ k d far within. elsewhere (c.args.number % 64) (get_or slots k d)
          (omega (arith, at-least 0 slots k d (ordered-in 0 slots chunk.ordered) within, far, within, c.min-i.ensures, c.len.ensures, chunk.slots.ok));
    }

-- ---- the packet is in the slot
within : (c : After-index_mut) → c.loop-i.i - 1 < length c.loop-i.self.slots.items
within c = omega (arith, c.loop-i-test.true, c.loop-i.invariant.within)

found : (c : After-index_mut) (d : Slot) → stands_at (c.args.number % 64) (get_or c.loop-i.self.slots.items (c.loop-i.i - 1) d) ≡ true
found c d =
    let slots = c.loop-i.self.slots.items in
    let i = c.loop-i.i - 1 in
    let slot = c.index-slot.result.now in
    subst (λ (s : Slot). stands_at (c.args.number % 64) s ≡ true) (c.index-slot.ensures ∙ any-default slots i slot d (within c)) (stands-marked (c.args.number % 64) slot (omega arith) (omega (arith, c.if-slot-place.true)))

pub overflow_sub-self : goal.overflow_sub-self
overflow_sub-self c =
    let t = (goal.at.overflow_sub-self c).After-index_mut in
    let chunk = c.loop-i.self in
    let slots = chunk.slots.items in
    let i = c.loop-i.i - 1 in
    let slot = c.index_mut.result.now in
    omega (arith, chunk.counted, some-filled slots i slot (within t) (filled-there (c.args.number % 64) (get_or slots i slot) (found t slot)))

pub invariant_of-self : goal.invariant_of-self
invariant_of-self c =
    let t = (goal.at.invariant_of-self c).After-index_mut in
    let chunk = c.loop-i.self in
    let slots = chunk.slots.items in
    let i = c.loop-i.i - 1 in
    let slot = c.index_mut.result.now in
    record {
      ordered = ordered-out 0 _ (ordered-set 0 slots i slot (emptied (c.args.number % 64) slot) (ordered-in 0 slots chunk.ordered) (within t) (omega (arith, place-there (c.args.number % 64) (get_or slots i slot) (found t slot))));
      counted = omega (arith, chunk.counted, filled-emptied slots i slot (emptied (c.args.number % 64) slot) (within t) (emptied-mark (emptied (c.args.number % 64) slot) (omega arith)) (filled-there (c.args.number % 64) (get_or slots i slot) (found t slot)));
    }

pub returns-then-slot-place-clause-value : goal.returns-then-slot-place-clause-value
returns-then-slot-place-clause-value c =
    let t = (goal.at.returns-then-slot-place-clause-value c).After-index_mut in
    let m = c.args.number in
    let slots = c.loop-i.self.slots.items in
    let slot = c.index-slot.result.now in
    ap₂ (λ (b : ℕ) (l : List Slot). packet_among b l m) (sym c.loop-i.invariant.base) (sym c.loop-i.invariant.same)
    ∙ among-at c.loop-i.self.base 0 slots (c.loop-i.i - 1) slot m (ordered-in 0 slots c.loop-i.self.ordered) (within t) (found t slot)
    ∙ sym (ap Some (c.put_packet.ensures ∙ ap (packet_in c.loop-i.self.base m) c.index-slot.ensures))

pub returns-then-slot-place-clause-rest : goal.returns-then-slot-place-clause-rest
returns-then-slot-place-clause-rest c = λ n.
    let t = (goal.at.returns-then-slot-place-clause-rest c).After-index_mut in
    let m = c.args.number in
    let slots = c.loop-i.self.slots.items in
    let slot = c.index_mut.result.now in
    among-emptied c.loop-i.self.base 0 slots (c.loop-i.i - 1) slot (emptied (m % 64) slot) m n (ordered-in 0 slots c.loop-i.self.ordered) (within t) (emptied-mark (emptied (m % 64) slot) (omega arith)) (found t slot)
    ∙ ap₂ (λ (b : ℕ) (l : List Slot). if n % 64 == m % 64 then None else packet_among b l n) c.loop-i.invariant.base c.loop-i.invariant.same

-- ---- no slot has it
pub returns-clause-value : goal.returns-clause-value
returns-clause-value c =
    let m = c.args.number in
    let slots = c.loop-i.self.slots.items in
    ap₂ (λ (b : ℕ) (l : List Slot). packet_among b l m) (sym c.loop-i.invariant.base) (sym c.loop-i.invariant.same) ∙ among-nowhere c.loop-i.self.base slots m (λ k d within. c.loop-i.invariant.behind k d (omega (arith, c.loop-i-test.false)) within)

pub returns-clause-rest : goal.returns-clause-rest
returns-clause-rest c = λ n.
    let m = c.args.number in
    let slots = c.loop-i.self.slots.items in
    let old = c.args.self.now in
    let base = c.loop-i.self.base in
    let none = among-nowhere base slots m (λ k d within. c.loop-i.invariant.behind k d (omega (arith, c.loop-i-test.false)) within) in
    split (n % 64) (m % 64)
    (λ same. none-place base slots m n same none ∙ sym (if_same (n % 64) (m % 64) None (packet_among old.base old.slots.items n) same))
    (λ other. ap₂ (λ (b : ℕ) (l : List Slot). packet_among b l n) c.loop-i.invariant.base c.loop-i.invariant.same ∙ sym (if_other (n % 64) (m % 64) None (packet_among old.base old.slots.items n) other))
