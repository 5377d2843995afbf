use Rattle.sched_core.proofs.Prelude.{arith, ◌≡◌, ap, ◌∙◌, sym, List, length, subst, Some, None, refl, ◌<◌, [], ◌∷◌, ◌≤◌, ◌++◌, get_or, is_some, true, true≢false, ◌-◌, ◌%◌, slice_get, slice_get-get_or, packet_in, packet_among, are_ordered, filled_among, place_behind, place_of, is_filled, base_with, later_than, lt-ltb, ℕ, ◌^◌, ◌/◌, Slot, Chunk}
use Rattle.sched_core.specs.Slots.{IsBrief}
use Rattle.sched_core.proofs.SlotLaws.{base-first, base-kept, among-based, timestamp-back, if_same, if_other, split, among-push, ordered-push, filled-push, ordered-in, ordered-out, filled-le, behind-last}
use Rattle.sched_core.proofs.ChunkLaws.{same-number}
use Rattle.sched_core.proofs.chunk.Chunk.push.Goals as goal
use Rattle.sched_core.proofs.chunk.Chunk.push.Goals.{After-push_reserved, in-Some+else-place-last, in-None, then-len-capacity+in_ok-grow, else-len-capacity}

-- ---- the position is after those of all slots
last-some : (xs : List Slot) (s : Slot) → Some s ≡ slice_get xs (length xs - 1) → 0 < length xs
last-some [] s e = absurd (true≢false (ap is_some e))
last-some (x ∷ xs) s e = omega arith

last-none : (xs : List Slot) → None ≡ slice_get xs (length xs - 1) → xs ≡ []
last-none [] e = refl
last-none (x ∷ xs) e = absurd (true≢false (sym (ap is_some (e ∙ slice_get-get_or (x ∷ xs) (length (x ∷ xs) - 1) x (omega arith)))))

behind : (c : After-push_reserved) → place_behind 0 c.args.self.now.slots.items ≤ c.args.packet.now.number % 64
behind c =
    let slots = c.args.self.now.slots.items in
    elim c.match-last.branch [
      | in-Some+else-place-last w ↦
          let last = w.in-Some.last.now in
          let there = last-some c.deref.result.now last w.in-Some.ensures.value in
          let item : last ≡ get_or slots (length slots - 1) last = subst (λ (xs : List Slot). last ≡ get_or xs (length xs - 1) last) c.deref.ensures.value w.in-Some.ensures.item.1 in
          omega (arith, there, ap length c.deref.ensures.value, behind-last 0 slots (length slots - 1) last (omega (arith, there, ap length c.deref.ensures.value)), ap (λ (s : Slot). place_of s) item, w.if-place-last.false)
      | in-None w ↦ omega (arith, ap (place_behind 0) (sym c.deref.ensures.value ∙ last-none c.deref.result.now w.in-None.ensures.value))
    ]

-- the slot of the last position
pub returns-then-place-last-clause-added : goal.returns-then-place-last-clause-added
returns-then-place-last-clause-added c =
    let slots = c.args.self.now.slots.items in
    let last = c.in-Some.last.now in
    let there = last-some c.deref.result.now last c.in-Some.ensures.value in
    let item : last ≡ get_or slots (length slots - 1) last = subst (λ (xs : List Slot). last ≡ get_or xs (length xs - 1) last) c.deref.ensures.value c.in-Some.ensures.item.1 in
    let late = behind-last 0 slots (length slots - 1) last (omega (arith, there, ap length c.deref.ensures.value)) in
    ((λ no. absurd (true≢false (sym no))), (λ fits. absurd (omega (arith, fits.1, late, ap (λ (s : Slot). place_of s) item, c.if-place-last.true))))

-- ---- there is room for the slot
same : (c : After-push_reserved) → c.if-len-capacity.self.slots.items ≡ c.args.self.now.slots.items
same c = elim c.if-len-capacity.branch [
  | then-len-capacity+in_ok-grow w ↦ ap (λ (x : Chunk). x.slots.items) w.self-is ∙ w.grow.ensures.slots
  | else-len-capacity w ↦ ap (λ (x : Chunk). x.slots.items) w.self-is
]

abbrev slot : After-push_reserved → Slot
slot c =
    let p = c.args.packet.now in
    let late = later_than c.match-last.base p.moment in
    record { mark = p.number % 64; class = p.class; version = p.flow.version; proto = p.flow.proto; sport = p.flow.sport; dport = p.flow.dport; source = p.flow.source; target = p.flow.target; late_low = late % 2 ^ 32; late_high = late / 2 ^ 32; len = p.len }

filled : (c : After-push_reserved) → is_filled (slot c) ≡ true
filled c = lt-ltb (c.args.packet.now.number % 64) 64 (omega arith)

place : (c : After-push_reserved) → place_of (slot c) ≡ c.args.packet.now.number % 64
place c = omega arith

-- the chunk's timestamp, and how much later the packet is
based : (c : After-push_reserved) → c.match-last.base ≡ base_with c.args.self.now.base c.args.self.now.slots.items c.args.packet.now
based c =
    let chunk = c.args.self.now in
    let slots = chunk.slots.items in
    elim c.match-last.branch [
      | in-Some+else-place-last w ↦
          let there = last-some c.deref.result.now w.in-Some.last.now w.in-Some.ensures.value in
          w.base-is ∙ base-kept chunk.base slots c.args.packet.now (omega (arith, there, ap length c.deref.ensures.value))
      | in-None w ↦ w.base-is ∙ base-first chunk.base slots c.args.packet.now (ap length (sym c.deref.ensures.value ∙ last-none c.deref.result.now w.in-None.ensures.value))
    ]

more : (c : After-push_reserved) → c.push_reserved.new.self.items ≡ c.args.self.now.slots.items ++ slot c ∷ []
more c = c.push_reserved.ensures.items ∙ ap (λ (xs : List Slot). xs ++ slot c ∷ []) (same c)

filled_now : (c : After-push_reserved) → c.if-len-capacity.self.filled ≡ filled_among c.args.self.now.slots.items
filled_now c = c.if-len-capacity.self.counted ∙ ap filled_among (same c)

pub overflow_add-self : goal.overflow_add-self
overflow_add-self c =
    let t = (goal.at.overflow_add-self c).After-push_reserved in
    let chunk = c.args.self.now in
    omega (arith, filled_now t, filled-le chunk.slots.items, chunk.slots.ok, chunk.slots.small)

-- ---- the slot is the last one
pub invariant_of-self : goal.invariant_of-self
invariant_of-self c =
    let t = (goal.at.invariant_of-self c).After-push_reserved in
    let slots = c.args.self.now.slots.items in
    record {
      ordered = ap (are_ordered 0) (more t) ∙ ordered-out 0 (slots ++ slot t ∷ []) (ordered-push 0 slots (slot t) (ordered-in 0 slots c.args.self.now.ordered) (omega (arith, behind t)));
      counted = omega (arith, ap filled_among (more t), filled-push slots (slot t) (filled t), filled_now t);
    }

pub returns-clause-ok : goal.returns-clause-ok
returns-clause-ok c = λ n near.
    let t = (goal.at.returns-clause-ok c).After-push_reserved in
    let p = c.args.packet.now in
    let slots = c.args.self.now.slots.items in
    let old = c.args.self.now in
    let base = c.match-last.base in
    let is : packet_in base p.number (slot t) ≡ p = ap (λ (m : ℕ). record { number = p.number; class = p.class; len = p.len; moment = m; flow = p.flow }) (timestamp-back base p.moment (omega arith) (omega arith)) in
    let same_others : packet_among base slots n ≡ packet_among old.base slots n = ap (λ (b : ℕ). packet_among b slots n) (based t) ∙ among-based old.base slots p n in
    ap (λ (xs : List Slot). packet_among base xs n) (more t)
    ∙ among-push base 0 slots (slot t) n (ordered-in 0 slots old.ordered) (omega (arith, behind t)) (filled t)
    ∙ split n p.number
    (λ same. if_same (n % 64) (place_of (slot t)) (Some (packet_in base n (slot t))) (packet_among base slots n) (omega (arith, same)) ∙ ap Some (ap (λ z. packet_in base z (slot t)) same ∙ is) ∙ sym (if_same n p.number (Some p) (packet_among old.base slots n) same))
    (λ other. if_other (n % 64) (place_of (slot t)) (Some (packet_in base n (slot t))) (packet_among base slots n) (λ r. other (same-number n p.number near (r ∙ place t))) ∙ same_others ∙ sym (if_other n p.number (Some p) (packet_among old.base slots n) other))

pub returns-clause-added : goal.returns-clause-added
returns-clause-added c =
    let t = (goal.at.returns-clause-added c).After-push_reserved in
    let brief : IsBrief (base_with c.args.self.now.base c.args.self.now.slots.items c.args.packet.now) c.args.packet.now = (omega (arith, based t, t.if-late-ge-TOO_LATE.false), omega (arith, t.if-packet-from.false, t.from.ensures), omega (arith, t.if-packet-from-2.false, t.from-else-packet-from.ensures), omega (arith, t.if-packet-ge-LONG_ADDRESS.false), omega (arith, t.if-packet-ge-LONG_ADDRESS-2.false)) in
    ((λ _. (brief, behind t)), (λ _. refl))
