use Rattle.block_core.proofs.Prelude.{arith, ◌≡◌, subst, ◌+◌, ◌<◌, ◌∷◌, heap_items, rules, deque_len, IsOk, IsPermutation, Reverse, weight, held, head_of, Waiting}
use Rattle.block_core.proofs.BlockLaws.{heads_next}
use Rattle.block_core.proofs.block.leave_flow.Goals as goal

pub returns-in-Some-clause-heads : goal.returns-in-Some-clause-heads
returns-in-Some-clause-heads c f =
    let x : Reverse Waiting = record { 0 = c.in-Some.next.now } in
    let store = c.pop_front.new.self in
    let fits : IsOk c.push.result = c.push.ensures.succeeds c.requires.heads_room in
    let moved : IsPermutation (x ∷ heap_items c.args.heads.now) (heap_items c.push.new.self) = search (rules, fits, c.push.ensures.permutation) in
    let some : 0 < deque_len store = search rules in
    subst (λ z. weight f (held (heap_items c.push.new.self)) ≡ weight f (held (heap_items c.args.heads.now)) + weight f (head_of z)) c.pop_front.ensures.rest
    (heads_next store.items (heap_items c.args.heads.now) (heap_items c.push.new.self) x (omega (arith, some, store.ok.0)) c.in-Some.ensures.lookup moved f)
