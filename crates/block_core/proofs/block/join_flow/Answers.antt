use Rattle.block_core.proofs.Prelude.{arith, ◌≡◌, ◌∷◌, heap_items, rules, deque_len, IsOk, nat_tests, IsPermutation, Reverse, Waiting}
use Rattle.block_core.proofs.BlockLaws.{heads_led}
use Rattle.block_core.proofs.block.join_flow.Goals as goal

pub returns-then-leads-clause-heads : goal.returns-then-leads-clause-heads
returns-then-leads-clause-heads c =
    let x : Reverse Waiting = record { 0 = c.args.entry } in
    let fits : IsOk c.push.result = c.push.ensures.succeeds c.requires.heads_room in
    let moved : IsPermutation (x ∷ heap_items c.args.heads.now) (heap_items c.push.new.self) = search (rules, fits, c.push.ensures.permutation) in
    let none : deque_len c.args.store.now ≡ 0 = grind (arith, nat_tests, c.is_empty-leads.ensures, c.if-leads.true) in
    heads_led c.args.store.now.items (heap_items c.args.heads.now) (heap_items c.push.new.self) x (omega (arith, none, c.args.store.now.ok.0)) moved
