use Rattle.block_core.proofs.Prelude.{arith, ◌≡◌, sym, length, subst, ◌<◌, heap_items, rules, false, true, IsUpperBound, AllByRecursion, Precedes, held, heap_order}
use Rattle.block_core.proofs.BlockLaws.{top_is, heap_behind}
use Rattle.block_core.proofs.block.spill_is_first.Goals as goal

pub returns-in-Some-Some-clause-spill : goal.returns-in-Some-Some-clause-spill
returns-in-Some-Some-clause-spill c e d =
    let some : 0 < length (heap_items c.args.spilled.now) = search rules in
    let upper : IsUpperBound heap_order c.in-Some-Some.head.now (heap_items c.args.heads.now) = search (rules, c.in-Some-Some.ensures'.greatest, c.requires.heads) in
    let other : c.precedes.result ≡ false = grind (arith, e) in
    subst (λ z. AllByRecursion (Precedes z.0) (held (heap_items c.args.heads.now))) (sym (top_is (heap_items c.args.spilled.now) c.in-Some-Some.spill.now d some c.in-Some-Some.ensures.lookup))
    (heap_behind c.in-Some-Some.spill.now.0 c.in-Some-Some.head.now (heap_items c.args.heads.now) (c.precedes.ensures.no other) upper)

pub returns-in-Some-Some-clause-head : goal.returns-in-Some-Some-clause-head
returns-in-Some-Some-clause-head c e d =
    let some : 0 < length (heap_items c.args.heads.now) = search rules in
    let upper : IsUpperBound heap_order c.in-Some-Some.spill.now (heap_items c.args.spilled.now) = search (rules, c.in-Some-Some.ensures.greatest, c.requires.spilled) in
    let other : c.precedes.result ≡ true = grind (arith, e) in
    subst (λ z. AllByRecursion (Precedes z.0) (held (heap_items c.args.spilled.now))) (sym (top_is (heap_items c.args.heads.now) c.in-Some-Some.head.now d some c.in-Some-Some.ensures'.lookup))
    (heap_behind c.in-Some-Some.head.now.0 c.in-Some-Some.spill.now (heap_items c.args.spilled.now) (c.precedes.ensures.yes other) upper)
