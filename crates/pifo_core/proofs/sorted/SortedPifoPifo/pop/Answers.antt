use Rattle.pifo_core.proofs.Prelude.{arith, ◌≡◌, ap, ◌∙◌, length, ◌<◌, [], sym, Some, remove, nat_tests, queue_of}
use Rattle.pifo_core.proofs.HeldLaws.{taking, queue_of-none, queue_of-removed}
use Rattle.pifo_core.proofs.sorted.SortedPifoPifo.pop.Goals as goal

pub returns-then-is_empty-clause-taken : goal.returns-then-is_empty-clause-taken
returns-then-is_empty-clause-taken c =
    let none : length c.self.inside.held.items ≡ 0 = grind (arith, nat_tests, c.is_empty.ensures) in
    let empty : c.args.self.now.entries ≡ [] = rw (← c.self.view_is) (queue_of-none c.self.inside.held.items none) in
    (empty, empty)

pub returns-clause-taken : goal.returns-clause-taken
returns-clause-taken c =
    let some : 0 < length c.self.inside.held.items = grind (arith, nat_tests, c.is_empty.ensures) in
    rw (← c.self.view_is, c.remove-first.ensures.items)
    (queue_of-removed c.self.inside.held.items c.remove-first.result some c.self.invariant.in_order
    ∙ ap (λ e. Some (taking e (queue_of (remove c.self.inside.held.items 0)))) (sym c.remove-first.ensures.value))
