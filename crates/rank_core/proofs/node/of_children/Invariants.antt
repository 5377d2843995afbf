use Rattle.rank_core.proofs.Prelude.{◌≡◌, length, ◌≤◌, AllByRecursion}
use Rattle.rank_core.proofs.node.of_children.Given as goal

abbrev pub invariant-loop : goal.invariant-loop
invariant-loop l =
    AllByRecursion (λ v. v.items ≡ l.first) l.values.items × (length l.values.items ≡ l.counter) × (l.counter ≤ l.count)
