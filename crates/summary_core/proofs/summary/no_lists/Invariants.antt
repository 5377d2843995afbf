use Rattle.summary_core.proofs.Prelude.{length, ◌≡◌, ◌≤◌, [], AllByRecursion}
use Rattle.summary_core.proofs.summary.no_lists.Given as goal

abbrev pub invariant-loop : goal.invariant-loop
invariant-loop l = AllByRecursion (λ v. v.items ≡ []) l.lists.items × (length l.lists.items ≡ l.counter) × (l.counter ≤ l.count)
