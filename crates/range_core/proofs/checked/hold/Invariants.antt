use Rattle.range_core.proofs.Prelude.{map, ◌≡◌, ◌++◌, AllByRecursion, AreChecked, program_of, IsShaped}
use Rattle.range_core.proofs.checked.hold.Given as goal

abbrev pub invariant-loop-transaction : goal.invariant-loop-transaction
invariant-loop-transaction l = record {
  all : l.checked ++ map program_of l.transaction-iterator.rest.items ≡ map program_of l.fn.transactions;
  shaped : AllByRecursion IsShaped (map program_of l.transaction-iterator.rest.items);
  passed : AreChecked (map program_of l.transaction-iterator.rest.items);
}
