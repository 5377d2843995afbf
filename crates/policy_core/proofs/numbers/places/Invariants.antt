use Rattle.policy_core.proofs.InverseNumbers.{ArePlacesTo}
use Rattle.policy_core.proofs.numbers.places.Given as goal

abbrev pub invariant-loop-number : goal.invariant-loop-number
invariant-loop-number l = ArePlacesTo l.tree.rows l.number l.places.items
