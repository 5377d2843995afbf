use Rattle.policy_core.proofs.Prelude.{◌≡◌, map, take, place}
use Rattle.policy_core.proofs.graphs.numbers.Given as goal

abbrev pub invariant-loop-name : goal.invariant-loop-name
invariant-loop-name l = l.numbers.items ≡ map (place l.nodes) (take l.name-index l.names)
