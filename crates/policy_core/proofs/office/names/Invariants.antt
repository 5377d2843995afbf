use Rattle.std.proofs.Common.{◌≡◌, take, map}
use Rattle.policy_core.proofs.office.names.Given as goal

abbrev pub invariant-loop-name : goal.invariant-loop-name
invariant-loop-name l = l.all ≡ map (λ n. n.now) (take l.name-index l.names)
