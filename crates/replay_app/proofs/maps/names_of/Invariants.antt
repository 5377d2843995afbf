use Rattle.replay_app.proofs.Prelude.{◌≡◌, map, take, addresses, name_at}
use Rattle.replay_app.proofs.maps.names_of.Given as goal

abbrev pub invariant-loop-node : goal.invariant-loop-node
invariant-loop-node l = l.names ≡ map (name_at l.policy.policy) (take l.node (addresses l.policy.policy.tree))
