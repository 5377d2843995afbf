use Rattle.embed_plan.proofs.Prelude.{◌++◌, ◌≡◌, take, map, concat, line_for, addresses}
use Rattle.embed_plan.proofs.planning.put_maps.Given as goal

abbrev pub invariant-loop-node : goal.invariant-loop-node
invariant-loop-node l = record { text : l.into.items ≡ l.fn.into.items ++ concat (map (line_for l.policy.policy l.map) (take l.node (addresses l.policy.policy.tree))) }
