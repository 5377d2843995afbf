use Rattle.std.proofs.Common.{◌≡◌, ◌++◌, drop}
use Rattle.size_core.specs.Json.{more_json}
use Rattle.size_core.proofs.json.put_more.Given as goal

abbrev pub invariant-loop-node : goal.invariant-loop-node
invariant-loop-node l = record { same : l.fn.into.items ++ more_json l.nodes ≡ l.into.items ++ more_json (drop l.node-index l.nodes) }
