use Rattle.std.proofs.Common.{◌≡◌, ◌++◌, drop}
use Rattle.size_core.specs.Text.{nodes_text}
use Rattle.size_core.proofs.text.put_nodes.Given as goal

abbrev pub invariant-loop-node : goal.invariant-loop-node
invariant-loop-node l = record { same : l.fn.into.items ++ nodes_text l.nodes ≡ l.into.items ++ nodes_text (drop l.node-index l.nodes) }
