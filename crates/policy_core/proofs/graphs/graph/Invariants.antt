use Rattle.policy_core.proofs.Prelude.{◌≡◌, take, entries_of, lists}
use Rattle.policy_core.proofs.Kinship.{by_numbers}
use Rattle.policy_core.proofs.graphs.graph.Given as goal

abbrev pub invariant-loop-statement : goal.invariant-loop-statement
invariant-loop-statement l = lists l.graph.items ≡ by_numbers l.nodes (entries_of (take l.statement-index l.lines))
