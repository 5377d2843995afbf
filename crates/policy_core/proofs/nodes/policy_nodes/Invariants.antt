use Rattle.policy_core.proofs.Prelude.{◌≡◌, take, filter_map, entries_of, node_in, known_programs, nodes_told, HavePrograms}
use Rattle.policy_core.proofs.nodes.policy_nodes.Given as goal

abbrev pub invariant-loop-statement : goal.invariant-loop-statement
invariant-loop-statement l = record {
  nodes : nodes_told (known_programs (entries_of l.lines)) l.policy_nodes ≡ filter_map (λ e. node_in (entries_of l.lines) e.1) (entries_of (take l.statement-index l.lines));
  programs : HavePrograms l.policy_nodes (known_programs (entries_of l.lines));
}
