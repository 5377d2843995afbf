use Rattle.mapcheck_core.proofs.Prelude.{◌≡◌, ◌≤◌, drop, glyphs_of, walk, no_node}
use Rattle.mapcheck_core.proofs.nest.measured.Given as goal

abbrev pub invariant-loop-item : goal.invariant-loop-item
invariant-loop-item l = record { along : walk l.nest (glyphs_of (drop l.item-index l.items)) ≡ walk no_node (glyphs_of l.items); open_nodes : l.nest.unclosed ≤ l.item-index; met : l.nest.nodes ≤ l.item-index }
