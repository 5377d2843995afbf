use Rattle.size_core.proofs.Prelude.{◌≡◌, length, ◌≤◌, map, Uses, lines_of, line_of, HaveUses}
use Rattle.size_core.proofs.SizeLaws.{IsSameFrom}
use Rattle.size_core.proofs.results.sizes_of.Given as goal

abbrev pub invariant-loop-node : goal.invariant-loop-node
invariant-loop-node l = record {
  few : l.node ≤ length l.initial.nodes;
  rest : IsSameFrom l.node l.nodes l.initial.nodes;
  lines : (uses : Uses) → HaveUses l.initial.nodes uses → map line_of l.sizes.items ≡ lines_of l.known.keys l.names uses l.node;
}
