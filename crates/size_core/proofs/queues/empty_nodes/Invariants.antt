use Rattle.size_core.proofs.Prelude.{◌≡◌, length, AreUnused}
use Rattle.size_core.proofs.queues.empty_nodes.Given as goal

abbrev pub invariant-loop-index : goal.invariant-loop-index
invariant-loop-index l = record {
  count : length l.nodes.items ≡ l.index;
  unused : AreUnused l.target.arities l.stores l.known.keys l.nodes.items;
}
