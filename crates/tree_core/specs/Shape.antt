-- The topology that a `Topo` represents.
use Rattle.tree_defs.specs.Tree.{leaf, inner, trees_of}
use Rattle.tree_defs.specs.Topology.{Topology}
use Rattle.tree_core.specs.declared.topo.Topo.{Topo}
use Rattle.tree_core.specs.declared.topo.Topo.TheOpen.{Topo-F, Leaf, Inner}
use Rattle.tree_core.specs.declared.topo.Topo.TheFolds.{fold-Topo}

-- one node, with the topology of each child in its position
abbrev pub topology_step : Topo-F Topology → Topology
topology_step Leaf = leaf tt
topology_step (Inner children) = inner tt (trees_of children.items)

abbrev pub topology : Topo → Topology
topology = fold-Topo Topology topology_step
