-- Topologies that tests embed into targets.
use Rattle.tree_defs.specs.Tree.{leaf, inner, none, more}
use Rattle.tree_defs.specs.Topology.{Topology}

abbrev pub pair : Topology
pair = inner tt (more (leaf tt) (more (leaf tt) none))

abbrev pub leaf_beside_a_pair : Topology
leaf_beside_a_pair = inner tt (more (leaf tt) (more pair none))
