-- Trees of nodes, from trees of their numbers.
use Rattle.std.specs.Prelude.{ℕ, List, [], slice_index_or}
use Rattle.tree_defs.specs.Tree.{Tree, leaf, inner, Trees, none, more}
use Rattle.rank_defs.specs.declared.flow_group.FlowGroup.TheVariants.{FiveTuple}
use Rattle.rank_defs.specs.Builtins.{fifo}
use Rattle.policy_text_defs.specs.Sense.{Entry}
use Rattle.policy_defs.specs.Policy.{Node, no_marks, no_limits}
use Rattle.policy_rules.specs.Graph.{nodes_in}

-- a tree with a function applied at each node
abbrev mutual
  pub map_tree : {Q R : Type 0} → (Q → R) → Tree Q → Tree R
  map_tree f (leaf q) = leaf (f q)
  map_tree f (inner q ts) = inner (f q) (map_trees f ts)

  pub map_trees : {Q R : Type 0} → (Q → R) → Trees Q → Trees R
  map_trees f none = none
  map_trees f (more t ts) = more (map_tree f t) (map_trees f ts)

-- the node with a number, if nodes are numbered in the order of their statements
abbrev pub node_numbered : List Entry → ℕ → Node
node_numbered entries i = slice_index_or (nodes_in entries) i (record { name = []; using = []; program = fifo; marks = no_marks; limits = no_limits; group = FiveTuple })

-- the tree with nodes in place of their numbers
abbrev pub nodes_at : List Entry → Tree ℕ → Tree Node
nodes_at entries t = map_tree (node_numbered entries) t
