-- NodeStates and nodes of worked policies.
use Rattle.std.specs.Prelude.{◌≡◌, refl, ℕ, Some, List, [], ◌∷◌, codes}
use Rattle.tree_defs.specs.Tree.{leaf}
use Rattle.rank_defs.specs.declared.flow_group.FlowGroup.TheVariants.{FiveTuple, Source}
use Rattle.rank_defs.specs.Programs.{Program}
use Rattle.rank_defs.specs.Builtins.{fifo, shortest}
use Rattle.policy_defs.specs.Policy.{Node, no_limits, at_most, one_leaf}
use Rattle.tree_graph.specs.Preorder.{Numbered, numbered, rows}
use Rattle.policy_core.specs.declared.parts.Marks.{Marks}
use Rattle.policy_core.specs.declared.parts.PolicyNode.{PolicyNode}
use Rattle.policy_core.specs.Parts.{told, node_of, resolved}

abbrev pub plain : Marks
plain = record { prio = 0; weight = 1; slack = 0 }

abbrev pub urgent : Marks
urgent = record { prio = 7; weight = 2; slack = 500 }

-- the record of a node without a limit: its name, the name of its transaction and the transaction's index
abbrev pub policy_node : List ℕ → List ℕ → ℕ → Marks → PolicyNode
policy_node name used program marks = record { name = name; using = used; program = program; marks = marks; limits = no_limits; group = FiveTuple }

-- a node without a limit: its name, the name of its transaction and the transaction's program
abbrev pub node : List ℕ → List ℕ → Program → Marks → Node
node name used program m = record { name = name; using = used; program = program; marks = told m; limits = no_limits; group = FiveTuple }

pub node_of-the_second_transaction : node_of (fifo ∷ shortest ∷ []) (policy_node (codes "left") (codes "shortest") 1 urgent) ≡ node (codes "left") (codes "shortest") shortest urgent
node_of-the_second_transaction = refl

pub node_of-a_limit : (node_of (fifo ∷ []) (record { name = codes "deep"; using = codes "fifo"; program = 0; marks = plain; limits = at_most (Some 10); group = Source })).limits ≡ at_most (Some 10)
node_of-a_limit = refl

pub node_of-a_group : (node_of (fifo ∷ []) (record { name = codes "deep"; using = codes "fifo"; program = 0; marks = plain; limits = no_limits; group = Source })).group ≡ Source
node_of-a_group = refl

abbrev lone_tree : Numbered
lone_tree = numbered (rows 0 [] (leaf 0)) (leaf tt)

pub resolved-one_leaf : resolved 1 lone_tree (policy_node (codes "root") (codes "fifo") 0 plain ∷ []) (fifo ∷ []) (record { marks = plain; conditions = []; leaf = 0 } ∷ []) ≡ record { policy = one_leaf; conditions = [] ∷ [] }
resolved-one_leaf = refl
