-- The policy given by a tree of numbered nodes, their records, transactions and classes.
use Rattle.std.specs.Prelude.{◌≡◌, ◌<◌, ◌≤◌, ℕ, List, [], ◌∷◌, ◌++◌, map, length, slice_index_or}
use Rattle.std.specs.List.{AllByRecursion}
use Rattle.tree_defs.specs.Tree.{Tree, most_nodes}
use Rattle.rank_defs.specs.declared.flow_group.FlowGroup.TheVariants.{FiveTuple}
use Rattle.rank_defs.specs.Programs.{Program}
use Rattle.policy_text_defs.specs.declared.test.Test.{Test}
use Rattle.policy_defs.specs.Policy.{Node, Class as Aimed, Marks as Told, no_limits}
use Rattle.policy_defs.specs.Accepted.{IsAccepted}
use Rattle.policy_defs.specs.BuiltIn.{AreBuiltIn}
use Rattle.policy_rules.specs.Clauses.{most_classes}
use Rattle.policy_rules.specs.Resolved.{Resolved}
use Rattle.tree_graph.specs.Row.{row_at}
use Rattle.tree_graph.specs.Preorder.{Numbered, IsNumberedBy}
use Rattle.policy_core.specs.declared.parts.Marks.{Marks}
use Rattle.policy_core.specs.declared.parts.PolicyNode.{PolicyNode}
use Rattle.policy_core.specs.declared.parts.Class.{Class}
use Rattle.policy_core.specs.Numbering.{nodes_from, address_at}

abbrev pub told : Marks → Told
told m = record { prio = m.prio; weight = m.weight; slack = m.slack }

-- the default for an index past the end of a list
abbrev pub no_policy_node : PolicyNode
no_policy_node = record { name = []; using = []; program = 0; marks = record { prio = 0; weight = 1; slack = 0 }; limits = no_limits; group = FiveTuple }

abbrev pub no_program : Program
no_program = record { keeps = []; eaches = []; push = []; pop = [] }

abbrev pub policy_node_at : List PolicyNode → ℕ → PolicyNode
policy_node_at policy_nodes i = slice_index_or policy_nodes i no_policy_node

-- the node of a record, with its transaction
abbrev pub node_of : List Program → PolicyNode → Node
node_of programs s = record { name = s.name; using = s.using; program = slice_index_or programs s.program no_program; marks = told s.marks; limits = s.limits; group = s.group }

-- the tree that has at each node the record of its row
abbrev pub tree_of : Numbered → List PolicyNode → List Program → Tree Node
tree_of tree policy_nodes programs = nodes_from (λ n. node_of programs (policy_node_at policy_nodes (row_at tree.rows n).node)) 0 tree.topology

-- a class, with the address of its leaf
abbrev pub class_in : Tree Node → Class → Aimed
class_in tree c = record { marks = told c.marks; leaf = address_at tree c.leaf }

abbrev pub resolved : ℕ → Numbered → List PolicyNode → List Program → List Class → Resolved
resolved version tree policy_nodes programs classes = record {
  policy = record { version = version; tree = tree_of tree policy_nodes programs; classes = map (class_in (tree_of tree policy_nodes programs)) classes };
  conditions = map (λ c. c.conditions) classes;
}

-- the rows and the topology are those of one tree
abbrev pub AreNumbered : Numbered → Type 0
AreNumbered tree = (t : Tree ℕ) × IsNumberedBy t tree.rows tree.topology

-- each node of the tree is the index of a record
abbrev pub HavePolicyNodes : Numbered → List PolicyNode → Type 0
HavePolicyNodes tree policy_nodes = AllByRecursion (λ r. r.node < length policy_nodes) tree.rows

-- each record has the index of a transaction
abbrev pub HavePrograms : List PolicyNode → List Program → Type 0
HavePrograms policy_nodes programs = AllByRecursion (λ s. s.program < length programs) policy_nodes

-- the leaf of each class is the number of a node
abbrev pub HaveLeaves : Numbered → List Class → Type 0
HaveLeaves tree classes = AllByRecursion (λ c. c.leaf < length tree.rows) classes

-- the last class has no condition
abbrev pub HasCatchAll : List (List (List Test)) → Type 0
HasCatchAll conditions = (others : List (List (List Test))) × (conditions ≡ others ++ [] ∷ [])

pub record IsWhole (version : ℕ) (tree : Numbered) (ss : List PolicyNode) (ps : List Program) (cs : List Class) : Type 0 where
  pub numbered : AreNumbered tree
  pub few_nodes : length tree.rows ≤ most_nodes
  pub policy_nodes : HavePolicyNodes tree ss
  pub programs : HavePrograms ss ps
  pub leaves : HaveLeaves tree cs
  pub few : length cs ≤ most_classes
  pub catch_all : HasCatchAll (map (λ c. c.conditions) cs)
  pub accepted : IsAccepted (resolved version tree ss ps cs).policy
  pub built_in : AreBuiltIn (resolved version tree ss ps cs).policy
