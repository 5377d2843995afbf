-- The results built from statements: the records of nodes and leaves, and the classes.
use Rattle.std.specs.Prelude.{◌≡◌, ◌<◌, ℕ, List, [], ◌∷◌, ◌++◌, map, length, slice_index_or, unwrap_or}
use Rattle.std.specs.List.{cons_option}
use Rattle.rank_defs.specs.Builtins.{fifo}
use Rattle.rank_defs.specs.Programs.{Program}
use Rattle.policy_text_defs.specs.declared.test.Test.{Test}
use Rattle.policy_defs.specs.Policy.{Node, Marks as Told}
use Rattle.policy_text_defs.specs.declared.attribute.Attrs.{Attrs}
use Rattle.policy_text_defs.specs.declared.queueing.Queueing.{Queueing}
use Rattle.policy_text_defs.specs.Sense.{Sense, Entry}
use Rattle.policy_rules.specs.Names.{Name}
use Rattle.policy_rules.specs.Programs.{program_named}
use Rattle.policy_rules.specs.Graph.{node_in, said}
use Rattle.policy_rules.specs.Resolved.{Declared}
use Rattle.policy_rules.specs.Known.{known_programs}
use Rattle.policy_core.specs.declared.parts.PolicyNode.{PolicyNode}
use Rattle.policy_core.specs.declared.parts.Class.{Class}
use Rattle.policy_core.specs.Parts.{told, node_of, no_program, HavePrograms}

-- the nodes of these records
abbrev pub nodes_told : List Program → List PolicyNode → List Node
nodes_told programs policy_nodes = map (node_of programs) policy_nodes

-- the index of the program that a name denotes
pub record IsPlaceOf (es : List Entry) (used : Name) (place : ℕ) : Type 0 where
  pub within : place < length (known_programs es)
  pub program_is : slice_index_or (known_programs es) place no_program ≡ unwrap_or (program_named es used) fifo

-- the record has a program and the properties declared for the node
pub record IsPolicyNodeOf (es : List Entry) (name used : Name) (a : Attrs) (q : Queueing) (s : PolicyNode) : Type 0 where
  pub within : s.program < length (known_programs es)
  pub node_is : node_of (known_programs es) s ≡ said es name used a q

-- the records have one more at the end, if the statement declares a node or leaf
pub record AreMore (es : List Entry) (s : Sense) (old new : List PolicyNode) : Type 0 where
  pub nodes : nodes_told (known_programs es) new ≡ nodes_told (known_programs es) old ++ cons_option (node_in es s) []
  pub programs : HavePrograms new (known_programs es)

-- the properties of a class, with the number of its leaf
pub record Made : Type 0 where
  pub marks : Told
  pub conditions : List (List Test)
  pub leaf : ℕ

abbrev pub made : Class → Made
made c = record { marks = told c.marks; conditions = c.conditions; leaf = c.leaf }

-- declared classes, each with a leaf
abbrev pub made_of : List Declared → List ℕ → List Made
made_of [] leaves = []
made_of (d ∷ ds) [] = []
made_of (d ∷ ds) (n ∷ leaves) = record { marks = d.marks; conditions = d.conditions; leaf = n } ∷ made_of ds leaves
