-- The statements that declare nodes and leaves.
use Rattle.std.specs.Prelude.{ℕ, is_some, List, filter, map, slice_index}
use Rattle.policy_text_defs.specs.Sense.{Entry}
use Rattle.policy_rules.specs.Names.{node_name}

-- those that declare a node or a leaf, in order
abbrev pub node_entries : List Entry → List Entry
node_entries entries = filter (λ e. is_some (node_name e.1)) entries

-- the line that declares the node with a number
abbrev pub line_at : List Entry → ℕ → ℕ
line_at entries node = slice_index (map (λ e. e.0) (node_entries entries)) node
