-- Nodes by number, in the order of their declarations.
use Rattle.std.specs.Prelude.{ℕ, Option, Some, None, List, [], map, filter_map, unwrap_or}
use Rattle.rank_defs.specs.Builtins.{fifo}
use Rattle.policy_text_defs.specs.declared.attribute.Attrs.{Attrs}
use Rattle.policy_text_defs.specs.declared.queueing.Queueing.{Queueing}
use Rattle.policy_text_defs.specs.Sense.{Sense, Entry, leaf, node}
use Rattle.policy_defs.specs.Policy.{Node}
use Rattle.policy_rules.specs.Names.{Name, declared, node_name}
use Rattle.policy_rules.specs.Programs.{place, program_named}
use Rattle.policy_rules.specs.Resolved.{marks_of, limits_of, group_of}

-- the children of a node, and none of a leaf
abbrev pub family : Sense → Option (List Name)
family (leaf n u a q ns) = Some []
family (node n u a q ns) = Some ns
family s = None

-- for each node and leaf the numbers of its children
abbrev pub graph_of : List Entry → List (List ℕ)
graph_of entries = map (λ names. map (place (declared node_name entries)) names) (filter_map (λ e. family e.1) entries)

-- the properties of a node or leaf; that its transaction is declared is already checked
abbrev pub said : List Entry → Name → Name → Attrs → Queueing → Node
said entries n u a q = record { name = n; using = u; program = unwrap_or (program_named entries u) fifo; marks = marks_of a; limits = limits_of q; group = group_of q }

abbrev pub node_in : List Entry → Sense → Option Node
node_in entries (leaf n u a q ns) = Some (said entries n u a q)
node_in entries (node n u a q ns) = Some (said entries n u a q)
node_in entries s = None

-- the properties of each node and leaf
abbrev pub nodes_in : List Entry → List Node
nodes_in entries = filter_map (λ e. node_in entries e.1) entries
