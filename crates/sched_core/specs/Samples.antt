-- The policy of the tests: a root above two nodes, one of which is above another. Three use
-- start-time fair queueing, and the leaf below the root uses strict priority.
use Rattle.std.specs.Prelude.{◌≡◌, refl, List, [], ◌∷◌, codes}
use Rattle.tree_defs.specs.Tree.{leaf, inner, none, more}
use Rattle.tree_defs.specs.Topology.{topology_of}
use Rattle.rank_defs.specs.Programs.{Program}
use Rattle.rank_defs.specs.Builtins.{strict, stfq}
use Rattle.packet_defs.specs.declared.packet.Packet.{Packet}
use Rattle.policy_rules.specs.Resolved.{Resolved}
use Rattle.tree_graph.specs.Preorder.{Numbered, numbered, rows, three_levels}
use Rattle.policy_core.specs.declared.parts.PolicyNode.{PolicyNode}
use Rattle.policy_core.specs.declared.parts.Class.{Class}
use Rattle.policy_core.specs.Parts.{resolved}
use Rattle.policy_core.specs.Samples.{plain, urgent, policy_node, node}

abbrev pub two_programs : List Program
two_programs = stfq ∷ strict ∷ []

abbrev pub tree : Numbered
tree = numbered (rows 0 [] three_levels) (topology_of three_levels)

abbrev pub policy_nodes : List PolicyNode
policy_nodes = policy_node (codes "left") (codes "stfq") 0 urgent ∷ policy_node (codes "right") (codes "strict") 1 plain ∷ policy_node (codes "root") (codes "stfq") 0 plain ∷ policy_node (codes "deep") (codes "stfq") 0 plain ∷ []

abbrev pub classes : List Class
classes = record { marks = urgent; conditions = []; leaf = 3 } ∷ record { marks = plain; conditions = []; leaf = 2 } ∷ []

abbrev pub fair : Resolved
fair = record {
  policy = record {
    version = 1;
    tree = inner (node (codes "root") (codes "stfq") stfq plain) (more (inner (node (codes "left") (codes "stfq") stfq urgent) (more (leaf (node (codes "deep") (codes "stfq") stfq plain)) none)) (more (leaf (node (codes "right") (codes "strict") strict plain)) none));
    classes = record { marks = record { prio = 7; weight = 2; slack = 500 }; leaf = 1 ∷ [] } ∷ record { marks = record { prio = 0; weight = 1; slack = 0 }; leaf = 0 ∷ 0 ∷ [] } ∷ [];
  };
  conditions = [] ∷ [] ∷ [];
}

pub resolved-fair : resolved 1 tree policy_nodes two_programs classes ≡ fair
resolved-fair = refl

-- a packet of the second class
abbrev pub deep : Packet
deep = record { number = 1; class = 1; len = 100; moment = 5; flow = record { version = 4; source = 1; target = 2; proto = 17; sport = 3; dport = 4 } }
