-- An example of statements with four nodes, and their tree.
use Rattle.std.specs.Prelude.{◌≡◌, refl, ℕ, Option, Some, None, List, [], ◌∷◌, codes}
use Rattle.tree_defs.specs.Tree.{leaf as leaf_of, inner, none, more}
use Rattle.rank_defs.specs.declared.flow_group.FlowGroup.TheVariants.{FiveTuple}
use Rattle.rank_defs.specs.Builtins.{fifo}
use Rattle.policy_text_defs.specs.declared.attribute.Attrs.{Attrs}
use Rattle.policy_text_defs.specs.Settings.{no_queueing, only_packets}
use Rattle.policy_text_defs.specs.Sense.{Entry, numbered, version, class, leaf, node}
use Rattle.policy_defs.specs.Policy.{Node, no_marks, at_most}
use Rattle.policy_rules.specs.Graph.{graph_of}
use Rattle.policy_rules.specs.Resolved.{classes_in}
use Rattle.tree_graph.specs.Descent.{two_below_a_root}
use Rattle.tree_graph.specs.Preorder.{rows, three_levels}
use Rattle.policy_core.specs.Labels.{nodes_at}
use Rattle.policy_core.specs.Homes.{classes_at}

abbrev pub nothing_set : Attrs
nothing_set = record { prio = None; weight = None; slack = None }

-- below the root are an inner node with one leaf, and a leaf with a limit of ten packets; each leaf
-- has a class
abbrev pub four_nodes : List Entry
four_nodes = numbered 1 (
    version 2 ∷
    class (codes "web") nothing_set [] ∷
    class (codes "rest") nothing_set [] ∷
    node (codes "upper") (codes "fifo") nothing_set no_queueing (codes "deep" ∷ []) ∷
    leaf (codes "side") (codes "fifo") nothing_set (only_packets (Some 10)) (codes "rest" ∷ []) ∷
    node (codes "root") (codes "fifo") nothing_set no_queueing (codes "upper" ∷ codes "side" ∷ []) ∷
    leaf (codes "deep") (codes "fifo") nothing_set no_queueing (codes "web" ∷ []) ∷ [])

abbrev pub served_in_turn : List ℕ → Option ℕ → Node
served_in_turn n limit = record { name = n; using = codes "fifo"; program = fifo; marks = no_marks; limits = at_most limit; group = FiveTuple }

pub graph_of-four_nodes : graph_of four_nodes ≡ two_below_a_root
graph_of-four_nodes = refl

pub nodes_at-four_nodes : nodes_at four_nodes three_levels ≡
    inner (served_in_turn (codes "root") None)
    (more (inner (served_in_turn (codes "upper") None) (more (leaf_of (served_in_turn (codes "deep") None)) none))
    (more (leaf_of (served_in_turn (codes "side") (Some 10))) none))
nodes_at-four_nodes = refl

pub classes_at-four_nodes : classes_at (rows 0 [] three_levels) (classes_in four_nodes) (2 ∷ 3 ∷ []) ≡ record { marks = no_marks; leaf = 0 ∷ 0 ∷ [] } ∷ record { marks = no_marks; leaf = 1 ∷ [] } ∷ []
classes_at-four_nodes = refl
