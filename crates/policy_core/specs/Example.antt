-- Examples of policies, with the results for their families.
use Rattle.std.specs.Prelude.{◌≡◌, refl, List, [], ◌∷◌, codes}
use Rattle.policy_text_defs.specs.Settings.{no_queueing}
use Rattle.policy_text_defs.specs.Sense.{Entry, numbered, version, leaf, node}
use Rattle.policy_rules.specs.Rows.{nothing_set}
use Rattle.policy_rules.specs.Graph.{graph_of}
use Rattle.policy_core.specs.Lines.{line_at}

abbrev pub root_above_a_leaf : List Entry
root_above_a_leaf = numbered 1 (version 1 ∷ node (codes "root") (codes "fifo") nothing_set no_queueing (codes "a" ∷ []) ∷ leaf (codes "a") (codes "fifo") nothing_set no_queueing [] ∷ [])

-- a and b are each other's only parents
abbrev pub cycle_beside_the_root : List Entry
cycle_beside_the_root = numbered 1 (
    version 1 ∷ leaf (codes "root") (codes "fifo") nothing_set no_queueing [] ∷
    node (codes "a") (codes "fifo") nothing_set no_queueing (codes "b" ∷ []) ∷ node (codes "b") (codes "fifo") nothing_set no_queueing (codes "a" ∷ []) ∷ [])

pub graph_of-root_above_a_leaf : graph_of root_above_a_leaf ≡ (1 ∷ []) ∷ [] ∷ []
graph_of-root_above_a_leaf = refl

pub graph_of-cycle_beside_the_root : graph_of cycle_beside_the_root ≡ [] ∷ (2 ∷ []) ∷ (1 ∷ []) ∷ []
graph_of-cycle_beside_the_root = refl

pub line_at-cycle_beside_the_root : line_at cycle_beside_the_root 1 ≡ 3
line_at-cycle_beside_the_root = refl
