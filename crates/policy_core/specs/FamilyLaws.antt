-- Consequences for the graph of statements that pass the clauses.
use Rattle.std.specs.Prelude.{ℕ, List}
use Rattle.policy_text_defs.specs.Sense.{Entry}
use Rattle.policy_rules.specs.Names.{node_name, declared}
use Rattle.policy_rules.specs.Clauses.{root}
use Rattle.policy_rules.specs.Entries.{AreRising}
use Rattle.policy_rules.specs.Programs.{place}
use Rattle.policy_rules.specs.Graph.{graph_of}
use Rattle.policy_rules.specs.Accepted.{AreAcyclic, AreShallow}
use Rattle.tree_graph.specs.Descent.{IsForest, IsDeep}

-- the graph below the root is a forest
abbrev pub FamiliesAreForests : Type 0
FamiliesAreForests = (entries : List Entry) → AreRising entries → AreAcyclic entries → IsForest (graph_of entries) (place (declared node_name entries) root)

-- no node is too deep below the root
abbrev pub FamiliesAreShallow : Type 0
FamiliesAreShallow = (entries : List Entry) → AreRising entries → AreShallow entries → (a : ℕ) → ¬ IsDeep (graph_of entries) (place (declared node_name entries) root) a
