-- Consequences for accepted statements.
use Rattle.std.specs.Prelude.{◌≡◌, ◌≤◌, ◌<◌, ◌^◌, ℕ, List, [], All}
use Rattle.std.specs.List.{AllByRecursion}
use Rattle.tree_defs.specs.Tree.{Tree, root_of, depth, nodes, most_levels}
use Rattle.rank_defs.specs.Shapes.{IsShaped}
use Rattle.policy_text_defs.specs.Sense.{Entry}
use Rattle.policy_text_defs.specs.Valid.{IsValid}
use Rattle.policy_defs.specs.Accepted.{IsAccepted}
use Rattle.policy_rules.specs.Names.{declared, node_name}
use Rattle.policy_rules.specs.Clauses.{root}
use Rattle.policy_rules.specs.Programs.{place, programs}
use Rattle.policy_rules.specs.Accepted.{AreAccepted}
use Rattle.policy_rules.specs.Graph.{graph_of}
use Rattle.policy_rules.specs.Resolved.{Resolved, IsTreeIn, AreClassesOf, IsResolved, classes_in}
use Rattle.tree_graph.specs.Preorder.{IsTreeOf, rows}
use Rattle.policy_core.specs.Labels.{nodes_at}
use Rattle.policy_core.specs.Homes.{AreHomes, classes_at}

-- each statement can be written as a line
abbrev pub AreValid : List Entry → Type 0
AreValid entries = All (λ e. IsValid e.1) entries

-- the tree of numbers below the root is the tree of the declared nodes
pub record IsNodeTree (entries : List Entry) (t : Tree ℕ) : Type 0 where
  pub root_is : (root_of (nodes_at entries t)).name ≡ root
  pub tree : IsTreeIn entries (nodes_at entries t)

abbrev pub GraphsGiveTheTree : Type 0
GraphsGiveTheTree =
    (entries : List Entry) (t : Tree ℕ) → AreAccepted entries → AreValid entries → IsTreeOf (graph_of entries) t → root_of t ≡ place (declared node_name entries) root → IsNodeTree entries t

-- each declared class, at a row whose leaf lists it, is a class of the policy
abbrev pub HomesGiveTheClasses : Type 0
HomesGiveTheClasses =
    (entries : List Entry) (t : Tree ℕ) (numbers : List ℕ) → IsTreeOf (graph_of entries) t → AreHomes entries (rows 0 [] t) numbers
    → AreClassesOf entries (nodes_at entries t) (classes_in entries) (classes_at (rows 0 [] t) (classes_in entries) numbers)

-- a policy that accepted statements give can be run, if it isn't too deep or too large
abbrev pub ResolvedPoliciesAreAccepted : Type 0
ResolvedPoliciesAreAccepted =
    (entries : List Entry) (r : Resolved) → AreAccepted entries → AreValid entries → AllByRecursion IsShaped (programs entries) → IsResolved entries r
    → depth r.policy.tree ≤ most_levels → nodes r.policy.tree < 2 ^ 32 → IsAccepted r.policy
