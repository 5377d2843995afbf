-- The conditions that a policy must meet so that its queues can be run.
use Rattle.std.specs.Prelude.{◌≡◌, ◌≤◌, ◌<◌, ◌^◌, Some, length}
use Rattle.std.specs.List.{AllByRecursion}
use Rattle.text_core.specs.Tokens.{most_name}
use Rattle.tree_defs.specs.Tree.{Tree, leaf, inner, Trees, none, more, Address, LeadsToLeaf, depth, count_of, most_levels}
use Rattle.rank_defs.specs.Shapes.{IsShaped, max_prio, max_weight, max_slack}
use Rattle.rank_defs.specs.Checks.{IsChecked}
use Rattle.policy_defs.specs.Policy.{Policy, Marks, Node, Class, node_at}

pub record AreMarksInRange (m : Marks) : Type 0 where
  pub prio : m.prio ≤ max_prio
  pub weight_low : 1 ≤ m.weight
  pub weight_high : m.weight ≤ max_weight
  pub slack : m.slack ≤ max_slack

-- a node whose transaction is checked, with marks in range and a name within the length limit
pub record IsNodeReady (n : Node) : Type 0 where
  pub shaped : IsShaped n.program
  pub checked : IsChecked n.program
  pub marks : AreMarksInRange n.marks
  pub name : length n.name ≤ most_name

-- a class with marks in range and a leaf for its packets
pub record IsClassReady (tree : Tree Node) (c : Class) : Type 0 where
  pub marks : AreMarksInRange c.marks
  pub leaf_address : LeadsToLeaf tree c.leaf

-- each inner node has few enough children that 32 bits hold their indices
abbrev mutual
  pub HasFewChildren : Tree Node → Type 0
  HasFewChildren (leaf n) = Unit {0}
  HasFewChildren (inner n ts) = (count_of ts < 2 ^ 32) × HaveFewChildren ts

  pub HaveFewChildren : Trees Node → Type 0
  HaveFewChildren none = Unit {0}
  HaveFewChildren (more t ts) = HasFewChildren t × HaveFewChildren ts

-- each transaction is checked, each class has a leaf, there is at least one class, and sizes are
-- within the limits
pub record IsAccepted (policy : Policy) : Type 0 where
  pub nodes : (a : Address) (n : Node) → node_at policy.tree a ≡ Some n → IsNodeReady n
  pub classes : AllByRecursion (IsClassReady policy.tree) policy.classes
  pub some_class : 0 < length policy.classes
  pub levels : depth policy.tree ≤ most_levels
  pub children : HasFewChildren policy.tree
