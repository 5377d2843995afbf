-- The names and weights of a policy's leaves and classes.
use Rattle.std.specs.Prelude.{◌≡◌, ◌<◌, ℕ, zero, suc, Bool, true, false, if◌then◌else◌, Option, None, Some, unwrap_or, List, [], ◌∷◌, ◌++◌, length, map, slice_index_or}
use Rattle.tree_defs.specs.Tree.{Tree, leaf, inner, Trees, none, more, Address, nodes}
use Rattle.policy_text_defs.specs.declared.statement.Statement.{Statement}
use Rattle.policy_text_defs.specs.declared.statement.Statement.TheVariants as statement
use Rattle.policy_text_defs.specs.Sense.{Entry}
use Rattle.policy_text.specs.Entries.{Numbered}
use Rattle.policy_rules.specs.Resolved.{classes_in}
use Rattle.policy_defs.specs.Policy.{Policy, Node, node_at}
use Rattle.policy_defs.specs.Numbers.{number_at}
use Rattle.policy_core.specs.Numbering.{address_at}
use Rattle.summary_core.specs.declared.group.Label.{Label}

-- whether there is a leaf at an address
abbrev mutual
  pub is_leaf_at : Tree Node → Address → Bool
  is_leaf_at (leaf n) [] = true
  is_leaf_at (leaf n) (i ∷ a) = false
  is_leaf_at (inner n ts) [] = false
  is_leaf_at (inner n ts) (i ∷ a) = is_leaf_below ts i a

  pub is_leaf_below : Trees Node → ℕ → Address → Bool
  is_leaf_below none i a = false
  is_leaf_below (more t ts) zero a = is_leaf_at t a
  is_leaf_below (more t ts) (suc i) a = is_leaf_below ts i a

abbrev pub label_of : Option Node → List Label
label_of None = []
label_of (Some n) = record { name = n.name; weight = n.marks.weight } ∷ []

-- the label of the node with this number, if it is a leaf
abbrev pub leaf_label : Tree Node → ℕ → List Label
leaf_label tree n = if is_leaf_at tree (address_at tree n) then label_of (node_at tree (address_at tree n)) else []

-- the labels of the leaves with lower numbers
abbrev pub leaf_labels : Tree Node → ℕ → List Label
leaf_labels tree zero = []
leaf_labels tree (suc n) = leaf_labels tree n ++ leaf_label tree n

-- the labels of all leaves, in the order of the tree
abbrev pub all_leaf_labels : Tree Node → List Label
all_leaf_labels tree = leaf_labels tree (nodes tree)

-- the number of leaves before the node with this number
abbrev pub leaf_index : Tree Node → ℕ → ℕ
leaf_index tree n = length (leaf_labels tree n)

pub record HasIndices (tree : Tree Node) (before : List ℕ) : Type 0 where
  pub many : length before ≡ nodes tree
  pub are : (n : ℕ) → n < nodes tree → slice_index_or before n 0 ≡ leaf_index tree n

-- for each class, the index of its leaf
abbrev pub leaf_table : Policy → List ℕ
leaf_table policy = map (λ c. leaf_index policy.tree (number_at policy.tree c.leaf)) policy.classes

-- ---- classes
-- the labels of the classes that statements declare, in order
abbrev pub class_labels : List Entry → List Label
class_labels es = map (λ d. record { name = d.name; weight = d.marks.weight }) (classes_in es)

-- the same from parsed statements
abbrev pub class_label : Statement → List Label
class_label (statement.Class name attrs conditions) = record { name = name; weight = unwrap_or attrs.weight 1 } ∷ []
class_label (statement.Filter name attrs tests) = record { name = name; weight = unwrap_or attrs.weight 1 } ∷ []
class_label s = []

abbrev pub held_labels : List Numbered → List Label
held_labels [] = []
held_labels (l ∷ ls) = class_label l.1 ++ held_labels ls
