-- Nodes and the children that they list, by name.
use Rattle.std.specs.Prelude.{ℕ, zero, suc, ◌≡◌, ◌<◌, Some, List, Any, Contains, IsSomeAnd}
use Rattle.tree_defs.specs.Tree.{most_levels}
use Rattle.policy_text_defs.specs.Sense.{Entry}
use Rattle.policy_rules.specs.Names.{Name, node_name, children}
use Rattle.policy_rules.specs.Clauses.{root}

-- the statement that declares a lists b as a child
abbrev pub ListsChild : List Entry → Name → Name → Type 0
ListsChild entries a b = Any (λ e. (node_name e.1 ≡ Some a) × Contains (children e.1) b) entries

-- N steps, each from a node to a child, lead from a to b
abbrev pub NamesLead : List Entry → ℕ → Name → Name → Type 0
NamesLead entries zero a b = a ≡ b
NamesLead entries (suc k) a b = (m : Name) × ListsChild entries a m × NamesLead entries k m b

abbrev pub IsDescendant : List Entry → Name → Name → Type 0
IsDescendant entries a b = (k : ℕ) × NamesLead entries (suc k) a b

-- 10: a node is among its own descendants
abbrev pub IsCyclic : List Entry → Entry → Type 0
IsCyclic entries e = IsSomeAnd (node_name e.1) (λ a. IsDescendant entries a a)

-- 11: a node or leaf is more levels below the root than the limit
abbrev pub IsTooDeep : List Entry → Entry → Type 0
IsTooDeep entries e = IsSomeAnd (node_name e.1) (λ a. (k : ℕ) × (most_levels < k) × NamesLead entries k root a)
