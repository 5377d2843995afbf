-- Numbers and addresses determine each other, and rows determine the tree that they come from.
use Rattle.std.specs.Prelude.{ℕ, ◌≡◌, ◌<◌, []}
use Rattle.tree_defs.specs.Tree.{Tree, Address, IsAddressOf, nodes}
use Rattle.tree_defs.specs.Topology.{topology_of}
use Rattle.tree_graph.specs.Row.{row_at}
use Rattle.tree_graph.specs.Preorder.{rows}
use Rattle.policy_defs.specs.Policy.{Node}
use Rattle.policy_defs.specs.Numbers.{number_at}
use Rattle.policy_core.specs.Numbering.{address_at, nodes_from}
use Rattle.policy_core.specs.Labels.{map_tree}

-- the number at an address gives this address
pub record IsNumberOf (tree : Tree Node) (a : Address) (n : ℕ) : Type 0 where
  pub within : n < nodes tree
  pub address : address_at tree n ≡ a

abbrev pub AddressesUndoNumbers : Type 0
AddressesUndoNumbers = (tree : Tree Node) (a : Address) → IsAddressOf tree a → IsNumberOf tree a (number_at tree a)

-- the address at a number is in the tree and gives this number
pub record IsAddressFor (tree : Tree Node) (n : ℕ) (a : Address) : Type 0 where
  pub there : IsAddressOf tree a
  pub number : number_at tree a ≡ n

abbrev pub NumbersUndoAddresses : Type 0
NumbersUndoAddresses = (tree : Tree Node) (n : ℕ) → n < nodes tree → IsAddressFor tree n (address_at tree n)

-- a tree built from the rows of a tree has the same node at each address as that tree
abbrev pub RowsTellTheTree : Type 0
RowsTellTheTree = (f : ℕ → Node) (t : Tree ℕ) → nodes_from (λ n. f (row_at (rows 0 [] t) n).node) 0 (topology_of t) ≡ map_tree f t
