-- Trees read by the numbers of their nodes, counted in preorder from the root, which is 0.
use Rattle.std.specs.Prelude.{◌≡◌, refl, ℕ, zero, suc, ◌+◌, ◌-◌, nat_lt, if◌then◌else◌, [], ◌∷◌, IsSomeAnd}
use Rattle.tree_defs.specs.Tree.{Tree, leaf, inner, Trees, none, more, Address, nodes}
use Rattle.tree_defs.specs.Topology.{Topology, office}
use Rattle.policy_defs.specs.Policy.{Node, node_at}

-- a tree of this shape, with the value of each node's number at the node; numbers start at n
abbrev mutual
  pub nodes_from : {Q : Type 0} → (ℕ → Q) → ℕ → Topology → Tree Q
  nodes_from f n (leaf u) = leaf (f n)
  nodes_from f n (inner u ts) = inner (f n) (nodes_from_below f (n + 1) ts)

  pub nodes_from_below : {Q : Type 0} → (ℕ → Q) → ℕ → Trees (Unit {0}) → Trees Q
  nodes_from_below f n none = none
  nodes_from_below f n (more t ts) = more (nodes_from f n t) (nodes_from_below f (n + nodes t) ts)

-- the index of the sibling whose subtree has the node, counted in preorder from the first sibling
abbrev pub sibling_of : {Q : Type 0} → Trees Q → ℕ → ℕ
sibling_of none n = 0
sibling_of (more t ts) n = if nat_lt n (nodes t) then 0 else suc (sibling_of ts (n - nodes t))

-- the address of the node or leaf with a number
abbrev mutual
  pub address_at : {Q : Type 0} → Tree Q → ℕ → Address
  address_at (leaf q) n = []
  address_at (inner q ts) zero = []
  address_at (inner q ts) (suc n) = sibling_of ts n ∷ address_below ts n

  -- the path from that sibling to the node
  pub address_below : {Q : Type 0} → Trees Q → ℕ → Address
  address_below none n = []
  address_below (more t ts) n = if nat_lt n (nodes t) then address_at t n else address_below ts (n - nodes t)

-- a property of the node with a number
abbrev pub HasAt : Tree Node → ℕ → (Node → Type 0) → Type 0
HasAt tree n Holds = IsSomeAnd (node_at tree (address_at tree n)) Holds

pub address_at-root : address_at office 0 ≡ []
address_at-root = refl

pub address_at-first_leaf : address_at office 1 ≡ 0 ∷ []
address_at-first_leaf = refl

pub address_at-last_leaf : address_at office 4 ≡ 1 ∷ 1 ∷ []
address_at-last_leaf = refl

pub nodes_from-office : nodes_from (λ n. n) 0 office ≡ inner 0 (more (leaf 1) (more (inner 2 (more (leaf 3) (more (leaf 4) none))) none))
nodes_from-office = refl
