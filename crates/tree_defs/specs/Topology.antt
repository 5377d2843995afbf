-- The shape of a tree of queues (OOPSLA 2023), and complete trees.
use Rattle.std.specs.Prelude.{◌≡◌, refl, ℕ, zero, suc, ◌<◌, List, [], ◌∷◌, Option, Some, None, nat_eq, replicate, if◌then◌else◌}
use Rattle.tree_defs.specs.Tree.{Tree, leaf, inner, Trees, none, more, Address, subtree, depth, nodes}

abbrev pub Topology : Type 0
Topology = Tree (Unit {0})

abbrev mutual
  pub topology_of : {Q : Type 0} → Tree Q → Topology
  topology_of (leaf q) = leaf tt
  topology_of (inner q ts) = inner tt (topologies_of ts)

  pub topologies_of : {Q : Type 0} → Trees Q → Trees (Unit {0})
  topologies_of none = none
  topologies_of (more t ts) = more (topology_of t) (topologies_of ts)

-- each inner node has at least one child
abbrev mutual
  pub IsBranched : Topology → Type 0
  IsBranched (leaf u) = Unit {0}
  IsBranched (inner u none) = ⊥
  IsBranched (inner u (more t ts)) = IsBranched t × AreBranched ts

  pub AreBranched : Trees (Unit {0}) → Type 0
  AreBranched none = Unit {0}
  AreBranched (more t ts) = IsBranched t × AreBranched ts

-- the remainder of the second address after the first, if the first is a prefix of it
abbrev pub after : Address → Address → Option Address
after [] b = Some b
after (x ∷ a) [] = None
after (x ∷ a) (y ∷ b) = if nat_eq x y then after a b else None

-- a prefix may be the whole address
abbrev pub IsPrefixOf : Address → Address → Type 0
IsPrefixOf a b = (c : Address) × (after a b ≡ Some c)

-- n copies of a tree
abbrev pub copies : ℕ → Topology → Trees (Unit {0})
copies zero t = none
copies (suc n) t = more t (copies n t)

-- the complete tree with the given arities, from the root down
abbrev pub complete : List ℕ → Topology
complete [] = leaf tt
complete (arity ∷ arities) = inner tt (copies arity (complete arities))

-- at most as many digits as there are arities, each below the arity at its index
abbrev pub IsWithin : List ℕ → Address → Type 0
IsWithin arities [] = Unit {0}
IsWithin [] (digit ∷ digits) = ⊥
IsWithin (arity ∷ arities) (digit ∷ digits) = (digit < arity) × IsWithin arities digits

pub complete-binary : complete (2 ∷ 2 ∷ []) ≡ inner tt (more (inner tt (more (leaf tt) (more (leaf tt) none))) (more (inner tt (more (leaf tt) (more (leaf tt) none))) none))
complete-binary = refl

pub complete-arities_from_the_root_down : complete (2 ∷ 1 ∷ []) ≡ inner tt (more (inner tt (more (leaf tt) none)) (more (inner tt (more (leaf tt) none)) none))
complete-arities_from_the_root_down = refl

pub complete-of_one_arity : complete (replicate 2 3) ≡ complete (3 ∷ 3 ∷ [])
complete-of_one_arity = refl

pub complete-of_none : complete [] ≡ leaf tt
complete-of_none = refl

-- a leaf next to a node with two leaves
abbrev pub office : Topology
office = inner tt (more (leaf tt) (more (inner tt (more (leaf tt) (more (leaf tt) none))) none))

pub office-depth : depth office ≡ 2
office-depth = refl

pub office-nodes : nodes office ≡ 5
office-nodes = refl

pub office-leaf : subtree office (1 ∷ 0 ∷ []) ≡ Some (leaf tt)
office-leaf = refl

pub office-no_leaf : subtree office (0 ∷ 0 ∷ []) ≡ None
office-no_leaf = refl

pub after-prefix : after (1 ∷ []) (1 ∷ 0 ∷ []) ≡ Some (0 ∷ [])
after-prefix = refl

pub after-stranger : after (0 ∷ []) (1 ∷ 0 ∷ []) ≡ None
after-stranger = refl
