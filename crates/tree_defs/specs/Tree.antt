-- Trees: a leaf, or an inner node with the list of its children. Each node has a value of `Q`. With
-- no value at the nodes a tree is a topology; with queues, a source tree; with numbers, the free
-- slots at each node.
use Rattle.std.specs.Prelude.{ℕ, zero, suc, ◌+◌, ◌≡◌, List, [], ◌∷◌, Option, Some, None, max}

mutual
  pub data Tree (Q : Type 0) : Type 0 where
    leaf : Q → Tree Q
    inner : Q → Trees Q → Tree Q

  pub data Trees (Q : Type 0) : Type 0 where
    none : Trees Q
    more : Tree Q → Trees Q → Trees Q

-- the path from the root down: a child's index at each inner node on it
abbrev pub Address : Type 0
Address = List ℕ

module _ {Q : Type 0} where
  abbrev pub trees_of : List (Tree Q) → Trees Q
  trees_of [] = none
  trees_of (t ∷ ts) = more t (trees_of ts)

  abbrev pub count_of : Trees Q → ℕ
  count_of none = 0
  count_of (more t ts) = suc (count_of ts)

  abbrev pub child : Trees Q → ℕ → Option (Tree Q)
  child none i = None
  child (more t ts) zero = Some t
  child (more t ts) (suc i) = child ts i

  -- the value at the root
  abbrev pub root_of : Tree Q → Q
  root_of (leaf q) = q
  root_of (inner q ts) = q

-- the maximum number of levels below the root of a tree that runs, since each level is a nested
-- call
abbrev pub most_levels : ℕ
most_levels = 64

-- the maximum number of nodes and leaves of such a tree
abbrev pub most_nodes : ℕ
most_nodes = 1024

-- the subtree at an address
abbrev mutual
  pub subtree : {Q : Type 0} → Tree Q → Address → Option (Tree Q)
  subtree (leaf q) [] = Some (leaf q)
  subtree (leaf q) (i ∷ a) = None
  subtree (inner q ts) [] = Some (inner q ts)
  subtree (inner q ts) (i ∷ a) = subtree_in ts i a

  pub subtree_in : {Q : Type 0} → Trees Q → ℕ → Address → Option (Tree Q)
  subtree_in none i a = None
  subtree_in (more t ts) zero a = subtree t a
  subtree_in (more t ts) (suc i) a = subtree_in ts i a

abbrev pub IsAddressOf : {Q : Type 0} → Tree Q → Address → Type 0
IsAddressOf {Q} t a = (u : Tree Q) × (subtree t a ≡ Some u)

-- a leaf address: the digits end at a leaf
abbrev mutual
  pub LeadsToLeaf : {Q : Type 0} → Tree Q → Address → Type 0
  LeadsToLeaf (leaf q) [] = Unit {0}
  LeadsToLeaf (leaf q) (i ∷ digits) = ⊥
  LeadsToLeaf (inner q ts) [] = ⊥
  LeadsToLeaf (inner q ts) (i ∷ digits) = LeadsBelow ts i digits

  pub LeadsBelow : {Q : Type 0} → Trees Q → ℕ → Address → Type 0
  LeadsBelow none i digits = ⊥
  LeadsBelow (more t ts) zero digits = LeadsToLeaf t digits
  LeadsBelow (more t ts) (suc i) digits = LeadsBelow ts i digits

abbrev pub HasChild : {Q : Type 0} → Trees Q → ℕ → Type 0
HasChild none i = ⊥
HasChild (more t ts) zero = Unit {0}
HasChild (more t ts) (suc i) = HasChild ts i

-- two trees with the same topology
abbrev mutual
  pub SameShape : {Q R : Type 0} → Tree Q → Tree R → Type 0
  SameShape (leaf q) (leaf r) = Unit {0}
  SameShape (leaf q) (inner r us) = ⊥
  SameShape (inner q ts) (leaf r) = ⊥
  SameShape (inner q ts) (inner r us) = SameShapes ts us

  pub SameShapes : {Q R : Type 0} → Trees Q → Trees R → Type 0
  SameShapes none none = Unit {0}
  SameShapes none (more u us) = ⊥
  SameShapes (more t ts) none = ⊥
  SameShapes (more t ts) (more u us) = SameShape t u × SameShapes ts us

-- the number of nodes
abbrev mutual
  pub nodes : {Q : Type 0} → Tree Q → ℕ
  nodes (leaf q) = 1
  nodes (inner q ts) = nodes_below ts + 1

  pub nodes_below : {Q : Type 0} → Trees Q → ℕ
  nodes_below none = 0
  nodes_below (more t ts) = nodes t + nodes_below ts

-- the number of levels below the root
abbrev mutual
  pub depth : {Q : Type 0} → Tree Q → ℕ
  depth (leaf q) = 0
  depth (inner q ts) = depth_below ts

  pub depth_below : {Q : Type 0} → Trees Q → ℕ
  depth_below none = 0
  depth_below (more t ts) = max (depth t + 1) (depth_below ts)

-- the result of a pop: the value, the children's indices and the ranks from the root down, and the
-- remaining tree
pub record Popping (L : Type 0) : Type 0 where
  pub value : ℕ
  pub digits : List ℕ
  pub ranks : List ℕ
  pub left : L

abbrev pub option_bind : {A B : Type 0} → Option A → (A → Option B) → Option B
option_bind None f = None
option_bind (Some x) f = f x
