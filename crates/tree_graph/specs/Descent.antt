-- Numbered nodes. A graph gives the list of children of each node.
use Rattle.std.specs.Prelude.{ℕ, zero, suc, ◌≡◌, ◌≢◌, ◌<◌, ◌≤◌, ◌+◌, refl, List, [], ◌∷◌, map, length, slice_index, slice_index_or, Option, Contains, Vec, count_by, nat_eq, MatchOption, ◌⊎◌}
use Rattle.std.specs.declared.alloc.Global.{Global}
use Rattle.tree_defs.specs.Tree.{most_levels}

abbrev pub Graph : Type 0
Graph = List (List ℕ)

-- the graph represented by a slice of lists
abbrev pub lists : List (Vec ℕ Global) → Graph
lists g = map (λ v. v.items) g

abbrev pub children : Graph → ℕ → List ℕ
children g i = slice_index_or g i []

abbrev pub IsChild : Graph → ℕ → ℕ → Type 0
IsChild g i j = Contains (children g i) j

-- each child is a node
abbrev pub AreInRange : Graph → Type 0
AreInRange g = (i j : ℕ) → IsChild g i j → j < length g

-- k steps, each from a node to a child, lead from a to b
abbrev pub Leads : Graph → ℕ → ℕ → ℕ → Type 0
Leads g zero a b = a ≡ b
Leads g (suc k) a b = (m : ℕ) × IsChild g a m × Leads g k m b

-- b is a descendant of a
abbrev pub IsBelow : Graph → ℕ → ℕ → Type 0
IsBelow g a b = (k : ℕ) × Leads g (suc k) a b

-- a node is more than the maximum number of levels below the root
abbrev pub IsDeep : Graph → ℕ → ℕ → Type 0
IsDeep g root a = (k : ℕ) × (most_levels < k) × Leads g k root a

-- the number of steps from the root to a node; nothing if it is too deep
abbrev pub IsDepthOf : Graph → ℕ → ℕ → Option ℕ → Type 0
IsDepthOf g root node found = MatchOption found (IsDeep g root node) (λ d. (d ≤ most_levels) × Leads g d root node)

-- the number of times that a node occurs in a list
abbrev pub times : ℕ → List ℕ → ℕ
times c xs = count_by (λ x. nat_eq c x) xs

-- a node is listed exactly once, by one parent
pub record HasOneParent (g : Graph) (c : ℕ) : Type 0 where
  pub parent : ℕ
  pub lists_it : IsChild g parent c
  pub once : times c (children g parent) ≡ 1
  pub only : (q : ℕ) → IsChild g q c → q ≡ parent

-- each node except the root has exactly one parent, and no node is its own descendant
pub record IsForest (g : Graph) (root : ℕ) : Type 0 where
  pub in_range : AreInRange g
  pub root_is : root < length g
  pub one : (c : ℕ) → c < length g → c ≢ root → HasOneParent g c
  pub acyclic : (a : ℕ) → ¬ IsBelow g a a

-- for each node that is listed, a node that lists it
pub record AreParents (g : Graph) (parents : List ℕ) : Type 0 where
  pub len : length parents ≡ length g
  pub each : (c q : ℕ) → IsChild g q c → IsChild g (slice_index parents c) c

-- no path down from a node is longer than the rest of the limit
abbrev pub IsWithin : Graph → ℕ → ℕ → ℕ → Type 0
IsWithin g a limit above = (k b : ℕ) → Leads g k a b → k + above ≤ limit

-- the least number below n for which a fact holds
pub record IsLeast (n : ℕ) (P : ℕ → Type 0) (a : ℕ) : Type 0 where
  pub within : a < n
  pub holds : P a
  pub least : (b : ℕ) → b < a → ¬ P b

-- the first of n numbers for which a fact holds; nothing if there is none
abbrev pub IsFirst : ℕ → (ℕ → Type 0) → Option ℕ → Type 0
IsFirst n P found = MatchOption found ((a : ℕ) → a < n → ¬ P a) (IsLeast n P)

-- the nodes of a list have this parent; the parents of all others are unchanged
pub record ArePointed (parent : ℕ) (nodes old new : List ℕ) : Type 0 where
  pub len : length new ≡ length old
  pub changed : (c : ℕ) → Contains nodes c → slice_index new c ≡ parent
  pub others : (c : ℕ) → (slice_index new c ≡ parent) × Contains nodes c ⊎ (slice_index new c ≡ slice_index old c)

-- a root 2 with children 0 and 1, and a node 3 below 0
abbrev pub two_below_a_root : Graph
two_below_a_root = (3 ∷ []) ∷ [] ∷ (0 ∷ 1 ∷ []) ∷ [] ∷ []

pub children-two_below_a_root : children two_below_a_root 2 ≡ 0 ∷ 1 ∷ []
children-two_below_a_root = refl

pub times-once : times 1 (children two_below_a_root 2) ≡ 1
times-once = refl
