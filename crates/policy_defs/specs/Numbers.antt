-- The numbers of nodes and leaves, counted in preorder from the root, which is 0.
use Rattle.std.specs.Prelude.{◌≡◌, refl, ℕ, zero, suc, ◌+◌, List, [], ◌∷◌}
use Rattle.tree_defs.specs.Tree.{Tree, leaf, inner, Trees, none, more, Address, IsAddressOf, nodes}
use Rattle.tree_defs.specs.Topology.{office}
use Rattle.policy_defs.specs.Policy.{Policy, name_at}

-- the number of the node or leaf at an address
abbrev mutual
  pub number_at : {Q : Type 0} → Tree Q → Address → ℕ
  number_at (leaf q) a = 0
  number_at (inner q ts) [] = 0
  number_at (inner q ts) (i ∷ a) = number_below ts i a + 1

  pub number_below : {Q : Type 0} → Trees Q → ℕ → Address → ℕ
  number_below none i a = 0
  number_below (more t ts) zero a = number_at t a
  number_below (more t ts) (suc i) a = nodes t + number_below ts i a

-- the name of the node or leaf with this number
abbrev pub IsNameOf : Policy → ℕ → List ℕ → Type 0
IsNameOf policy number name = (a : Address) → IsAddressOf policy.tree a → number_at policy.tree a ≡ number → name ≡ name_at policy a

pub number_at-first_leaf : number_at office (0 ∷ []) ≡ 1
number_at-first_leaf = refl

pub number_at-second_child : number_at office (1 ∷ []) ≡ 2
number_at-second_child = refl

pub number_at-last_leaf : number_at office (1 ∷ 1 ∷ []) ≡ 4
number_at-last_leaf = refl
