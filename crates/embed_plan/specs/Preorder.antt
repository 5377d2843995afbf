-- The addresses of a tree in preorder: each node's address is before those of the nodes below it.
use Rattle.std.specs.Prelude.{◌≡◌, refl, ℕ, suc, List, [], ◌∷◌, ◌++◌, map}
use Rattle.tree_defs.specs.Tree.{Tree, leaf, inner, Trees, none, more, Address}
use Rattle.tree_defs.specs.Topology.{office}

abbrev mutual
  pub addresses : {Q : Type 0} → Tree Q → List Address
  addresses (leaf q) = [] ∷ []
  addresses (inner q ts) = [] ∷ addresses_below ts 0

  -- those below the children from index i on
  pub addresses_below : {Q : Type 0} → Trees Q → ℕ → List Address
  addresses_below none i = []
  addresses_below (more t ts) i = map (λ a. i ∷ a) (addresses t) ++ addresses_below ts (suc i)

pub addresses-office : addresses office ≡ [] ∷ (0 ∷ []) ∷ (1 ∷ []) ∷ (1 ∷ 0 ∷ []) ∷ (1 ∷ 1 ∷ []) ∷ []
addresses-office = refl
