-- Worked examples of maps that break each clause of an embedding.
use Rattle.mapcheck_core.proofs.Prelude.{◌≡◌, [], refl, arith, ◌∷◌, inr, ◌<◌, ◌≤◌, inl, ◌⊎◌, suc, zero, number_of, Topology, IsPrefixOf, Address, inner, IsAddressOf, more, none, image_of, prefix, Breaks, IsOutside, MissesLeaf, outside, root, KeepsPrefix, Given}
use Rattle.tree_defs.specs.Tree.{leaf}
use Rattle.mapcheck_core.specs.declared.fault.MapFault.TheVariants as fault
use Rattle.mapcheck_core.specs.GivenMaps.{leaf as leaf_breaks}

abbrev a_leaf : Topology
a_leaf = leaf tt

abbrev above_a_leaf : Topology
above_a_leaf = inner tt (more (leaf tt) none)

abbrev two_leaves : Topology
two_leaves = inner tt (more (leaf tt) (more (leaf tt) none))

abbrev to : Address → Given
to image = record { images = image ∷ []; lines = 7 ∷ [] }

-- an image that isn't an address is reported before a root whose image isn't the root
no_address_first : Breaks a_leaf a_leaf (to (0 ∷ [])) (fault.NoAddress 7)
no_address_first = outside 7 (record {
  address = [];
  inside = (leaf tt, refl);
  holds = λ is. absurd cc;
  line = refl;
  least = λ a is holds. omega arith;
})

-- a root whose image isn't the root is reported, even if the image is an address and a leaf
the_root_elsewhere : Breaks a_leaf above_a_leaf (to (0 ∷ [])) (fault.Root 7)
the_root_elsewhere = root 7 (λ a is nowhere. nowhere (leaf tt, refl)) (λ same. absurd cc) refl

-- a leaf whose image is an inner node is reported
a_leaf_at_a_node : Breaks a_leaf above_a_leaf (to []) (fault.Leaf 7)
a_leaf_at_a_node = leaf_breaks 7 (λ a is nowhere. nowhere (above_a_leaf, refl)) refl (record {
  address = [];
  inside = (leaf tt, refl);
  holds = (tt, λ leads. leads);
  line = refl;
  least = λ a is holds. omega arith;
})

-- Both leaves are mapped to one leaf. The pair breaks the prefix condition in both orders; the
-- lower order is reported.
abbrev both : Given
both = record { images = [] ∷ (0 ∷ []) ∷ (0 ∷ []) ∷ []; lines = 1 ∷ 2 ∷ 3 ∷ [] }

both_inside : (a : Address) → IsAddressOf two_leaves a → IsOutside two_leaves two_leaves both a → ⊥
both_inside [] is nowhere = nowhere (two_leaves, refl)
both_inside (zero ∷ []) is nowhere = nowhere (leaf tt, refl)
both_inside (suc zero ∷ []) is nowhere = nowhere (leaf tt, refl)
both_inside (zero ∷ i ∷ a) is nowhere = absurd cc
both_inside (suc zero ∷ i ∷ a) is nowhere = absurd cc
both_inside (suc (suc n) ∷ a) is nowhere = absurd cc

both_leaves : (a : Address) → IsAddressOf two_leaves a → MissesLeaf two_leaves two_leaves both a → ⊥
both_leaves [] is misses = misses.0
both_leaves (zero ∷ []) is misses = misses.1 tt
both_leaves (suc zero ∷ []) is misses = misses.1 tt
both_leaves (zero ∷ i ∷ a) is misses = absurd cc
both_leaves (suc zero ∷ i ∷ a) is misses = absurd cc
both_leaves (suc (suc n) ∷ a) is misses = absurd cc

apart : KeepsPrefix two_leaves both (0 ∷ []) (1 ∷ []) → ⊥
apart keeps = let begins : IsPrefixOf (0 ∷ []) (1 ∷ []) = keeps.1 ([], refl) in absurd cc

lowest : (x y : Address) → IsAddressOf two_leaves x → IsAddressOf two_leaves y → (KeepsPrefix two_leaves both x y → ⊥)
    → (1 < number_of two_leaves x) ⊎ ((1 ≡ number_of two_leaves x) × (2 ≤ number_of two_leaves y))
lowest [] y is js broken = absurd (broken (λ begins. (image_of two_leaves both y, refl), λ begins. (y, refl)))
lowest (zero ∷ []) [] is js broken = absurd (broken (λ begins. absurd cc, λ begins. absurd cc))
lowest (zero ∷ []) (zero ∷ []) is js broken = absurd (broken (λ begins. ([], refl), λ begins. ([], refl)))
lowest (zero ∷ []) (suc zero ∷ []) is js broken = inr (refl, omega arith)
lowest (zero ∷ []) (zero ∷ i ∷ a) is js broken = absurd cc
lowest (zero ∷ []) (suc zero ∷ i ∷ a) is js broken = absurd cc
lowest (zero ∷ []) (suc (suc n) ∷ a) is js broken = absurd cc
lowest (suc zero ∷ []) y is js broken = inl (omega arith)
lowest (zero ∷ i ∷ a) y is js broken = absurd cc
lowest (suc zero ∷ i ∷ a) y is js broken = absurd cc
lowest (suc (suc n) ∷ a) y is js broken = absurd cc

the_lower_pair : Breaks two_leaves two_leaves both (fault.Prefix 1 2)
the_lower_pair = prefix 1 2 both_inside refl both_leaves (record {
  first = 0 ∷ [];
  second = 1 ∷ [];
  first_inside = (leaf tt, refl);
  second_inside = (leaf tt, refl);
  first_number = refl;
  second_number = refl;
  broken = apart;
  least = lowest;
})
