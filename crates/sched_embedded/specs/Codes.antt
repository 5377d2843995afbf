-- How a tree laid into a target is stored as a ghost value. All proofs that two topologies are
-- equal are equal, and so are all proofs of where lifted paths and images lead.
use Rattle.std.specs.Prelude.{◌≡◌, ℕ, List, [], ◌∷◌, refl}
use Rattle.std.specs.Coded.{Coded, Coded-set, code_by, coded×, coded_ℕ, coded_list, Unit-prop, le_prop}
use base.Stored.{coded_unit}
use Rattle.tree_defs.specs.Tree.{Tree, Address}
use Rattle.tree_defs.specs.Topology.{Topology}
use Rattle.tree_defs.specs.Codes.{tree_code}
use Rattle.embed_defs.specs.Family.{IsLeafAddress}
use Rattle.embed_defs.specs.Images.{image_map}
use Rattle.embed_core.specs.declared.lifted_path.LiftedPath.{LiftedPath}
use Rattle.embed_core.specs.LiftedPaths.{IsLiftedPathTo}
use Rattle.policy_defs.specs.Policy.{Policy}
use Rattle.sched_embedded.specs.Laid.{Laid, HasLiftedPaths, MapsToLeaves, leaf_of}

abbrev pub laid_code : Coded Laid
laid_code = code_by (Tree Address × List ℕ) (coded× (tree_code (coded_list coded_ℕ)) (coded_list coded_ℕ)) (λ l. (l.images, l.arities)) (λ p. record { images = p.0; arities = p.1 }) (λ _. refl)

pub one_way_to_be_the_same : (t u : Topology) → IsProp (t ≡ u)
one_way_to_be_the_same t u = Coded-set (tree_code coded_unit) t u

IsLiftedPathTo-prop : (images : Tree Address) (address : Address) (lifted_path : LiftedPath) → IsProp (IsLiftedPathTo images address lifted_path)
IsLiftedPathTo-prop images address lifted_path a b i = record {
  image = Coded-set (coded_list coded_ℕ) _ _ a.image b.image i;
  long = Coded-set coded_ℕ _ _ a.long b.long i;
  steps = Coded-set (coded_list coded_ℕ) _ _ a.steps b.steps i;
  address_is = Coded-set (coded_list coded_ℕ) _ _ a.address_is b.address_is i;
  depths = Coded-set (coded_list coded_ℕ) _ _ a.depths b.depths i;
}

pub one_way_to_have_lifted_paths : (images : Tree Address) (policy : Policy) (lifted_paths : List LiftedPath) → IsProp (HasLiftedPaths images policy lifted_paths)
one_way_to_have_lifted_paths images policy lifted_paths a b i = record {
  whole = Coded-set coded_ℕ _ _ a.whole b.whole i;
  each = λ n lifted_path at. IsLiftedPathTo-prop images (leaf_of policy n) lifted_path (a.each n lifted_path at) (b.each n lifted_path at) i;
}

IsLeafAddress-prop : (arities : List ℕ) (a : Address) → IsProp (IsLeafAddress arities a)
IsLeafAddress-prop [] [] = Unit-prop
IsLeafAddress-prop [] (x ∷ a) = λ p q. absurd p
IsLeafAddress-prop (d ∷ arities) [] = λ p q. absurd p
IsLeafAddress-prop (d ∷ arities) (x ∷ a) = λ p q i. (le_prop p.0 q.0 i, IsLeafAddress-prop arities a p.1 q.1 i)

pub one_way_to_map_to_leaves : (images : Tree Address) (arities : List ℕ) → IsProp (MapsToLeaves images arities)
one_way_to_map_to_leaves images arities p q i = λ a leads. IsLeafAddress-prop arities (image_map images a) (p a leads) (q a leads) i
