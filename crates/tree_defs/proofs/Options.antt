-- The origin of an `Option` that has a value.
use Rattle.tree_defs.proofs.Prelude.{◌≡◌, Some, refl, None, Option, option_bind}
use Rattle.std.specs.Prelude.{option_map}

module _ {A B : Type 0} where
  pub option_map-some : (f : A → B) (o : Option A) (r : B) → option_map f o ≡ Some r → (x : A) × (o ≡ Some x) × (f x ≡ r)
  option_map-some f None r p = cc
  option_map-some f (Some x) r p = (x, refl, cc)

  pub option_bind-some : (f : A → Option B) (o : Option A) (r : B) → option_bind o f ≡ Some r → (x : A) × (o ≡ Some x) × (f x ≡ Some r)
  option_bind-some f None r p = cc
  option_bind-some f (Some x) r p = (x, refl, p)
