-- A push spills at the same number of nodes in families of the same queues.
use Rattle.embed_defs.proofs.Prelude.{[], ℕ, ◌≡◌, refl, ◌∷◌, List, drop, Family, below, SameQueues, image_map, lift_ranks, LiftOfIsTheLift, SpillsOfLifts, lift, placement_of}
use Rattle.embed_defs.specs.Family.{Address}
use Rattle.embed_defs.specs.Spills.{spills_along}
use Rattle.embed_defs.proofs.ImageLifts.{is-lift, lift-is}

spills_along-same : (a : Address) (ranks : List ℕ) (F G : Family) → SameQueues F G → spills_along a ranks F ≡ spills_along a ranks G
spills_along-same [] ranks F G s = rw (s []) refl
spills_along-same (x ∷ a) ranks F G s = rw (s [], spills_along-same a (drop 1 ranks) (below F x) (below G x) (λ b. s (x ∷ b))) refl

pub lift_of_is_the_lift : LiftOfIsTheLift
lift_of_is_the_lift h t images m = is-lift h t images m (lift t (placement_of images)) (λ b. refl)

pub spills_of_lifts : SpillsOfLifts
spills_of_lifts h t images F digits ranks m l f = spills_along-same (image_map images digits) (lift_ranks images digits ranks) F (lift t (placement_of images)) (lift-is h t images m F f)
