use Rattle.mapcheck_core.proofs.Prelude.{◌≡◌, map, take, image_map}
use Rattle.mapcheck_core.proofs.composition.placed_images.Given as goal

abbrev pub invariant-loop-image : goal.invariant-loop-image
invariant-loop-image l = l.placed ≡ map (image_map l.placement) (take l.image-index l.images)
