use Rattle.mapcheck_core.proofs.Prelude.{◌≡◌, sym, List, ℕ, subst, None, image_at, IsAddressOf}
use Rattle.mapcheck_core.proofs.ComposedImages.{some-image}
use Rattle.mapcheck_core.proofs.composition.placed_images.Goals as goal

pub unreachable-requires : goal.unreachable-requires
unreachable-requires c =
    let address : IsAddressOf c.args.placement.now c.image-item.result
    = subst (IsAddressOf c.args.placement.now) (sym c.image-item.is) (c.requires.addresses c.loop-image.image-index c.image-item.result c.loop-image-test.true) in
    let none : image_at c.args.placement.now c.image-item.result ≡ None = subst (λ (a : List ℕ). image_at c.args.placement.now a ≡ None) c.as_slice.ensures c.in_default.ensures.image in
    some-image c.args.placement.now c.image-item.result address none
