use Rattle.mapcheck_core.proofs.Prelude.{◌≡◌, sym, List, subst, ◌∙◌, ap, map, IfOk-weaker, All, IsEmbedding, image_map, HoldsImages, image_in, topology, complete, Address, IsAddressOf}
use Rattle.mapcheck_core.proofs.ComposedImages.{all-placed, composed-embedding, composed-holds}
use Rattle.mapcheck_core.proofs.composition.compose.Goals as goal

pub placed_images-requires : goal.placed_images-requires
placed_images-requires c =
    record { addresses = subst (All (IsAddressOf c.args.placement.now)) (sym c.as_slice.ensures) (all-placed (topology c.args.topo.now) c.args.given.now.images c.args.placement.now c.requires.given.images c.requires.embedding) }

pub of-requires-clause-embedding : goal.of-requires-clause-embedding
of-requires-clause-embedding c =
    let images : c.in_ok-images.images ≡ map (image_map c.args.placement.now) c.args.given.now.images = c.in_ok-images.ensures.images ∙ ap (map (image_map c.args.placement.now)) c.as_slice.ensures in
    subst (λ (es : List Address). IsEmbedding (topology c.args.topo.now) (complete c.args.target.now.arities) (image_in (topology c.args.topo.now) es)) (sym images)
    (composed-embedding (topology c.args.topo.now) c.args.given.now.images c.args.placement.now c.requires.given.images c.requires.embedding (complete c.args.target.now.arities) c.requires.placement)

pub returns-clause-composed : goal.returns-clause-composed
returns-clause-composed c =
    let images : c.in_ok-images.images ≡ map (image_map c.args.placement.now) c.args.given.now.images = c.in_ok-images.ensures.images ∙ ap (map (image_map c.args.placement.now)) c.as_slice.ensures in
    IfOk-weaker c.of.result _ _
    (λ m h. composed-holds (topology c.args.topo.now) c.args.given.now.images c.args.placement.now c.requires.given.images c.requires.embedding m
    (subst (λ (es : List Address). HoldsImages (topology c.args.topo.now) (image_in (topology c.args.topo.now) es) m) images h))
    c.of.ensures.images
