use Rattle.block_replay.proofs.Prelude.{◌∙◌, address_at}
use Rattle.mapcheck_core.proofs.ComposedImages.{the-image}
use Rattle.block_replay.proofs.OwnDigits.{parent_address, some_image, longer_child}
use Rattle.block_replay.proofs.calmness.digit_at.Goals as goal

pub unreachable-requires : goal.unreachable-requires
unreachable-requires c =
    let tree = c.args.policy.now.policy.tree in
    let a = address_at tree c.args.node in
    some_image tree c.args.map.now c.requires.map a (parent_address tree a c.args.index c.requires.child) (rw c.address.ensures.address at c.in_default.ensures.image)

pub unreachable-requires-in_default-image : goal.unreachable-requires-in_default-image
unreachable-requires-in_default-image c =
    let tree = c.args.policy.now.policy.tree in
    some_image tree c.args.map.now c.requires.map _ c.requires.child (rw (c.address-2.ensures.address ∙ c.child-child.ensures.address) at c.in_default-image.ensures.image)

pub bounds-image-above : goal.bounds-image-above
bounds-image-above c =
    let tree = c.args.policy.now.policy.tree in
    let m = c.args.map.now in
    let a = address_at tree c.args.node in
    let above = the-image m a c.in-Some.above.now (rw c.address.ensures.address at c.in-Some.ensures.image) in
    let image = the-image m _ c.in-Some-image.image.now (rw (c.address-2.ensures.address ∙ c.child-child.ensures.address) at c.in-Some-image.ensures.image) in
    rw (above, image) (longer_child tree m c.requires.map a c.args.index c.requires.child)
