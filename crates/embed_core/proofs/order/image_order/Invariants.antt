use Rattle.std.proofs.Common.{◌≡◌, map, take}
use Rattle.embed_core.proofs.ImageOrders.{AreEntered, index_of}
use Rattle.embed_core.proofs.order.image_order.Given as goal

abbrev pub invariant-loop-index : goal.invariant-loop-index
invariant-loop-index l = AreEntered l.children l.images.items l.index

abbrev pub invariant-loop-image : goal.invariant-loop-image
invariant-loop-image l = l.order.items ≡ map index_of (take l._image-index l._image-items)
