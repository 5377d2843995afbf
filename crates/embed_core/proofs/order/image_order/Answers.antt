use Rattle.embed_core.proofs.Prelude.{◌≡◌, sym, ◌∙◌, ap, List, ◌+◌, subst, refl, map, take_all, IsImageOrder}
use Rattle.embed_core.proofs.ImageOrders.{Entry, AreEntered, entered-more, index_of, sorted-order}
use Rattle.embed_core.proofs.order.image_order.Goals as goal

pub loop-index-preserved : goal.loop-index-preserved
loop-index-preserved c =
    subst (λ (xs : List Entry). AreEntered c.args.children.now xs (c.loop-index.index + 1)) (sym c.in_ok-push.ensures.items)
    (entered-more c.args.children.now c.loop-index.images.items c.loop-index.index c.loop-index.index c.index-children-index.result c.root.result c.loop-index-test.true c.index-children-index.is c.root.ensures.root refl c.loop-index.invariant)

pub returns : goal.returns
returns c =
    let e : c.loop-image.order.items ≡ map index_of c.sort_unstable.new.self.items
    = c.loop-image.invariant ∙ ap (map index_of) (take_all c.loop-image._image-index c.deref-image-items.result.now c.loop-image-test.false ∙ c.deref-image-items.ensures.value) in
    record { order = subst (IsImageOrder c.args.children.now) (sym e) (sorted-order c.args.children.now c.loop-index.images.items c.sort_unstable.new.self.items c.loop-index.index c.loop-index-test.false c.loop-index.invariant c.sort_unstable.ensures.permutation c.sort_unstable.ensures.sorted) }
