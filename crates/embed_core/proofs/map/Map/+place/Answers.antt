use Rattle.embed_core.proofs.Prelude.{◌≡◌, length, arith, sym, ◌∙◌, ap, subst, ◌<◌, [], refl, ◌∷◌, ◌++◌, take, ◌-◌, rules, length-take-le, IfOk, children, canonical, image_part, FitsBelow, needs_at, HoldsNeeds, branch, trees_of, Address, Tree, root_of, nodes, levels_of}
use Rattle.embed_core.proofs.TargetArities.{positive}
use Rattle.embed_defs.proofs.Digits.{length-digits}
use Rattle.embed_defs.proofs.CanonicalPlaced.{own_height}
use Rattle.embed_core.proofs.PlacedChildren.{children-fit, children-hold, child-holds, child-smaller, child-lower, child-among}
use Rattle.embed_core.proofs.ChildImages.{images-step, images-done, all-images, few-images}
use Rattle.embed_core.proofs.map.Map.+place.Goals as goal

pub block_start-requires-clause-child : goal.block_start-requires-clause-child
block_start-requires-clause-child t c =
    child-among c.children-siblings.result.now c.loop-index.index c.index-siblings-index.result c.need-need.result c.loop-index-test.true c.index-siblings-index.is c.need-need.ensures.need

pub block_start-requires-clause-fits : goal.block_start-requires-clause-fits
block_start-requires-clause-fits t c =
    children-fit (levels_of c.args.target.now) c.args.needs.now (root_of c.args.needs.now) c.args.height (positive c.args.target.now c.requires.range) c.requires.needs c.requires.room c.children-siblings.result.now c.children-siblings.ensures.children (omega (arith, c.loop-index-test.true))

pub slice_bounds-extend_from_slice-count : goal.slice_bounds-extend_from_slice-count
slice_bounds-extend_from_slice-count t c =
    let f : FitsBelow (levels_of c.args.target.now) (needs_at (trees_of c.children-siblings.result.now)) c.args.height
    = children-fit (levels_of c.args.target.now) c.args.needs.now (root_of c.args.needs.now) c.args.height (positive c.args.target.now c.requires.range) c.requires.needs c.requires.room c.children-siblings.result.now c.children-siblings.ensures.children (omega (arith, c.loop-index-test.true)) in
    omega (arith, c.need-need.ensures.need, child-lower c.args.height c.children-siblings.result.now c.loop-index.index c.index-siblings-index.result f.below c.loop-index-test.true c.index-siblings-index.is)

pub slice_bounds-extend_from_slice-length : goal.slice_bounds-extend_from_slice-length
slice_bounds-extend_from_slice-length t c =
    let n : length c.deref-in-loop-index.result.now ≡ c.args.height = ap length (c.deref-in-loop-index.ensures.value ∙ c.in_ok-start.ensures.start) ∙ length-digits (levels_of c.args.target.now) c.args.height _ in
    sym (length-take-le (c.args.height - c.need-need.result) c.deref-in-loop-index.result.now (omega (arith, n)))

pub place-requires : goal.place-requires
place-requires t c =
    let h : HoldsNeeds (levels_of c.args.target.now) c.index-siblings-index.result
    = child-holds (levels_of c.args.target.now) c.children-siblings.result.now c.loop-index.index c.index-siblings-index.result
    (children-hold (levels_of c.args.target.now) c.args.needs.now (root_of c.args.needs.now) c.args.height (positive c.args.target.now c.requires.range) c.requires.needs c.requires.room c.children-siblings.result.now c.children-siblings.ensures.children)
    c.loop-index-test.true c.index-siblings-index.is in
    let smaller : nodes c.index-siblings-index.result < nodes c.args.needs.now = child-smaller c.args.needs.now (root_of c.args.needs.now) c.children-siblings.result.now c.loop-index.index c.index-siblings-index.result c.children-siblings.ensures.children c.loop-index-test.true c.index-siblings-index.is in
    (search rules, (h, (rw c.need-need.ensures.need (own_height (levels_of c.args.target.now) c.index-siblings-index.result h), (c.requires.range, omega (arith, smaller, c.requires.few)))))

pub loop-index-preserved : goal.loop-index-preserved
loop-index-preserved t c =
    let a : c.in_ok-below.below.items ≡ c.args.image.items = c.in_ok-below.ensures.items_if_clones_equal (λ x y p. p) ∙ c.deref.ensures.value in
    let b : c.extend_from_slice.new.self.items ≡ c.in_ok-below.below.items ++ take (c.args.height - c.need-need.result) c.deref-in-loop-index.result.now = c.in_ok-extend_from_slice.ensures.items in
    let d : c.push.new.self.items ≡ c.loop-index.children.items ++ c.in_ok-place.field-0 ∷ [] = c.in_ok-push.ensures.items in
    let e : c.extend_from_slice.new.self.items ≡ c.args.image.items ++ image_part (levels_of c.args.target.now) c.args.height (children (trees_of c.children-siblings.result.now) 0) (c.loop-index.index, c.need-need.result)
    = b ∙ rw (a, c.deref-in-loop-index.ensures.value, c.in_ok-start.ensures.start) refl in
    rw d (images-step (levels_of c.args.target.now) c.args.height c.args.image.items (children (trees_of c.children-siblings.result.now) 0) c.children-siblings.result.now c.loop-index.index c.need-need.result c.index-siblings-index.result c.loop-index.children.items _
    c.extend_from_slice.new.self.items c.in_ok-place.field-0 c.loop-index-test.true c.index-siblings-index.is c.need-need.ensures.need e c.in_ok-place.ensures.canonical c.loop-index.invariant)

pub node-requires : goal.node-requires
node-requires t c = record {
  few = few-images (levels_of c.args.target.now) c.args.height c.args.image.items c.args.needs.now (root_of c.args.needs.now) c.children-siblings.result.now c.loop-index.children.items c.children-siblings.ensures.children c.requires.few
      (images-done (levels_of c.args.target.now) c.args.height c.args.image.items (children (trees_of c.children-siblings.result.now) 0) c.children-siblings.result.now c.loop-index.index c.loop-index.children.items _ c.loop-index-test.false c.loop-index.invariant);
}

pub returns : goal.returns
returns t c =
    let placed : branch c.args.image.items (trees_of c.loop-index.children.items) ≡ canonical (levels_of c.args.target.now) c.args.height c.args.image.items c.args.needs.now
    = all-images (levels_of c.args.target.now) c.args.height c.args.image.items c.args.needs.now (root_of c.args.needs.now) c.children-siblings.result.now c.loop-index.children.items c.children-siblings.ensures.children
    (images-done (levels_of c.args.target.now) c.args.height c.args.image.items (children (trees_of c.children-siblings.result.now) 0) c.children-siblings.result.now c.loop-index.index c.loop-index.children.items _ c.loop-index-test.false c.loop-index.invariant) in
    record { canonical = subst (λ (z : Tree Address). IfOk c.node.result (λ map. map ≡ z)) placed c.node.ensures.node }
