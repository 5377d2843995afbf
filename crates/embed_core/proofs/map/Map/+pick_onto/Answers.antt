use Rattle.embed_core.proofs.Prelude.{◌≡◌, length, arith, sym, ◌∙◌, ap, ◌+◌, subst, ℕ, ◌<◌, [], get_or, ◌∷◌, ◌++◌, rules, length-append, AreApart, IsOnSide}
use Rattle.embed_core.proofs.MapSteps.{some_child}
use Rattle.embed_core.proofs.PickedChildren.{IsFound, found, root-short, some_side, apart, beside, side-begins}
use Rattle.embed_core.proofs.map.Map.+pick_onto.Goals as goal

pub bounds-ranks-depth : goal.bounds-ranks-depth
bounds-ranks-depth t c = omega (arith, root-short c.args.self.now c.args.digits.now c.requires.nested c.requires.leaf, c.depth.ensures.depth, c.requires.ranks)

pub offset_bounds-ranks-depth : goal.offset_bounds-ranks-depth
offset_bounds-ranks-depth t c = omega (arith, root-short c.args.self.now c.args.digits.now c.requires.nested c.requires.leaf, c.depth.ensures.depth, c.requires.ranks)

pub child_to-index-requires-clause-apart : goal.child_to-index-requires-clause-apart
child_to-index-requires-clause-apart t c =
    subst AreApart (sym c.deref.ensures.value) (apart c.self.inside.image.items c.self.inside.children.items c.args.self.now c.self.view_is c.requires.nested)

pub child_to-index-requires-clause-some : goal.child_to-index-requires-clause-some
child_to-index-requires-clause-some t c =
    let l : 0 < length c.self.inside.children.items = some_child c.self.inside.children.items c.self.inside.children.len c.self.inside.children.ok.0 c.if-is_empty.ensures in
    rw c.deref.ensures.value (some_side c.self.inside.image.items c.self.inside.children.items c.args.self.now c.args.digits.now c.self.view_is l c.requires.nested c.requires.leaf)

pub child_to-index-requires-clause-above : goal.child_to-index-requires-clause-above
child_to-index-requires-clause-above t c =
    rw c.deref.ensures.value (beside c.self.inside.image.items c.self.inside.children.items c.args.self.now c.args.digits.now c.depth-else-is_empty.result c.self.view_is c.depth-else-is_empty.ensures.depth c.requires.nested c.requires.deep c.requires.leaf)

pub pick_onto-requires : goal.pick_onto-requires
pick_onto-requires t c =
    let s : IsOnSide c.self.inside.children.items c.args.digits.now c.child_to-index.result = rw c.deref.ensures.value at c.child_to-index.ensures.side in
    let f : IsFound c.args.self.now c.args.digits.now c.args.ranks.now c.child_to-index.result c.index.result.now
    = found c.self.inside.image.items c.self.inside.children.items c.args.self.now c.args.digits.now c.args.ranks.now c.child_to-index.result c.index.result.now c.self.view_is s.below c.index.ensures c.requires.nested c.requires.deep c.requires.leaf (side-begins c.self.inside.children.items c.args.digits.now c.child_to-index.result c.index.result.now c.index.ensures s) in
    let a : length c.step.new.self.digits ≡ length c.args.taken.now.digits + 1 = ap length c.step.ensures.digits ∙ length-append c.args.taken.now.digits (c.child_to-index.result ∷ []) in
    let b : length c.step.new.self.ranks ≡ length c.args.taken.now.ranks + 1 = ap length c.step.ensures.ranks ∙ length-append c.args.taken.now.ranks (get_or c.args.ranks.now c.depth.result 0 ∷ []) in (
      search rules,
      (f.deep, (f.nested, (f.leaf_below, (c.requires.ranks, (omega (arith, a, c.step.ensures.room, f.lower, c.requires.room), omega (arith, a, b, c.requires.even)))))),
    )

pub returns-else-is_empty : goal.returns-else-is_empty
returns-else-is_empty t c =
    let s : IsOnSide c.self.inside.children.items c.args.digits.now c.child_to-index.result = rw c.deref.ensures.value at c.child_to-index.ensures.side in
    let f : IsFound c.args.self.now c.args.digits.now c.args.ranks.now c.child_to-index.result c.index.result.now
    = found c.self.inside.image.items c.self.inside.children.items c.args.self.now c.args.digits.now c.args.ranks.now c.child_to-index.result c.index.result.now c.self.view_is s.below c.index.ensures c.requires.nested c.requires.deep c.requires.leaf (side-begins c.self.inside.children.items c.args.digits.now c.child_to-index.result c.index.result.now c.index.ensures s) in
    record {
      picks = f.picks c.args.taken.now c.step.new.self c.pick_onto.new.taken c.step.ensures.digits
          (c.step.ensures.ranks ∙ ap (λ (z : ℕ). c.args.taken.now.ranks ++ get_or c.args.ranks.now z 0 ∷ []) c.depth.ensures.depth)
          c.step.ensures.room c.pick_onto.ensures.picks;
    }
