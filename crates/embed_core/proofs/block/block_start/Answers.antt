use Rattle.embed_core.proofs.Prelude.{◌≡◌, length, arith, sym, ◌∙◌, ap, List, ◌+◌, subst, ℕ, ◌<◌, Global, Vec, replicate, length-replicate, with_items_is, value, down_from, leaves_below, IsWithin, trees_of, levels_of}
use Rattle.embed_core.proofs.TargetArities.{positive}
use Rattle.embed_defs.proofs.LeafNumbers.{value-zeros, zeros-within}
use Rattle.embed_core.proofs.PlacedChildren.{child-lower}
use Rattle.embed_core.proofs.BlockStarts.{start-fits, earlier-below, earlier-counted, later-counted, start-done}
use Rattle.embed_core.proofs.block.block_start.Goals as goal
use Rattle.embed_core.proofs.block.block_start.Goals.{then-comes_before, else-comes_before}

pub loop-index-init : goal.loop-index-init
loop-index-init c =
    let e : c.in_ok-start.start.items ≡ replicate c.args.height 0 = c.in_ok-start.ensures.items_if_clones_equal (λ y p. p) in
    let n : length (replicate c.args.height 0) ≡ c.args.height = length-replicate c.args.height 0 in
    let z : value (levels_of c.args.target.now) c.in_ok-start.start.items ≡ 0 = ap (value (levels_of c.args.target.now)) e ∙ value-zeros (levels_of c.args.target.now) c.args.height in
    record {
      long = ap length e ∙ n;
      within = subst (λ (x : List ℕ). IsWithin (down_from (levels_of c.args.target.now) (length x)) x) (sym e) (subst (λ (x : ℕ). IsWithin (down_from (levels_of c.args.target.now) x) (replicate c.args.height 0)) (sym n) (zeros-within (levels_of c.args.target.now) c.args.height (positive c.args.target.now c.requires.range)));
      counted = omega (arith, z);
    }

pub skip_block-requires-clause-lower : goal.skip_block-requires-clause-lower
skip_block-requires-clause-lower c =
    let l : c.need.result < c.args.height = rw c.need.ensures.need (child-lower c.args.height c.args.siblings.now c.loop-index.index c.index-siblings-index.result c.requires.fits.below c.loop-index-test.true c.index-siblings-index.is) in
    omega (arith, l, c.deref_mut.ensures.value, ap length c.deref_mut.ensures.value, c.loop-index.invariant.long)

pub loop-index-preserved : goal.loop-index-preserved
loop-index-preserved c = elim c.if-comes_before.branch [
  | then-comes_before w ↦
      let n : length w.skip_block.new.digits ≡ length c.loop-index.start.items = w.skip_block.auto.digits ∙ ap length w.deref_mut.ensures.value in
      let below : value (levels_of c.args.target.now) c.loop-index.start.items + leaves_below (levels_of c.args.target.now) c.need.result < leaves_below (levels_of c.args.target.now) c.args.height
      = earlier-below (levels_of c.args.target.now) c.args.height c.loop-index.index c.need.result c.args.siblings.now c.args.child c.index-siblings-index.result c.loop-index-test.true c.index-siblings-index.is c.need.ensures.need
      (value (levels_of c.args.target.now) c.loop-index.start.items) _ c.loop-index.invariant.counted w.if-comes_before.ensures.before
      (start-fits (levels_of c.args.target.now) c.args.height (trees_of c.args.siblings.now) c.args.child (positive c.args.target.now c.requires.range) c.requires.fits c.requires.child) in
      let further : value (levels_of c.args.target.now) w.skip_block.new.digits ≡ value (levels_of c.args.target.now) c.loop-index.start.items + leaves_below (levels_of c.args.target.now) c.need.result
      = (rw (w.deref_mut.ensures.value, c.loop-index.invariant.long) at w.skip_block.ensures.value) below in
      let m : c.if-comes_before.start.items ≡ w.skip_block.new.digits = ap (λ (v : Vec ℕ Global). v.items) w.start-is ∙ with_items_is c.loop-index.start w.skip_block.new.digits (n ∙ sym c.loop-index.start.ok.0) in
      rw m (record {
        long = n ∙ c.loop-index.invariant.long;
        within = w.skip_block.ensures.digits;
        counted = earlier-counted (levels_of c.args.target.now) c.args.height c.loop-index.index c.need.result c.args.siblings.now c.args.child c.index-siblings-index.result c.loop-index-test.true c.index-siblings-index.is c.need.ensures.need
            (value (levels_of c.args.target.now) c.loop-index.start.items) _ c.loop-index.invariant.counted (value (levels_of c.args.target.now) w.skip_block.new.digits) w.if-comes_before.ensures.before further;
      })
  | else-comes_before w ↦ rw w.start-is (record {
    long = c.loop-index.invariant.long;
    within = c.loop-index.invariant.within;
    counted = later-counted (levels_of c.args.target.now) c.args.height c.loop-index.index c.need.result c.args.siblings.now c.args.child c.index-siblings-index.result c.loop-index-test.true c.index-siblings-index.is c.need.ensures.need
        (value (levels_of c.args.target.now) c.loop-index.start.items) _ c.loop-index.invariant.counted w.if-comes_before.ensures.before;
  })
]

pub returns : goal.returns
returns c = record { start = start-done (levels_of c.args.target.now) c.args.height c.loop-index.index c.args.siblings.now c.args.child c.loop-index.start.items _ c.loop-index.invariant.long c.loop-index.invariant.within c.loop-index-test.false c.loop-index.invariant.counted }
