use Rattle.embed_core.proofs.Prelude.{◌≡◌, length, arith, sym, ◌∙◌, ap, ◌≤◌, take, is_behind}
use Rattle.embed_core.proofs.ImageOrders.{behind-drop, behind-more, behind-other, behind-none}
use Rattle.embed_core.proofs.order.root_is_behind.Goals as goal

pub loop-place-init : goal.loop-place-init
loop-place-init c =
    let e : take c.args.depth c.root-image.result.now ≡ take c.args.depth c.args.digits.now = ap (take c.args.depth) c.root-image.ensures.root ∙ c.requires.above.same in
    behind-drop c.args.depth c.root-image.result.now c.args.digits.now e

pub loop-place-preserved : goal.loop-place-preserved
loop-place-preserved c =
    let n : length c.root-image.result.now ≤ length c.args.digits.now = omega (arith, c.requires.above.short, ap length c.root-image.ensures.root) in
    behind-more c.loop-place.place c.root-image.result.now c.args.digits.now c.loop-place-test.true n c.if-image-place.false c.loop-place.invariant

pub returns-then-image-place : goal.returns-then-image-place
returns-then-image-place c =
    let n : length c.root-image.result.now ≤ length c.args.digits.now = omega (arith, c.requires.above.short, ap length c.root-image.ensures.root) in
    record {
      behind = behind-other c.loop-place.place c.root-image.result.now c.args.digits.now c.loop-place-test.true n c.if-image-place.true c.loop-place.invariant
          ∙ ap (λ z. is_behind z c.args.digits.now) c.root-image.ensures.root;
    }

pub returns : goal.returns
returns c = record {
  behind = sym (behind-none c.loop-place.place c.root-image.result.now c.args.digits.now c.loop-place-test.false c.loop-place.invariant)
      ∙ ap (λ z. is_behind z c.args.digits.now) c.root-image.ensures.root;
}
