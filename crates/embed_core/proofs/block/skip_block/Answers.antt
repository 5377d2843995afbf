use Rattle.embed_core.proofs.Prelude.{◌≡◌, length, arith, ◌+◌, ◌-◌, levels_of}
use Rattle.embed_core.proofs.TargetArities.{wide, narrow}
use Rattle.embed_core.proofs.NextBlocks.{digit-fits, set-within, raised, carried_on}
use Rattle.embed_core.proofs.block.skip_block.Goals as goal

pub overflow_add-digits : goal.overflow_add-digits
overflow_add-digits c =
    let e : (length c.args.digits.now - 1 - c.loop-level.level) + c.loop-level.level + 1 ≡ length c.loop-level.digits = omega arith in
    omega (arith, digit-fits (levels_of c.args.target.now) c.loop-level.digits (length c.args.digits.now - 1 - c.loop-level.level) c.loop-level.level e c.loop-level.invariant.within, narrow c.args.target.now c.requires.range c.loop-level.level)

pub returns-then-digits-place-clause-digits : goal.returns-then-digits-place-clause-digits
returns-then-digits-place-clause-digits c =
    let e : (length c.args.digits.now - 1 - c.loop-level.level) + c.loop-level.level + 1 ≡ length c.loop-level.digits = omega arith in
    set-within (levels_of c.args.target.now) c.loop-level.digits (length c.args.digits.now - 1 - c.loop-level.level) c.loop-level.level e c.loop-level.invariant.within _ (omega (arith, c.arity.ensures, c.if-digits-place.true))

pub returns-then-digits-place-clause-value : goal.returns-then-digits-place-clause-value
returns-then-digits-place-clause-value c l =
    let e : (length c.args.digits.now - 1 - c.loop-level.level) + c.loop-level.level + 1 ≡ length c.loop-level.digits = omega arith in
    omega (arith, c.loop-level.invariant.further, raised (levels_of c.args.target.now) c.loop-level.digits (length c.args.digits.now - 1 - c.loop-level.level) c.loop-level.level e c.loop-level.invariant.within)

pub loop-level-preserved : goal.loop-level-preserved
loop-level-preserved c =
    let e : (length c.args.digits.now - 1 - c.loop-level.level) + c.loop-level.level + 1 ≡ length c.loop-level.digits = omega arith in
    record {
      within = set-within (levels_of c.args.target.now) c.loop-level.digits (length c.args.digits.now - 1 - c.loop-level.level) c.loop-level.level e c.loop-level.invariant.within 0 (omega (arith, wide c.args.target.now c.requires.range c.loop-level.level));
      further = omega (arith, c.loop-level.invariant.further, carried_on (levels_of c.args.target.now) c.loop-level.digits (length c.args.digits.now - 1 - c.loop-level.level) c.loop-level.level e c.loop-level.invariant.within (omega (arith, c.arity.ensures, c.if-digits-place.false)));
    }
