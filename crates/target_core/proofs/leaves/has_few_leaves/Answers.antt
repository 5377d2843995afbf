use Rattle.std.proofs.Common.{arith}
use Rattle.std.proofs.lemmas.Bool.{false≢true}
use Rattle.std.proofs.Math.Nat.{mul-le-mul_left}
use Rattle.embed_defs.proofs.LeafCounts.{narrow_at, counted_next, too_many}
use Rattle.target_core.proofs.leaves.has_few_leaves.Goals as goal

pub overflow_mul-count : goal.overflow_mul-count
overflow_mul-count c =
    let narrow = narrow_at c.args.arities.now c.loop-arity.arity-index 0 c.requires c.loop-arity-test.true in
    omega (arith, mul-le-mul_left c.loop-arity.count narrow.1, c.loop-arity.invariant.few)

pub returns-then-count-gt-MOST_LEAVES : goal.returns-then-count-gt-MOST_LEAVES
returns-then-count-gt-MOST_LEAVES c =
    let many = too_many c.args.arities.now c.loop-arity.arity-index c.loop-arity.count 65536 c.requires c.loop-arity-test.true c.loop-arity.invariant.counted c.if-count-gt-MOST_LEAVES.true in
    ((λ no. absurd (false≢true no)), (λ few. absurd (omega (arith, many, few))))

pub loop-arity-preserved : goal.loop-arity-preserved
loop-arity-preserved c = record {
  counted = counted_next c.args.arities.now c.loop-arity.arity-index c.loop-arity.count c.loop-arity-test.true c.loop-arity.invariant.counted;
  few = omega arith;
}
