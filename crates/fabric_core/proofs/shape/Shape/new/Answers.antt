use Rattle.fabric_core.proofs.Prelude.{ℕ, arith, ◌+◌, ◌*◌, get_or, length, sym, subst, refl}
use Rattle.embed_defs.proofs.LeafCounts.{counted_next, few_wide}
use Rattle.fabric_core.proofs.ChildSteps.{IsLevel, next_level, more_children}
use Rattle.fabric_core.proofs.shape.Shape.new.Goals as goal

pub add_children-requires : goal.add_children-requires
add_children-requires c =
    let l = c.loop-arity in
    let ds = c.args.arities.now in
    record {
      small = omega (
        arith,
        c.requires.target.few,
        c.requires.target.levels,
        c.loop-arity-test.true,
        l.invariant.few,
        few_wide ds l.arity-index l.width c.requires.target.narrow l.invariant.leaves,
        few_wide ds (l.arity-index + 1) (l.width * get_or ds l.arity-index 0) c.requires.target.narrow (counted_next ds l.arity-index l.width c.loop-arity-test.true l.invariant.leaves),
      );
    }

pub overflow_mul-width : goal.overflow_mul-width
overflow_mul-width c =
    let l = c.loop-arity in
    let ds = c.args.arities.now in
    omega (arith, c.requires.target.few, few_wide ds (l.arity-index + 1) (l.width * get_or ds l.arity-index 0) c.requires.target.narrow (counted_next ds l.arity-index l.width c.loop-arity-test.true l.invariant.leaves))

pub loop-arity-preserved : goal.loop-arity-preserved
loop-arity-preserved c =
    let l = c.loop-arity in
    let ds = c.args.arities.now in
    let added = c.in_ok-add_children.ensures in
    let begin = length l.children.items in
    record {
      level = subst (λ (z : ℕ). IsLevel ds (l.arity-index + 1) z (l.width * get_or ds l.arity-index 0)) (sym added.long) (next_level ds l.arity-index begin l.width c.loop-arity-test.true l.invariant.level);
      before = λ n m. more_children ds l.arity-index begin l.width c.loop-arity-test.true l.invariant.level l.children.items c.add_children.new.children.items refl l.invariant.before added.kept added.added n (omega (arith, m, added.long));
      leaves = counted_next ds l.arity-index l.width c.loop-arity-test.true l.invariant.leaves;
      few = omega (arith, added.long, l.invariant.few, c.requires.target.few, few_wide ds l.arity-index l.width c.requires.target.narrow l.invariant.leaves);
    }
