use Rattle.embed_core.proofs.Prelude.{arith, ◌+◌, refl, ◌≤◌, enough-fits, enough, levels_of}
use Rattle.embed_core.proofs.TargetArities.{wide}
use Rattle.embed_core.proofs.LeastHeights.{goes_on, stops, next-carried, few-carried}
use Rattle.embed_core.proofs.needs.least_above.Goals as goal
use Rattle.embed_core.proofs.needs.least_above.Goals.{then-carried-gt1, else-carried-gt1+then-not-are_below}

pub overflow_add-nodes : goal.overflow_add-nodes
overflow_add-nodes c =
    omega (arith, few-carried (levels_of c.args.target.now) c.args.needs.now c.loop-carried.height c.count_of.result (wide c.args.target.now c.requires.range) c.count_of.ensures.count)

pub overflow_add-height : goal.overflow_add-height
overflow_add-height c =
    let l : c.loop-carried.height + 1 ≤ enough c.args.needs.now = goes_on (levels_of c.args.target.now) c.args.needs.now c.loop-carried.height (wide c.args.target.now c.requires.range)
    (λ f. elim c.if-carried-gt1.branch [ then-carried-gt1 w ↦ omega (arith, f.0) | else-carried-gt1+then-not-are_below w ↦ cc (w.if-not-are_below.ensures.below.1 f.1) ])
    c.loop-carried.invariant.least (enough c.args.needs.now) (enough-fits (levels_of c.args.target.now) c.args.needs.now (wide c.args.target.now c.requires.range)) in
    omega arith

pub loop-carried-smaller : goal.loop-carried-smaller
loop-carried-smaller c =
    let l : c.loop-carried.height + 1 ≤ enough c.args.needs.now = goes_on (levels_of c.args.target.now) c.args.needs.now c.loop-carried.height (wide c.args.target.now c.requires.range)
    (λ f. elim c.if-carried-gt1.branch [ then-carried-gt1 w ↦ omega (arith, f.0) | else-carried-gt1+then-not-are_below w ↦ cc (w.if-not-are_below.ensures.below.1 f.1) ])
    c.loop-carried.invariant.least (enough c.args.needs.now) (enough-fits (levels_of c.args.target.now) c.args.needs.now (wide c.args.target.now c.requires.range)) in
    omega arith

pub loop-carried-preserved : goal.loop-carried-preserved
loop-carried-preserved c = record {
  counted = next-carried (levels_of c.args.target.now) c.args.needs.now c.loop-carried.height c.count_of.result c.arity.result c.div_ceil-carried.result c.count_of.ensures.count c.arity.ensures (rw c.loop-carried.invariant.counted at c.div_ceil-carried.ensures);
  least = goes_on (levels_of c.args.target.now) c.args.needs.now c.loop-carried.height (wide c.args.target.now c.requires.range)
      (λ f. elim c.if-carried-gt1.branch [ then-carried-gt1 w ↦ omega (arith, f.0) | else-carried-gt1+then-not-are_below w ↦ cc (w.if-not-are_below.ensures.below.1 f.1) ])
      c.loop-carried.invariant.least;
}

pub returns : goal.returns
returns c = record { least = stops (levels_of c.args.target.now) c.args.needs.now c.loop-carried.height (wide c.args.target.now c.requires.range) (omega arith) (c.if-not-are_below.ensures.below.0 refl) c.loop-carried.invariant.least }
