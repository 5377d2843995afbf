use Rattle.pcapng_core.proofs.Prelude.{arith, ◌+◌, ◌-◌, common_steps, passes-more, held, rest_of}
use Rattle.pcapng_core.proofs.OptionReads.{passes-as}
use Rattle.pcapng_core.proofs.OptionSteps.{same-more, unit-ends, unit-gives, unit-few}
use Rattle.pcapng_core.proofs.options.read_unit.Goals as goal

pub returns-in-Ends-clause-unit : goal.returns-in-Ends-clause-unit
returns-in-Ends-clause-unit g c =
    unit-ends c.args.big c.args.count c.loop-rest.rest c.in-Ends.behind _ _ c.loop-rest.invariant.unit (rw c.in-Ends.is at c.in_ok-behind.ensures.step)

pub returns-in-Gives-clause-unit : goal.returns-in-Gives-clause-unit
returns-in-Gives-clause-unit g c =
    unit-gives c.args.big c.args.count c.loop-rest.rest c.in-Gives.behind c.in-Gives.unit _ _ c.loop-rest.invariant.unit (rw c.in-Gives.is at c.in_ok-behind.ensures.step)

pub loop-rest-preserved : goal.loop-rest-preserved
loop-rest-preserved g c =
    let old = rest_of (held c.args.window.now) (g.S.Shelf.left c.args.shelf.now) in
    let mid = rest_of (held c.loop-rest.window) (g.S.Shelf.left c.loop-rest.shelf) in
    let new = rest_of (held c.read_option.new.window) (g.S.Shelf.left c.read_option.new.shelf) in
    let less = rw c.in-Passes.is at c.in_ok-behind.ensures.bound in
    let passed = rw c.in-Passes.is at c.in_ok-behind.ensures.passed in
    let stands = rw c.in-Passes.is at c.in_ok-behind.ensures.step in
    record {
      passed = passes-as (c.args.count - c.loop-rest.rest + (c.loop-rest.rest - c.in-Passes.behind)) _ old new
          (omega (arith, less, c.loop-rest.invariant.bound))
          (passes-more (c.args.count - c.loop-rest.rest) (c.loop-rest.rest - c.in-Passes.behind) old mid new c.loop-rest.invariant.passed passed);
      bound = omega (arith, less, c.loop-rest.invariant.bound);
      unit = same-more c.args.big c.args.count c.loop-rest.rest c.in-Passes.behind old mid new c.loop-rest.invariant.unit (omega (arith, less)) passed stands;
      serves = grind (arith, common_steps);
    }

pub returns-clause-unit : goal.returns-clause-unit
returns-clause-unit g c =
    unit-few c.args.big c.args.count c.loop-rest.rest _ _ c.loop-rest.invariant.unit c.loop-rest-test.false
