use Rattle.mapcheck_core.proofs.Prelude.{arith, ◌<◌, topology, nodes}
use Rattle.mapcheck_core.proofs.NumberLaws.{span_low}
use Rattle.mapcheck_core.proofs.check.first_pair.Goals as goal

pub first_broken-requires-clause-small : goal.first_broken-requires-clause-small
first_broken-requires-clause-small c =
    let inside : c.loop-first.first < nodes (topology c.args.topo.now) = omega arith in
    omega (arith, c.span.ensures.span, c.requires.few, span_low (topology c.args.topo.now) c.loop-first.first inside)
