use Rattle.std.proofs.Common.{arith}
use Rattle.outside_core.proofs.WrittenLaws.{appended_one_more_piece}
use Rattle.outside_core.proofs.sinks.write_all.Goals as goal

pub loop-rest-preserved : goal.loop-rest-preserved
loop-rest-preserved g c = record {
  so_far = appended_one_more_piece _ _ _ _ _ _ c.loop-rest.invariant.so_far c.in_ok-count.ensures.appended;
  later = omega (arith, c.loop-rest.invariant.later, c.in_ok-count.ensures.later);
}
