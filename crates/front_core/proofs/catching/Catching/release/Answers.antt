use Rattle.std.proofs.Common.{arith, rules, []}
use Rattle.front_core.proofs.CatchLaws.{more_sent, then_grew}
use Rattle.front_core.proofs.catching.Catching.release.Goals as goal

pub loop-self-preserved : goal.loop-self-preserved
loop-self-preserved g c = record {
  so_far = then_grew _ _ _ [] c.loop-self.invariant.so_far (more_sent _ _ c.loop-self.self.held.items c.bytes_from.result.now c.loop-self.self.sent c.in_ok-count.count (search rules) c.in_ok-count.ensures.appended);
  later = omega (arith, c.loop-self.invariant.later, c.in_ok-count.ensures.later);
}
