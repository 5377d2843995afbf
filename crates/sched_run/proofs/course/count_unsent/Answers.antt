use Rattle.std.proofs.Common.{[], ◌∷◌, ◌++◌, ◌∙◌, arith, length-append}
use Rattle.sched_run.proofs.PacketsInTurn.{came_both}
use Rattle.sched_run.proofs.course.count_unsent.Goals as goal

pub loop-unsent-preserved : goal.loop-unsent-preserved
loop-unsent-preserved g c =
    let i = c.loop-unsent.invariant in
    let e = c.in-Ok-true.ensures in
    let ps = i.came.0 in
    let one = e.came c.in-Ok-true.field-0-test in
    record {
      came = (ps ++ one.0 ∷ [], omega (arith, length-append ps (one.0 ∷ []), i.came.1), came_both _ _ _ ps (one.0 ∷ []) i.came.2 one.1);
      few = omega (arith, i.few, rw c.in-Ok-true.field-0-test at e.moves.given);
      ready = e.moves.ready;
      kept = record { policy = e.policy ∙ i.kept.policy; later = omega (arith, i.kept.later, e.source.later) };
    }
