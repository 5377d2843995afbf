use Rattle.std.proofs.lemmas.Option.{IfSome_then}
use Rattle.study.proofs.Prelude.{refl, err_from_is_err_and, paced_answer, pace_of, Fits, topology_of}
use Rattle.embed_defs.proofs.EmbeddedMaps.{embeddings_are_good_maps}
use Rattle.sched_capture.specs.Placements.{laid_by}
use Rattle.size_core.specs.contracts.recorder.SizingRecorder.TheImpl.{ghosts}
use Rattle.study.proofs.ResultLaws.{refused_out, stopped_out, unwritten_out}
use Rattle.study.proofs.SizeLaws.{sizes_closed, size_statuses}
use Rattle.study.proofs.views.view_sizes.Goals as goal

pub new-requires-clause-good : goal.new-requires-clause-good
new-requires-clause-good g c =
    let laid = c.args.laid.now in
    let placed = c.map.ensures.placed in
    rw (c.target.ensures.target, c.map.ensures.map) (embeddings_are_good_maps laid.target.arities (topology_of laid.policy.policy.tree) laid.map placed.map_shape placed.embedding)

pub returns-in_err-recorded-clause-answer : goal.returns-in_err-recorded-clause-answer
returns-in_err-recorded-clause-answer g c =
    let p = err_from_is_err_and c.from_residual-in_err-recorded.result c.from_residual-in_err-recorded.ensures.1 in
    rw (p.1) (IfSome_then (g.S.Shelf.content c.args.shelf.now c.args.task.now.capture.now) (rw c.policy-policy.ensures.policy at c.in_err-recorded.ensures.part) (λ file part. stopped_out _ _ _ (paced_answer c.args.laid.now.policy (pace_of c.args.task.now.pace) file) ghosts _ c.args.laid.now.policy.policy (λ captured a b os cut. cut) _ _ _ _ refl part))

pub returns-in_err-sizes-in-Whole-clause-answer : goal.returns-in_err-sizes-in-Whole-clause-answer
returns-in_err-sizes-in-Whole-clause-answer g c =
    let p = err_from_is_err_and c.from_residual-in_err-sizes-in-Whole.result c.from_residual-in_err-sizes-in-Whole.ensures.1 in
    rw (p.1) (IfSome_then (g.S.Shelf.content c.args.shelf.now c.args.task.now.capture.now) (rw c.in-Whole.is at c.in_ok-recorded.ensures.recorded) (λ file run. unwritten_out _ _ _ _ _ _ _ run.recorded.1.unwritten))

pub returns-in_ok-sizes-in-Whole-clause-answer : goal.returns-in_ok-sizes-in-Whole-clause-answer
returns-in_ok-sizes-in-Whole-clause-answer g c =
    let laid = c.args.laid.now in
    let placed = c.map.ensures.placed in
    let same = c.policy-policy.ensures.policy in
    let fits : Fits (laid_by laid) laid.policy.policy = record { good = embeddings_are_good_maps laid.target.arities (topology_of laid.policy.policy.tree) laid.map placed.map_shape placed.embedding; shape = placed.map_shape } in
    let told = c.tell_sizes.ensures in
    IfSome_then (g.S.Shelf.content c.args.shelf.now c.args.task.now.capture.now) (rw same at (rw c.in-Whole.is at c.in_ok-recorded.ensures.recorded)) (λ file run. sizes_closed c.args.form c.args.measure.now (laid_by laid) laid.policy.policy _ _ (rw same at c.accept.ensures.accepted) fits
    (rw (same, c.map.ensures.map, c.target.ensures.target) at c.in_ok-sizing.ensures.unused) _ _ _ c.tell_sizes.result _ _ _ run c.in_ok-sizes-in-Whole.ensures.sizes told.status told.text told.part)

pub returns-in_ok-sizes-in-Whole-clause-statuses : goal.returns-in_ok-sizes-in-Whole-clause-statuses
returns-in_ok-sizes-in-Whole-clause-statuses g c =
    size_statuses c.args.task.now.pace c.in-Whole.ending _ c.tell_sizes.result (rw c.in-Whole.is at c.in_ok-recorded.ensures.ends) c.tell_sizes.ensures.status

pub returns-in-Refused-clause-answer : goal.returns-in-Refused-clause-answer
returns-in-Refused-clause-answer g c =
    rw (c.of_run.ensures) (IfSome_then (g.S.Shelf.content c.args.shelf.now c.args.task.now.capture.now) (rw c.policy-policy.ensures.policy at (rw c.in-Refused.is at c.in_ok-recorded.ensures.recorded)) (λ file run. refused_out _ _ _ _ _ _ _ run))
