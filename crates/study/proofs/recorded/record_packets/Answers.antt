use Rattle.study.proofs.Prelude.{arith, err_from_is_err_and, left_of, captures_of, there}
use Rattle.sched_capture.proofs.FromStart.{stand_at_start}
use Rattle.study.proofs.RecordedRuns.{recorded_whole, cut_amid}
use Rattle.study.proofs.recorded.record_packets.Goals as goal

pub play_events-requires-clause-stands : goal.play_events-requires-clause-stands
play_events-requires-clause-stands g c =
    let r = c.requires.start in
    stand_at_start g.C.Scheduler.stands _ c.args.policy.now.policy _ _ _ r.policy_is (rw r.policy_is at r.set.accepted) r.stands

pub returns-in_err-played-clause-part : goal.returns-in_err-played-clause-part
returns-in_err-played-clause-part g c =
    let p = err_from_is_err_and c.from_residual.result c.from_residual.ensures.1 in
    let r = c.requires.start in
    let packets = c.args.packets.now in
    let file = g.S.Shelf.left c.args.shelf.now in
    rw p.1 (cut_amid g.C.Scheduler g.W.Recorder g.met.W.Recorder.joined (captures_of packets file) c.args.policy.now.policy (rw r.policy_is at r.set.accepted) c.args.pace _ (omega (arith, c.requires.fresh.none_came, c.requires.fresh.none_asked)) r.stands
    (left_of packets file) (there packets file) _ _ _ (rw r.policy_is at c.in_err-played.ensures.err))

pub returns-clause-whole : goal.returns-clause-whole
returns-clause-whole g c =
    let r = c.requires.start in
    let packets = c.args.packets.now in
    let file = g.S.Shelf.left c.args.shelf.now in
    recorded_whole g.C.Scheduler g.W.Recorder g.met.W.Recorder.joined (captures_of packets file) c.args.policy.now.policy (rw r.policy_is at r.set.accepted) c.args.pace _ (omega (arith, c.requires.fresh.none_came, c.requires.fresh.none_asked)) r.stands
    (left_of packets file) (there packets file) _ _ c.in_ok-played.ensures.keeps.live (rw r.policy_is at (rw c.in-Some.is at c.in_ok-played.ensures.ok))
