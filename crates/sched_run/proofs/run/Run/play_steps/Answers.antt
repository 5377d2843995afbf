use Rattle.sched_run.proofs.Prelude.{arith, refl, ◌≤◌, length, ◌<◌, suc, add-one, drop, drop-cons, err_from_is_err_and, counts_of, sink-then, sink-same, script_agenda, recording, event_of}
use Rattle.std.proofs.Math.ListN.{drop_of_length-le}
use Rattle.sched_run.proofs.FrameLaws.{continues_then, keeps_then}
use Rattle.events_core.specs.declared.step.Step.TheVariants.{Arrive}
use Rattle.sched_run.proofs.StepLaws.{if_ok_turned, on_err_given}
use Rattle.sched_run.proofs.AgendaLaws.{run_none, run_over, run_stops_amid, run_goes, run_ends, run_stops, run_ready, run_room}
use Rattle.sched_run.proofs.CourseLaws.{short_step, step_goes, step_ends, step_stops, no_step}
use Rattle.sched_run.proofs.RecordingLaws.{recording-joined, recording_gives, turns_so, amid_so}
use Rattle.events_core.specs.Script.{most_count}
use Rattle.sched_run.proofs.run.Run.play_steps.Goals as goal

pub loop-step-init : goal.loop-step-init
loop-step-init g c = record {
  run = run_none g.C.Scheduler (recording g.W.Recorder (g.P.Packets.captures c.args.packets.now c.args.source.now)) (recording-joined g.W.Recorder g.met.W.Recorder.joined (g.P.Packets.captures c.args.packets.now c.args.source.now)) (g.C.Scheduler.policy c.args.self.now.scheduler) (script_agenda (g.C.Scheduler.policy c.args.self.now.scheduler) c.args.steps.now) (counts_of c.args.steps.now) _ _ _ _ _ _ _ _;
  further = record { ready = c.requires.begins.feeds.ready; known = λ bytes are. are; given = refl; few = c.requires.begins.counts.few };
  kept = record { policy = refl; origin = refl; names = refl; version = refl; room = refl };
  fewer = omega arith;
  kept_sink = sink-same _ _ _;
  kept_packets = record { policy = refl; later = omega arith };
  live = c.requires.set.live;
}

pub play_step-requires-clause-stands : goal.play_step-requires-clause-stands
play_step-requires-clause-stands g c =
    let S = g.C.Scheduler in
    let i = c.loop-step.invariant in
    rw i.kept.policy (run_ready S (recording g.W.Recorder (g.P.Packets.captures c.args.packets.now c.args.source.now)) (recording-joined g.W.Recorder g.met.W.Recorder.joined (g.P.Packets.captures c.args.packets.now c.args.source.now)) (S.policy c.args.self.now.scheduler) c.requires.set.accepted _ _ _ _ _ _ _ _ i.further.given i.further.few c.requires.begins.fresh c.requires.short c.requires.stands i.run)

pub play_step-requires-clause-counts : goal.play_step-requires-clause-counts
play_step-requires-clause-counts g c =
    let S = g.C.Scheduler in
    let i = c.loop-step.invariant in
    record {
      room = run_room S (recording g.W.Recorder (g.P.Packets.captures c.args.packets.now c.args.source.now)) (recording-joined g.W.Recorder g.met.W.Recorder.joined (g.P.Packets.captures c.args.packets.now c.args.source.now)) (S.policy c.args.self.now.scheduler) c.requires.set.accepted _ _ _ _ _ _ _ _ i.further.given i.further.few c.requires.begins.fresh c.requires.short c.requires.stands i.run c.requires.begins.counts;
      short = short_step c.args.steps.now c.loop-step.step-index most_count c.requires.short;
    }

pub returns-in_err-ending-clause-err : goal.returns-in_err-ending-clause-err
returns-in_err-ending-clause-err g c =
    let p = err_from_is_err_and c.from_residual.result c.from_residual.ensures.1 in
    let S = g.C.Scheduler in
    let i = c.loop-step.invariant in
    let below : c.loop-step.step-index < length c.args.steps.now = omega arith in
    let run = rw (drop-cons c.args.steps.now c.loop-step.step-index (Arrive 0) below) at i.run in
    let stop = amid_so g.C.Scheduler (recording_gives g.W.Recorder (g.P.Packets.captures c.loop-step.packets c.loop-step.source) (g.P.Packets.captures c.args.packets.now c.args.source.now) i.further.known) (g.C.Scheduler.policy c.args.self.now.scheduler) _ _ _ _ _ _ (rw i.kept.policy at c.in_err-ending.ensures.err) in
    let rest = drop (suc c.loop-step.step-index) c.args.steps.now in
    rw (p.1) (run_stops S (recording g.W.Recorder (g.P.Packets.captures c.args.packets.now c.args.source.now)) (recording-joined g.W.Recorder g.met.W.Recorder.joined (g.P.Packets.captures c.args.packets.now c.args.source.now)) (S.policy c.args.self.now.scheduler) c.requires.set.accepted _ _ _ _ _ _ _ _ i.further.given run _ _ _
    (step_stops S (recording g.W.Recorder (g.P.Packets.captures c.args.packets.now c.args.source.now)) (S.policy c.args.self.now.scheduler) _ rest _ _ _ _ _ stop))

pub returns-in-Some-clause-ok : goal.returns-in-Some-clause-ok
returns-in-Some-clause-ok g c =
    let S = g.C.Scheduler in
    let i = c.loop-step.invariant in
    let below : c.loop-step.step-index < length c.args.steps.now = omega arith in
    let run = rw (drop-cons c.args.steps.now c.loop-step.step-index (Arrive 0) below) at i.run in
    let turns = turns_so g.C.Scheduler (recording_gives g.W.Recorder (g.P.Packets.captures c.loop-step.packets c.loop-step.source) (g.P.Packets.captures c.args.packets.now c.args.source.now) i.further.known) (g.C.Scheduler.policy c.args.self.now.scheduler) _ _ _ _ _ _ (rw (i.kept.policy, c.in-Some.is) at c.in_ok-ending.ensures.ok) in
    let rest = drop (suc c.loop-step.step-index) c.args.steps.now in
    run_ends S (recording g.W.Recorder (g.P.Packets.captures c.args.packets.now c.args.source.now)) (recording-joined g.W.Recorder g.met.W.Recorder.joined (g.P.Packets.captures c.args.packets.now c.args.source.now)) (S.policy c.args.self.now.scheduler) c.requires.set.accepted _ _ _ _ _ _ _ _ i.further.given run _ _
    (step_ends S (recording g.W.Recorder (g.P.Packets.captures c.args.packets.now c.args.source.now)) (S.policy c.args.self.now.scheduler) _ rest _ _ _ _ _ turns)

pub loop-step-preserved : goal.loop-step-preserved
loop-step-preserved g c =
    let S = g.C.Scheduler in
    let i = c.loop-step.invariant in
    let below : c.loop-step.step-index < length c.args.steps.now = omega arith in
    let run = rw (drop-cons c.args.steps.now c.loop-step.step-index (Arrive 0) below) at i.run in
    let e = c.in_ok-ending.ensures in
    let turns = turns_so g.C.Scheduler (recording_gives g.W.Recorder (g.P.Packets.captures c.loop-step.packets c.loop-step.source) (g.P.Packets.captures c.args.packets.now c.args.source.now) i.further.known) (g.C.Scheduler.policy c.args.self.now.scheduler) _ _ _ _ _ _ (rw (i.kept.policy, c.in_default.is) at e.ok) in
    let further = rw c.in_default.is at e.further in
    let rest = drop (suc c.loop-step.step-index) c.args.steps.now in
    record {
      run = rw (add-one c.loop-step.step-index) (run_goes S (recording g.W.Recorder (g.P.Packets.captures c.args.packets.now c.args.source.now)) (recording-joined g.W.Recorder g.met.W.Recorder.joined (g.P.Packets.captures c.args.packets.now c.args.source.now)) (S.policy c.args.self.now.scheduler) c.requires.set.accepted _ _ _ _ _ _ _ _ i.further.given run _ _ _ _
          (step_goes S (recording g.W.Recorder (g.P.Packets.captures c.args.packets.now c.args.source.now)) (S.policy c.args.self.now.scheduler) _ rest _ _ _ _ turns));
      further = record { ready = further.ready; known = λ bytes are. further.known bytes (i.further.known bytes are); given = omega (arith, i.further.given, further.given); few = further.few };
      kept = continues_then S _ _ _ i.kept e.keeps.kept;
      fewer = omega (arith, i.fewer, e.keeps.fewer);
      kept_sink = sink-then _ _ _ _ _ i.kept_sink e.keeps.kept_sink;
      kept_packets = keeps_then g.P.Packets _ _ _ _ _ _ i.kept_packets e.keeps.kept_packets;
      live = e.keeps.live;
    }

pub returns-clause-ok : goal.returns-clause-ok
returns-clause-ok g c =
    let S = g.C.Scheduler in
    let i = c.loop-step.invariant in
    let all : length c.args.steps.now ≤ c.loop-step.step-index = omega arith in
    let run = rw (drop_of_length-le c.args.steps.now all) at i.run in
    if_ok_turned c.count_unsent.result _ _ (λ e ends. run_over S (recording g.W.Recorder (g.P.Packets.captures c.args.packets.now c.args.source.now)) (recording-joined g.W.Recorder g.met.W.Recorder.joined (g.P.Packets.captures c.args.packets.now c.args.source.now)) (S.policy c.args.self.now.scheduler) _ _ _ _ _ _ e _ _ _ _ _ _ _ _ _ run (no_step (S.policy c.args.self.now.scheduler) e (event_of c.loop-step.self.tally) _ ends)) c.count_unsent.ensures.told

pub returns-clause-err : goal.returns-clause-err
returns-clause-err g c =
    let S = g.C.Scheduler in
    let i = c.loop-step.invariant in
    on_err_given c.count_unsent.result _ (run_stops_amid S (recording g.W.Recorder (g.P.Packets.captures c.args.packets.now c.args.source.now)) (recording-joined g.W.Recorder g.met.W.Recorder.joined (g.P.Packets.captures c.args.packets.now c.args.source.now)) (S.policy c.args.self.now.scheduler) _ _ _ _ _ _ _ _ _ c.loop-step.self.recorder _ _ _ _ i.run)
