use Rattle.std.proofs.Common.{rules}
use Rattle.sched_run.proofs.Prelude.{refl, sym, ◌∙◌, ◌≡◌, shows_none, [], ◌∷◌, None, Some, err_from_is_err_and, Depart, any_bytes, recording_any}
use Rattle.tap_core.proofs.WatchLaws.{shows_idle}
use Rattle.sched_run.proofs.JoinedEvents.{made_departure, made_all}
use Rattle.sched_run.proofs.MadeEvents.{stops_here}
use Rattle.sched_run.proofs.RecordingLaws.{recording-joined}
use Rattle.sched_run.proofs.EventLaws.{makes_departure}
use Rattle.sched_run.proofs.ShownLaws.{shows_departure}
use Rattle.sched_run.proofs.run.Run.depart_next.Goals as goal

pub returns-in-Err-clause-err : goal.returns-in-Err-clause-err
returns-in-Err-clause-err g c =
    let S = g.C.Scheduler in
    let policy = S.policy c.args.self.now.scheduler in
    let e = c.depart-departed.ensures in
    let cut = rw c.in-Err.is at e.cut in
    λ given. record {
      next = record { numbered = tt; sendable = tt };
      stopped = λ s sound stood below. record {
        leaves = made_all S policy (Depart c.args.start ∷ []) (made_departure S policy c.args.start (e.departs.state s sound stood) e.departs.asked.pushes e.departs.asked.departures e.departs.asked.origin e.departs.asked.spilled);
        cut = cut s sound stood;
      };
    }

-- the line is written, but the taps aren't shown the departure
pub returns-in_err-show_departure-in-Ok-Some-clause-err : goal.returns-in_err-show_departure-in-Ok-Some-clause-err
returns-in_err-show_departure-in-Ok-Some-clause-err g c =
    let p = err_from_is_err_and c.from_residual.result c.from_residual.ensures.1 in
    let S = g.C.Scheduler in
    let policy = S.policy c.args.self.now.scheduler in
    let e = c.depart-departed.ensures in
    let recorded = rw c.in-Ok-Some.is at e.recorded in
    rw (p.1) (λ given. stops_here S (recording_any g.W.Recorder) (recording-joined g.W.Recorder g.met.W.Recorder.joined any_bytes) policy (Depart c.args.start ∷ []) _ _ _ _ _ (record { numbered = tt; sendable = tt })
    (λ s sound stood below. record {
      leaves = made_departure S policy c.args.start (e.departs.state s sound stood) e.departs.asked.pushes e.departs.asked.departures e.departs.asked.origin e.departs.asked.spilled;
      recorded = recorded s sound stood;
    }))

-- no tap watches
pub returns-then-is_empty-clause-ok : goal.returns-then-is_empty-clause-ok
returns-then-is_empty-clause-ok g c =
    let S = g.C.Scheduler in
    let policy = S.policy c.args.self.now.scheduler in
    let e = c.depart-departed.ensures in
    let recorded = rw c.in-Ok-Some.is at e.recorded in
    λ given. makes_departure S (recording_any g.W.Recorder) policy c.args.start _ _ refl refl refl
    (λ s sound stood below. shows_idle _ _ _ _ (search (rules, c.if-is_empty.true)))
    (λ s sound stood below. record {
      leaves = made_departure S policy c.args.start (e.departs.state s sound stood) e.departs.asked.pushes e.departs.asked.departures e.departs.asked.origin e.departs.asked.spilled;
      recorded = recorded s sound stood;
    })

pub returns-in_ok-show_departure-in-Ok-Some-clause-ok : goal.returns-in_ok-show_departure-in-Ok-Some-clause-ok
returns-in_ok-show_departure-in-Ok-Some-clause-ok g c =
    let S = g.C.Scheduler in
    let policy = S.policy c.args.self.now.scheduler in
    let e = c.depart-departed.ensures in
    let is : c.in-Ok-Some.field-0 ≡ Some c.in-Ok-Some.left = rw c.in-Ok-Some.is at c.in-Ok-Some.field-0-is in
    let recorded = rw c.in-Ok-Some.is at e.recorded in
    λ given. makes_departure S (recording_any g.W.Recorder) policy c.args.start _ _ refl refl refl
    (λ s sound stood below. shows_departure policy s c.args.start (Some c.in-Ok-Some.left) _ _ (sym is ∙ (rw c.in-Ok-Some.is at (e.departs.value s sound stood))) c.in_ok-show_departure-in-Ok-Some.ensures.shown)
    (λ s sound stood below. record {
      leaves = made_departure S policy c.args.start (e.departs.state s sound stood) e.departs.asked.pushes e.departs.asked.departures e.departs.asked.origin e.departs.asked.spilled;
      recorded = recorded s sound stood;
    })

pub returns-in-Ok-None-clause-ok : goal.returns-in-Ok-None-clause-ok
returns-in-Ok-None-clause-ok g c =
    let S = g.C.Scheduler in
    let policy = S.policy c.args.self.now.scheduler in
    let e = c.depart-departed.ensures in
    let is : c.in-Ok-None.field-0 ≡ None = rw c.in-Ok-None.is at c.in-Ok-None.field-0-is in
    let recorded = rw c.in-Ok-None.is at e.recorded in
    λ given. makes_departure S (recording_any g.W.Recorder) policy c.args.start _ _ refl refl refl
    (λ s sound stood below. shows_departure policy s c.args.start None _ _ (sym is ∙ (rw c.in-Ok-None.is at (e.departs.value s sound stood))) (shows_none _))
    (λ s sound stood below. record {
      leaves = made_departure S policy c.args.start (e.departs.state s sound stood) e.departs.asked.pushes e.departs.asked.departures e.departs.asked.origin e.departs.asked.spilled;
      recorded = recorded s sound stood;
    })
