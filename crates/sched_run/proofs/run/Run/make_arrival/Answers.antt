use Rattle.sched_run.proofs.Prelude.{ℕ, arith, ◌∙◌, ◌≡◌, refl, sym, List, subst, [], ◌≤◌, ◌∷◌, length, ◌<◌, err_from_is_err_and, Policy, Outcome, class_of, nodes, IsCapturedAs, recording_one, event_of}
use Rattle.sched_defs.specs.Events.{Arrive}
use Rattle.sched_run.proofs.EventLaws.{makes_pushed, makes_dropped}
use Rattle.sched_run.proofs.JoinedEvents.{cut_none, made_arrival, made_all, made_some_none}
use Rattle.sched_run.proofs.LineLaws.{arrives, arrival_few, named_leaf, answer_pushed, answer_dropped, outcome_pushed, outcome_dropped}
use Rattle.sched_run.proofs.RecordingLaws.{recording-joined}
use Rattle.sched_run.proofs.run.Run.make_arrival.Goals as goal

pub returns-in_err-arrival-clause-err : goal.returns-in_err-arrival-clause-err
returns-in_err-arrival-clause-err g c =
    let p = err_from_is_err_and c.from_residual.result c.from_residual.ensures.1 in
    let S = g.C.Scheduler in
    let pushes : S.pushes c.arrive.new.self ≡ S.pushes c.args.self.now.scheduler = omega (arith, c.in_err-arrival.ensures.counts.pushes) in
    rw (p.1) (λ given next. record {
      next = next;
      stopped = λ s sound stood below. record {
        leaves = made_some_none S (S.policy c.args.self.now.scheduler) (Arrive c.args.packet.now ∷ []) s (c.in_err-arrival.ensures.state s sound stood).0
            pushes c.in_err-arrival.ensures.counts.departures c.in_err-arrival.ensures.kept.origin c.in_err-arrival.ensures.spilled;
        cut = cut_none S (recording_one g.W.Recorder c.args.packet.now c.args.captured.now) (recording-joined g.W.Recorder g.met.W.Recorder.joined (IsCapturedAs c.args.packet.now c.args.captured.now)) (S.policy c.args.self.now.scheduler) _ (Arrive c.args.packet.now ∷ []) s c.args.self.now.recorder (g.K.Sink.written c.args.sink.now);
      };
    })

pub name-name-requires : goal.name-name-requires
name-name-requires g c =
    let r = c.requires.stands in
    let policy = g.C.Scheduler.policy c.args.self.now.scheduler in
    let at = arrives policy c.args.packet.now r.state c.requires.set.accepted r.has in
    let a = answer_pushed policy c.args.packet.now r.state c.in-Pushed.leaf (rw c.in-Pushed.is at (c.in_ok-arrival.ensures.answer r.state r.sound r.stood)) in
    let low : c.in-Pushed.leaf < nodes policy.tree = subst (λ (n : ℕ). n < nodes policy.tree) a.leaf_is at.number in
    record { node = subst (λ (q : Policy). c.in-Pushed.leaf < nodes q.tree) (sym c.requires.set.names) low }

pub name-name-requires-in-Dropped : goal.name-name-requires-in-Dropped
name-name-requires-in-Dropped g c =
    let r = c.requires.stands in
    let policy = g.C.Scheduler.policy c.args.self.now.scheduler in
    let at = arrives policy c.args.packet.now r.state c.requires.set.accepted r.has in
    let a = answer_dropped policy c.args.packet.now r.state c.in-Dropped.leaf (rw c.in-Dropped.is at (c.in_ok-arrival.ensures.answer r.state r.sound r.stood)) in
    let low : c.in-Dropped.leaf < nodes policy.tree = subst (λ (n : ℕ). n < nodes policy.tree) a.leaf_is at.number in
    record { node = subst (λ (q : Policy). c.in-Dropped.leaf < nodes q.tree) (sym c.requires.set.names) low }

pub arrived-requires-clause-leaf : goal.arrived-requires-clause-leaf
arrived-requires-clause-leaf g c =
    let r = c.requires.stands in
    let policy = g.C.Scheduler.policy c.args.self.now.scheduler in
    let at = arrives policy c.args.packet.now r.state c.requires.set.accepted r.has in
    let a = answer_pushed policy c.args.packet.now r.state c.in-Pushed.leaf (rw c.in-Pushed.is at (c.in_ok-arrival.ensures.answer r.state r.sound r.stood)) in
    let named = named_leaf policy (g.N.NodeNames.policy c.args.self.now.names) (class_of policy c.args.packet.now).leaf c.in-Pushed.leaf c.name-name.result.now c.requires.set.names at a.leaf_is c.name-name.ensures.name in
    subst (λ (n : List ℕ). length n ≤ 64) (sym named) at.name

pub arrived-requires-clause-few : goal.arrived-requires-clause-few
arrived-requires-clause-few g c =
    let r = c.requires.stands in
    let policy = g.C.Scheduler.policy c.args.self.now.scheduler in
    let ranks = rw c.in-Pushed.is at c.in_ok-arrival.ensures.ranks in
    let same = c.ranks.ensures.ranks ∙ ranks r.state r.sound r.stood in
    subst (λ (n : List ℕ). length n ≤ 65) (sym same) (arrival_few policy c.args.packet.now r.state c.requires.set.accepted r.sound r.has)

pub dropped-requires-clause-leaf : goal.dropped-requires-clause-leaf
dropped-requires-clause-leaf g c =
    let r = c.requires.stands in
    let policy = g.C.Scheduler.policy c.args.self.now.scheduler in
    let at = arrives policy c.args.packet.now r.state c.requires.set.accepted r.has in
    let a = answer_dropped policy c.args.packet.now r.state c.in-Dropped.leaf (rw c.in-Dropped.is at (c.in_ok-arrival.ensures.answer r.state r.sound r.stood)) in
    let named = named_leaf policy (g.N.NodeNames.policy c.args.self.now.names) (class_of policy c.args.packet.now).leaf c.in-Dropped.leaf c.name-name-in-Dropped.result.now c.requires.set.names at a.leaf_is c.name-name-in-Dropped.ensures.name in
    subst (λ (n : List ℕ). length n ≤ 64) (sym named) at.name

pub returns-in_err-arrived-in-Pushed-clause-err : goal.returns-in_err-arrived-in-Pushed-clause-err
returns-in_err-arrived-in-Pushed-clause-err g c =
    let p = err_from_is_err_and c.from_residual-in_err-arrived-in-Pushed.result c.from_residual-in_err-arrived-in-Pushed.ensures.1 in
    let r = c.requires.stands in
    let policy = g.C.Scheduler.policy c.args.self.now.scheduler in
    let at = arrives policy c.args.packet.now r.state c.requires.set.accepted r.has in
    let e = c.in_ok-arrival.ensures in
    let first = answer_pushed policy c.args.packet.now r.state c.in-Pushed.leaf (rw c.in-Pushed.is at (e.answer r.state r.sound r.stood)) in
    let named = named_leaf policy (g.N.NodeNames.policy c.args.self.now.names) (class_of policy c.args.packet.now).leaf c.in-Pushed.leaf c.name-name.result.now c.requires.set.names at first.leaf_is c.name-name.ensures.name in
    let ranks = rw c.in-Pushed.is at e.ranks in
    let cut = c.in_err-arrived-in-Pushed.ensures.cut in
    rw (p.1) (λ given next. record {
      next = next;
      stopped = λ s sound stood below.
          let a = answer_pushed policy c.args.packet.now s c.in-Pushed.leaf (rw c.in-Pushed.is at (e.answer s sound stood)) in
          record {
            leaves = made_all g.C.Scheduler policy (Arrive c.args.packet.now ∷ []) (made_arrival g.C.Scheduler policy c.in_ok-arrival.arrival (e.answer s sound stood) (e.state s sound stood) e.counts.pushes e.counts.departures e.kept.origin (e.spilled s sound stood));
            cut = λ bytes h. subst (λ (os : List Outcome). g.W.Recorder.cuts bytes c.args.self.now.recorder (g.K.Sink.written c.args.sink.now) policy (event_of c.args.self.now.tally) os (g.K.Sink.written c.arrived.new.sink))
                (outcome_pushed policy c.args.packet.now s c.ranks.result.now a.fullness (c.ranks.ensures.ranks ∙ ranks s sound stood))
                (cut bytes policy (class_of policy c.args.packet.now).leaf h named);
          };
    })

pub returns-in_ok-arrived-in-Pushed-clause-ok : goal.returns-in_ok-arrived-in-Pushed-clause-ok
returns-in_ok-arrived-in-Pushed-clause-ok g c =
    let r = c.requires.stands in
    let policy = g.C.Scheduler.policy c.args.self.now.scheduler in
    let at = arrives policy c.args.packet.now r.state c.requires.set.accepted r.has in
    let e = c.in_ok-arrival.ensures in
    let first = answer_pushed policy c.args.packet.now r.state c.in-Pushed.leaf (rw c.in-Pushed.is at (e.answer r.state r.sound r.stood)) in
    let named = named_leaf policy (g.N.NodeNames.policy c.args.self.now.names) (class_of policy c.args.packet.now).leaf c.in-Pushed.leaf c.name-name.result.now c.requires.set.names at first.leaf_is c.name-name.ensures.name in
    let ranks = rw c.in-Pushed.is at e.ranks in
    let told = c.in_ok-arrived-in-Pushed.ensures.ok in
    λ given next. makes_pushed g.C.Scheduler (recording_one g.W.Recorder c.args.packet.now c.args.captured.now) policy c.args.packet.now _ _ next
    (λ s sound stood below. (answer_pushed policy c.args.packet.now s c.in-Pushed.leaf (rw c.in-Pushed.is at (e.answer s sound stood))).fullness)
    refl refl refl refl
    (λ s sound stood below.
    let a = answer_pushed policy c.args.packet.now s c.in-Pushed.leaf (rw c.in-Pushed.is at (e.answer s sound stood)) in
    record {
      leaves = made_arrival g.C.Scheduler policy c.in_ok-arrival.arrival (e.answer s sound stood) (e.state s sound stood) e.counts.pushes e.counts.departures e.kept.origin (e.spilled s sound stood);
      recorded = λ bytes h. subst (λ (os : List Outcome). g.W.Recorder.records bytes c.args.self.now.recorder (g.K.Sink.written c.args.sink.now) policy (event_of c.args.self.now.tally) os c.arrived.new.self (g.K.Sink.written c.arrived.new.sink))
          (outcome_pushed policy c.args.packet.now s c.ranks.result.now a.fullness (c.ranks.ensures.ranks ∙ ranks s sound stood))
          (told bytes policy (class_of policy c.args.packet.now).leaf h named);
    })

pub returns-in_err-dropped-in-Dropped-clause-err : goal.returns-in_err-dropped-in-Dropped-clause-err
returns-in_err-dropped-in-Dropped-clause-err g c =
    let p = err_from_is_err_and c.from_residual-in_err-dropped-in-Dropped.result c.from_residual-in_err-dropped-in-Dropped.ensures.1 in
    let r = c.requires.stands in
    let policy = g.C.Scheduler.policy c.args.self.now.scheduler in
    let at = arrives policy c.args.packet.now r.state c.requires.set.accepted r.has in
    let e = c.in_ok-arrival.ensures in
    let first = answer_dropped policy c.args.packet.now r.state c.in-Dropped.leaf (rw c.in-Dropped.is at (e.answer r.state r.sound r.stood)) in
    let named = named_leaf policy (g.N.NodeNames.policy c.args.self.now.names) (class_of policy c.args.packet.now).leaf c.in-Dropped.leaf c.name-name-in-Dropped.result.now c.requires.set.names at first.leaf_is c.name-name-in-Dropped.ensures.name in
    let cut = c.in_err-dropped-in-Dropped.ensures.cut in
    rw (p.1) (λ given next. record {
      next = next;
      stopped = λ s sound stood below.
          let a = answer_dropped policy c.args.packet.now s c.in-Dropped.leaf (rw c.in-Dropped.is at (e.answer s sound stood)) in
          record {
            leaves = made_all g.C.Scheduler policy (Arrive c.args.packet.now ∷ []) (made_arrival g.C.Scheduler policy c.in_ok-arrival.arrival (e.answer s sound stood) (e.state s sound stood) e.counts.pushes e.counts.departures e.kept.origin (e.spilled s sound stood));
            cut = λ bytes h. subst (λ (os : List Outcome). g.W.Recorder.cuts bytes c.args.self.now.recorder (g.K.Sink.written c.args.sink.now) policy (event_of c.args.self.now.tally) os (g.K.Sink.written c.dropped.new.sink))
                (outcome_dropped policy c.args.packet.now s a.fullness)
                (cut bytes policy (class_of policy c.args.packet.now).leaf named);
          };
    })

pub returns-in_ok-dropped-in-Dropped-clause-ok : goal.returns-in_ok-dropped-in-Dropped-clause-ok
returns-in_ok-dropped-in-Dropped-clause-ok g c =
    let r = c.requires.stands in
    let policy = g.C.Scheduler.policy c.args.self.now.scheduler in
    let at = arrives policy c.args.packet.now r.state c.requires.set.accepted r.has in
    let e = c.in_ok-arrival.ensures in
    let first = answer_dropped policy c.args.packet.now r.state c.in-Dropped.leaf (rw c.in-Dropped.is at (e.answer r.state r.sound r.stood)) in
    let named = named_leaf policy (g.N.NodeNames.policy c.args.self.now.names) (class_of policy c.args.packet.now).leaf c.in-Dropped.leaf c.name-name-in-Dropped.result.now c.requires.set.names at first.leaf_is c.name-name-in-Dropped.ensures.name in
    let told = c.in_ok-dropped-in-Dropped.ensures.ok in
    λ given next. makes_dropped g.C.Scheduler (recording_one g.W.Recorder c.args.packet.now c.args.captured.now) policy c.args.packet.now _ _ c.in-Dropped.leaf first.leaf_is next
    (λ s sound stood below. (answer_dropped policy c.args.packet.now s c.in-Dropped.leaf (rw c.in-Dropped.is at (e.answer s sound stood))).fullness)
    refl refl refl c.show_drop.ensures.shown
    (λ s sound stood below.
    let a = answer_dropped policy c.args.packet.now s c.in-Dropped.leaf (rw c.in-Dropped.is at (e.answer s sound stood)) in
    record {
      leaves = made_arrival g.C.Scheduler policy c.in_ok-arrival.arrival (e.answer s sound stood) (e.state s sound stood) e.counts.pushes e.counts.departures e.kept.origin (e.spilled s sound stood);
      recorded = λ bytes h. subst (λ (os : List Outcome). g.W.Recorder.records bytes c.args.self.now.recorder (g.K.Sink.written c.args.sink.now) policy (event_of c.args.self.now.tally) os c.dropped.new.self (g.K.Sink.written c.dropped.new.sink))
          (outcome_dropped policy c.args.packet.now s a.fullness)
          (told bytes policy (class_of policy c.args.packet.now).leaf named);
    })
