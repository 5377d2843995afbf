use Rattle.sched_run.proofs.Prelude.{ℕ, None, ◌∙◌, refl, sym, List, subst, ap, Some, ◌≤◌, length, ◌<◌, err_from_is_err_and, Departed, Policy, nodes, CutsOff, Tells, Depart, line_of}
use Rattle.sched_run.specs.declared.departure.Departure.{Departure}
use Rattle.sched_run.proofs.DepartureLaws.{departs}
use Rattle.sched_run.proofs.LineLaws.{Left, left, ranks_left, line_left, named_leaf}
use Rattle.sched_run.proofs.report.depart_line.Goals as goal

pub name-leaf-requires : goal.name-leaf-requires
name-leaf-requires g c =
    let r = c.requires.can.stands in
    let policy = g.C.Scheduler.policy c.args.scheduler.now in
    let h : Left policy r.state c.in-Some.departed = left policy r.state c.in-Some.departed c.requires.can.accepted r.sound (c.in-Some.ensures.departs r.state r.sound r.stood).value in
    let low : c.in-Some.departed.leaf < nodes policy.tree = subst (λ (z : Departed). z.leaf < nodes policy.tree) h.told h.leaf_is.number in
    record { node = subst (λ (q : Policy). c.in-Some.departed.leaf < nodes q.tree) (sym c.requires.can.names) low }

pub departed-requires-clause-leaf : goal.departed-requires-clause-leaf
departed-requires-clause-leaf g c =
    let r = c.requires.can.stands in
    let policy = g.C.Scheduler.policy c.args.scheduler.now in
    let h : Left policy r.state c.in-Some.departed = left policy r.state c.in-Some.departed c.requires.can.accepted r.sound (c.in-Some.ensures.departs r.state r.sound r.stood).value in
    let named = named_leaf policy (g.N.NodeNames.policy c.args.names.now) h.leaver_is.digits c.in-Some.departed.leaf c.name-leaf.result.now c.requires.can.names h.leaf_is (ap (λ (z : Departed). z.leaf) h.told) c.name-leaf.ensures.name in
    subst (λ (n : List ℕ). length n ≤ 64) (sym named) h.leaf_is.name

pub departed-requires-clause-few : goal.departed-requires-clause-few
departed-requires-clause-few g c =
    let r = c.requires.can.stands in
    let policy = g.C.Scheduler.policy c.args.scheduler.now in
    let h : Left policy r.state c.in-Some.departed = left policy r.state c.in-Some.departed c.requires.can.accepted r.sound (c.in-Some.ensures.departs r.state r.sound r.stood).value in
    let same = c.ranks.ensures.ranks ∙ ranks_left policy r.state c.in-Some.departed c.depart.new.trace h (c.in-Some.ensures.departs r.state r.sound r.stood).taken in
    subst (λ (n : List ℕ). length n ≤ 65) (sym same) h.ranks

pub returns-in_err-departed-in-Some-clause-cut : goal.returns-in_err-departed-in-Some-clause-cut
returns-in_err-departed-in-Some-clause-cut g c =
    let p = err_from_is_err_and c.from_residual.result c.from_residual.ensures.1 in
    let policy = g.C.Scheduler.policy c.args.scheduler.now in
    rw (p.1) (λ s sound stood.
    let h : Left policy s c.in-Some.departed = left policy s c.in-Some.departed c.requires.can.accepted sound (c.in-Some.ensures.departs s sound stood).value in
    let named = named_leaf policy (g.N.NodeNames.policy c.args.names.now) h.leaver_is.digits c.in-Some.departed.leaf c.name-leaf.result.now c.requires.can.names h.leaf_is (ap (λ (z : Departed). z.leaf) h.told) c.name-leaf.ensures.name in
    let same = c.ranks.ensures.ranks ∙ ranks_left policy s c.in-Some.departed c.depart.new.trace h (c.in-Some.ensures.departs s sound stood).taken in
    let given = c.into_departure-event.result in
    let line = line_left policy s c.in-Some.departed given.event c.name-leaf.result.now c.ranks.result.now given.start h named same in
    subst (λ (d : Departure). CutsOff g.K.Sink.written c.args.sink.now c.args.report.now c.departed.new.sink (line_of policy d.event (Depart d.start) s)) c.into_departure-event.ensures
    (subst (λ (l : List ℕ). CutsOff g.K.Sink.written c.args.sink.now c.args.report.now c.departed.new.sink l) line c.in_err-departed-in-Some.ensures.cut))

pub returns-in_ok-departed-in-Some-clause-text : goal.returns-in_ok-departed-in-Some-clause-text
returns-in_ok-departed-in-Some-clause-text g c =
    let policy = g.C.Scheduler.policy c.args.scheduler.now in
    λ s sound stood.
    let h : Left policy s c.in-Some.departed = left policy s c.in-Some.departed c.requires.can.accepted sound (c.in-Some.ensures.departs s sound stood).value in
    let named = named_leaf policy (g.N.NodeNames.policy c.args.names.now) h.leaver_is.digits c.in-Some.departed.leaf c.name-leaf.result.now c.requires.can.names h.leaf_is (ap (λ (z : Departed). z.leaf) h.told) c.name-leaf.ensures.name in
    let same = c.ranks.ensures.ranks ∙ ranks_left policy s c.in-Some.departed c.depart.new.trace h (c.in-Some.ensures.departs s sound stood).taken in
    let given = c.into_departure-event.result in
    let line = line_left policy s c.in-Some.departed given.event c.name-leaf.result.now c.ranks.result.now given.start h named same in
    subst (λ (d : Departure). Tells g.K.Sink.written c.args.sink.now c.args.report.now c.departed.new.sink c.departed.new.self (line_of policy d.event (Depart d.start) s)) c.into_departure-event.ensures
    (subst (λ (l : List ℕ). Tells g.K.Sink.written c.args.sink.now c.args.report.now c.departed.new.sink c.departed.new.self l) line c.in_ok-departed-in-Some.ensures.ok)

pub returns-in_err-departed-in-Some-clause-departs : goal.returns-in_err-departed-in-Some-clause-departs
returns-in_err-departed-in-Some-clause-departs g c =
    let e = c.in-Some.ensures in
    let p = err_from_is_err_and c.from_residual.result c.from_residual.ensures.1 in
    rw (p.1) (departs g.C.Scheduler c.args.scheduler.now c.depart.new.self c.args.under.now c.depart.new.under c.args.trace.now c.depart.new.trace (Some c.in-Some.departed) _ tt e.state e.departs e.trace
    (record { pushes = e.counts.pushes; departures = e.counts.departures; policy = e.kept.policy; origin = e.kept.origin; spilled = e.spilled }))

pub returns-in_err-empty-in-None-clause-departs : goal.returns-in_err-empty-in-None-clause-departs
returns-in_err-empty-in-None-clause-departs g c =
    let e = c.in-None.ensures in
    let p = err_from_is_err_and c.from_residual-in_err-empty-in-None.result c.from_residual-in_err-empty-in-None.ensures.1 in
    rw (p.1) (departs g.C.Scheduler c.args.scheduler.now c.depart.new.self c.args.under.now c.depart.new.under c.args.trace.now c.depart.new.trace None _ tt e.state e.departs e.trace
    (record { pushes = e.counts.pushes; departures = e.counts.departures; policy = e.kept.policy; origin = e.kept.origin; spilled = e.spilled }))

pub returns-in_ok-departed-in-Some-clause-departs : goal.returns-in_ok-departed-in-Some-clause-departs
returns-in_ok-departed-in-Some-clause-departs g c =
    let e = c.in-Some.ensures in
    departs g.C.Scheduler c.args.scheduler.now c.depart.new.self c.args.under.now c.depart.new.under c.args.trace.now c.depart.new.trace (Some c.in-Some.departed) _ refl e.state e.departs e.trace
    (record { pushes = e.counts.pushes; departures = e.counts.departures; policy = e.kept.policy; origin = e.kept.origin; spilled = e.spilled })

pub returns-in_ok-empty-in-None-clause-departs : goal.returns-in_ok-empty-in-None-clause-departs
returns-in_ok-empty-in-None-clause-departs g c =
    let e = c.in-None.ensures in
    departs g.C.Scheduler c.args.scheduler.now c.depart.new.self c.args.under.now c.depart.new.under c.args.trace.now c.depart.new.trace None _ refl e.state e.departs e.trace
    (record { pushes = e.counts.pushes; departures = e.counts.departures; policy = e.kept.policy; origin = e.kept.origin; spilled = e.spilled })
