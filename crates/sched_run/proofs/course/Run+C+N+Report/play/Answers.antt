use Rattle.sched_run.proofs.Prelude.{arith, ◌∙◌, err_from_is_err_and, course_of}
use Rattle.sched_run.proofs.TotalLaws.{has_totals}
use Rattle.sched_run.proofs.ReportLaws.{heard_lines, lines_heard, amid_heard, runs_heard, breaks_heard, watched}
use Rattle.sched_run.proofs.course.Run+C+N+Report.play.Goals as goal

pub returns-in_err-played-clause-err : goal.returns-in_err-played-clause-err
returns-in_err-played-clause-err g c =
    let p = err_from_is_err_and c.from_residual.result c.from_residual.ensures.1 in
    let S = g.C.Scheduler in
    let policy = S.policy c.args.self.now.scheduler in
    rw (p.1) (amid_heard S (g.P.Packets.captures c.args.packets.now c.args.source.now) policy (course_of policy c.args.pace) _ (g.met.P.Packets.there c.args.packets.now c.args.source.now) _ _ _ _ (omega (arith, c.new-self.ensures.none_came, c.new-self.ensures.none_asked)) c.in_err-played.ensures.err)

pub totals-totals-requires : goal.totals-totals-requires
totals-totals-requires g c =
    let S = g.C.Scheduler in
    let policy = S.policy c.args.self.now.scheduler in
    let e = c.in_ok-played.ensures in
    let courses = rw c.in-Some.is at e.ok in
    let held = rw e.keeps.kept.policy at (c.held-held.ensures c.play_events.new.under) in
    has_totals S (heard_lines (g.P.Packets.captures c.args.packets.now c.args.source.now)) (lines_heard (g.P.Packets.captures c.args.packets.now c.args.source.now)) policy c.requires.set.accepted courses.events _ _ c.held-first.result c.held-held.result c.requires.stands c.new-self.ensures e.keeps.came courses.made (c.held-first.ensures c.args.under.now) held

pub returns-in_err-close-clause-err : goal.returns-in_err-close-clause-err
returns-in_err-close-clause-err g c =
    let p = err_from_is_err_and c.from_residual-in_err-close.result c.from_residual-in_err-close.ensures.1 in
    let S = g.C.Scheduler in
    let policy = S.policy c.args.self.now.scheduler in
    let e = c.in_ok-played.ensures in
    let courses = rw c.in-Some.is at e.ok in
    let held = rw e.keeps.kept.policy at (c.held-held.ensures c.play_events.new.under) in
    rw (p.1) (breaks_heard S (g.P.Packets.captures c.args.packets.now c.args.source.now) policy (course_of policy c.args.pace) _ (g.met.P.Packets.there c.args.packets.now c.args.source.now) _ c.requires.set.accepted c.in-Some.ending _ c.held-first.result c.held-held.result c.play_events.new.self.version c.totals-totals.result c.new-self.ensures courses
    (c.held-first.ensures c.args.under.now) held c.totals-totals.ensures (e.keeps.kept.version ∙ c.requires.set.version) _ c.in_err-close.ensures.cut)

pub returns-clause-ok : goal.returns-clause-ok
returns-clause-ok g c =
    let S = g.C.Scheduler in
    let policy = S.policy c.args.self.now.scheduler in
    let e = c.in_ok-played.ensures in
    let courses = rw c.in-Some.is at e.ok in
    let held = rw e.keeps.kept.policy at (c.held-held.ensures c.play_events.new.under) in
    runs_heard S (g.P.Packets.captures c.args.packets.now c.args.source.now) policy (course_of policy c.args.pace) _ (g.met.P.Packets.there c.args.packets.now c.args.source.now) _ c.requires.set.accepted c.in-Some.ending _ c.held-first.result c.held-held.result c.play_events.new.self.version c.totals-totals.result c.new-self.ensures courses
    (c.held-first.ensures c.args.under.now) held c.totals-totals.ensures (e.keeps.kept.version ∙ c.requires.set.version) _ c.in_ok-close.ensures.ok

pub returns-clause-watched : goal.returns-clause-watched
returns-clause-watched g c =
    let S = g.C.Scheduler in
    let policy = S.policy c.args.self.now.scheduler in
    let courses = rw c.in-Some.is at c.in_ok-played.ensures.ok in
    watched S (heard_lines (g.P.Packets.captures c.args.packets.now c.args.source.now)) policy (course_of policy c.args.pace) _ c.in-Some.ending _ _ (omega (arith, c.new-self.ensures.none_came, c.new-self.ensures.none_asked)) courses
