use Rattle.sched_run.proofs.Prelude.{ℕ, sym, List, subst, append-nil, on_err_weaker, on_ok_weaker, CutsOff, Tells, Depart, line_of}
use Rattle.sched_run.proofs.report.ReportDepartureRecorder.depart.Goals as goal

pub returns-clause-recorded : goal.returns-clause-recorded
returns-clause-recorded g c =
    let policy = g.C.Scheduler.policy c.args.scheduler.now in
    on_ok_weaker c.depart_line.result (λ told s sound stood bytes any. subst
    (λ (l : List ℕ). Tells g.K.Sink.written c.args.sink.now c.args.self.now c.depart_line.new.sink c.depart_line.new.report l)
    (sym (append-nil (line_of policy c.args.departure.event (Depart c.args.departure.start) s))) (told s sound stood)) c.depart_line.ensures.text

pub returns-clause-cut : goal.returns-clause-cut
returns-clause-cut g c =
    let policy = g.C.Scheduler.policy c.args.scheduler.now in
    on_err_weaker c.depart_line.result (λ cut s sound stood bytes any. subst
    (λ (l : List ℕ). CutsOff g.K.Sink.written c.args.sink.now c.args.self.now c.depart_line.new.sink l)
    (sym (append-nil (line_of policy c.args.departure.event (Depart c.args.departure.start) s))) (cut s sound stood)) c.depart_line.ensures.cut
