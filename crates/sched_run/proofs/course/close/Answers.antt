use Rattle.sched_run.proofs.Prelude.{ℕ, List, subst, [], append-nil, sink-then, appended_in_turn, IsCut, Appended, IsCut-append, text_of, totals_line}
use Rattle.sched_run.proofs.StepLaws.{if_ok_turned, on_err_turned}
use Rattle.sched_run.proofs.course.close.Goals as goal

pub returns-clause-ok : goal.returns-clause-ok
returns-clause-ok g c =
    let text = text_of (g.K.Sink.written c.args.sink.now) c.args.report.now in
    if_ok_turned c.finish.result _ _ (λ _ whole. subst (Appended text (g.K.Sink.written c.finish.new.sink)) (append-nil (totals_line c.args.totals c.args.ending))
    (appended_in_turn text _ (g.K.Sink.written c.finish.new.sink) _ [] c.in_ok-last.ensures.ok whole)) c.finish.ensures.whole

pub returns-clause-cut : goal.returns-clause-cut
returns-clause-cut g c =
    let text = text_of (g.K.Sink.written c.args.sink.now) c.args.report.now in
    on_err_turned c.finish.result _ _ (λ cut. subst (λ (l : List ℕ). IsCut text l (g.K.Sink.written c.finish.new.sink)) (append-nil (totals_line c.args.totals c.args.ending))
    (IsCut-append text _ (g.K.Sink.written c.finish.new.sink) _ [] c.in_ok-last.ensures.ok cut)) c.finish.ensures.cut

pub returns-clause-kept : goal.returns-clause-kept
returns-clause-kept g c = sink-then _ _ _ _ _ c.in_ok-last.ensures.kept c.finish.ensures.kept
