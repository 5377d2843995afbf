use Rattle.replay_app.proofs.Prelude.{subst, ℕ, List, ap, ◌∙◌, ◌++◌, err_from_is_err_and, on_ok_weaker, on_err_weaker, appended_nothing, prefix_of_nothing, Appended, AppendedPrefix, soak_line}
use Rattle.replay_app.proofs.soak.write_counts.Goals as goal

pub returns-in_err-put_line-clause-part : goal.returns-in_err-put_line-clause-part
returns-in_err-put_line-clause-part g c =
    let p = err_from_is_err_and c.from_residual.result c.from_residual.ensures.1 in
    rw (p.1) (prefix_of_nothing _ _ _ (appended_nothing (g.K.Sink.written c.args.sink.now)))

pub returns-clause-text : goal.returns-clause-text
returns-clause-text g c =
    let spelt = c.deref.ensures.value ∙ c.in_ok-put_line.ensures ∙ ap (λ (items : List ℕ). items ++ soak_line c.args.counts) c.new-line.ensures.items in
    on_ok_weaker c.write.result (λ text. subst (Appended (g.K.Sink.written c.args.sink.now) (g.K.Sink.written c.write.new.sink)) spelt text) c.write.ensures.text

pub returns-clause-part : goal.returns-clause-part
returns-clause-part g c =
    let spelt = c.deref.ensures.value ∙ c.in_ok-put_line.ensures ∙ ap (λ (items : List ℕ). items ++ soak_line c.args.counts) c.new-line.ensures.items in
    on_err_weaker c.write.result (λ part. subst (AppendedPrefix (g.K.Sink.written c.args.sink.now) (g.K.Sink.written c.write.new.sink)) spelt part) c.write.ensures.part
