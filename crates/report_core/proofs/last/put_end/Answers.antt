use Rattle.std.proofs.Common.{◌++◌, take, decimal, codes, ap, ◌∙◌}
use Rattle.report_core.proofs.LineTexts.{end_words}
use Rattle.report_core.proofs.last.put_end.Goals as goal

pub returns-clause-text : goal.returns-clause-text
returns-clause-text c =
    c.put_array.ensures.text
    ∙ end_words c.args.dropped c.args.pushed c.args.popped c.args.empty c.args.held c.args.unsent (take c.args.at c.args.line.now) _ _
    (c.put_count-unsent_end.ensures.text
    ∙ ap (λ s. s ++ codes " unsent " ++ decimal c.args.unsent) (c.put_count-held_end.ensures.text
    ∙ ap (λ s. s ++ codes " held " ++ decimal c.args.held) (c.put_count-empty_end.ensures.text
    ∙ ap (λ s. s ++ codes " empty " ++ decimal c.args.empty) (c.put_count-popped_end.ensures.text
    ∙ ap (λ s. s ++ codes " popped " ++ decimal c.args.popped) (c.put_count-pushed_end.ensures.text
    ∙ ap (λ s. s ++ codes " pushed " ++ decimal c.args.pushed) c.put_bytes-word_end.ensures.text)))))
    c.put_dropped-end.ensures.text
