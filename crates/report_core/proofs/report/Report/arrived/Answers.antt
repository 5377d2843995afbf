use Rattle.std.proofs.Common.{◌≡◌, [], ◌∷◌, ◌++◌, take, decimal, ap, ◌∙◌, rules}
use Rattle.std.proofs.lemmas.List.{with_items_is}
use Rattle.outside_core.specs.Report.{arrival_line, ranks_text}
use Rattle.report_core.proofs.LineTexts.{five_words}
use Rattle.report_core.proofs.report.Report.arrived.Given.{Over}
use Rattle.report_core.proofs.report.Report.arrived.Goals as goal

-- the bytes held, and the line after them
text : (g : Over) (c : goal.After-close g) → take c.put_array-end.result c.put_array-end.new.line
    ≡ take c.self.inside.buffer.held c.self.inside.buffer.bytes.items ++ arrival_line c.args.event c.args.packet c.args.leaf.now c.args.ranks.now
text g c =
    let ranks = ranks_text c.args.ranks.now in
    c.put_array-end.ensures.text
    ∙ ap (λ s. s ++ 10 ∷ []) (c.put_ranks-ranks_end.ensures.text
    ∙ ap (λ s. s ++ 32 ∷ [] ++ ranks) (c.put_name-ranks_at.ensures.text
    ∙ ap (λ s. s ++ c.args.leaf.now) (c.put_next-leaf_at.ensures.text
    ∙ ap (λ s. s ++ decimal c.args.packet ++ 32 ∷ []) (c.put_next-packet_at.ensures.text
    ∙ ap (λ s. s ++ decimal c.args.event ++ 32 ∷ []) (c.put_array-event_at.ensures.text
    ∙ ap (λ l. take c.self.inside.buffer.held l ++ 97 ∷ 32 ∷ []) c.as_mut_slice-line.ensures.value)))))
    ∙ five_words (take c.self.inside.buffer.held c.self.inside.buffer.bytes.items) (decimal c.args.event) (decimal c.args.packet) c.args.leaf.now ranks 97

pub returns-clause-ok : goal.returns-clause-ok
returns-clause-ok g c =
    rw (← c.self.view_is) (c.close.ensures.ok (take c.self.inside.buffer.held c.self.inside.buffer.bytes.items) (arrival_line c.args.event c.args.packet c.args.leaf.now c.args.ranks.now)
    (ap (take c.put_array-end.result) (with_items_is c.self.inside.buffer.bytes c.put_array-end.new.line (search rules)) ∙ text g c))

pub returns-clause-cut : goal.returns-clause-cut
returns-clause-cut g c =
    rw (← c.self.view_is) (c.close.ensures.cut (take c.self.inside.buffer.held c.self.inside.buffer.bytes.items) (arrival_line c.args.event c.args.packet c.args.leaf.now c.args.ranks.now)
    (ap (take c.put_array-end.result) (with_items_is c.self.inside.buffer.bytes c.put_array-end.new.line (search rules)) ∙ text g c))
