use Rattle.std.proofs.Common.{◌≡◌, Option, ℕ, [], ◌∷◌, ◌++◌, take, decimal, ap, ◌∙◌, rules, sym}
use Rattle.std.proofs.lemmas.List.{with_items_is}
use Rattle.outside_core.specs.Report.{departure_line, ranks_text}
use Rattle.report_core.proofs.LineTexts.{five_words, six_words}
use Rattle.report_core.proofs.report.Report.departed.Given.{Over}
use Rattle.report_core.proofs.report.Report.departed.Goals.{in-Some, in_default}
use Rattle.report_core.proofs.report.Report.departed.Goals as goal

-- the bytes held, and the line after them
text : (g : Over) (c : goal.After-close g) → take c.put_array-end.result c.put_array-end.new.line
    ≡ take c.self.inside.buffer.held c.self.inside.buffer.bytes.items ++ departure_line c.args.event c.args.packet c.args.leaf.now c.args.ranks.now c.args.start
text g c =
    let before = take c.self.inside.buffer.held c.self.inside.buffer.bytes.items in
    let leaf = c.args.leaf.now in
    let ranks = ranks_text c.args.ranks.now in
    let head : take c.put_ranks-end.result c.put_ranks-end.new.line
    ≡ before ++ 100 ∷ 32 ∷ [] ++ decimal c.args.event ++ 32 ∷ [] ++ decimal c.args.packet ++ 32 ∷ [] ++ leaf ++ 32 ∷ [] ++ ranks =
    c.put_ranks-end.ensures.text
    ∙ ap (λ s. s ++ 32 ∷ [] ++ ranks) (c.put_name-ranks_at.ensures.text
    ∙ ap (λ s. s ++ c.args.leaf.now) (c.put_next-leaf_at.ensures.text
    ∙ ap (λ s. s ++ decimal c.args.packet ++ 32 ∷ []) (c.put_next-packet_at.ensures.text
    ∙ ap (λ s. s ++ decimal c.args.event ++ 32 ∷ []) (c.put_array-event_at.ensures.text
    ∙ ap (λ l. take c.self.inside.buffer.held l ++ 100 ∷ 32 ∷ []) c.as_mut_slice-line.ensures.value)))) in
    let line : take c.match-start.end c.match-start.line ++ 10 ∷ [] ≡ before ++ departure_line c.args.event c.args.packet c.args.leaf.now c.args.ranks.now c.args.start =
    elim c.match-start.branch [
      | in-Some w ↦ rw (w.end-is, w.line-is)
          (ap (λ s. s ++ 10 ∷ []) (w.put_start-end.ensures.text ∙ ap (λ s. s ++ 32 ∷ [] ++ decimal w.in-Some.start) head)
          ∙ six_words before (decimal c.args.event) (decimal c.args.packet) leaf ranks (decimal w.in-Some.start) 100
          ∙ ap (λ (start : Option ℕ). before ++ departure_line c.args.event c.args.packet leaf c.args.ranks.now start) (sym w.in-Some.is))
      | in_default w ↦ rw (w.end-is, w.line-is)
          (ap (λ s. s ++ 10 ∷ []) head
          ∙ five_words before (decimal c.args.event) (decimal c.args.packet) leaf ranks 100
          ∙ ap (λ (start : Option ℕ). before ++ departure_line c.args.event c.args.packet leaf c.args.ranks.now start) (sym w.in_default.is))
    ] in
    c.put_array-end.ensures.text ∙ line

pub returns-clause-ok : goal.returns-clause-ok
returns-clause-ok g c =
    rw (← c.self.view_is) (c.close.ensures.ok (take c.self.inside.buffer.held c.self.inside.buffer.bytes.items) (departure_line c.args.event c.args.packet c.args.leaf.now c.args.ranks.now c.args.start)
    (ap (take c.put_array-end.result) (with_items_is c.self.inside.buffer.bytes c.put_array-end.new.line (search rules)) ∙ text g c))

pub returns-clause-cut : goal.returns-clause-cut
returns-clause-cut g c =
    rw (← c.self.view_is) (c.close.ensures.cut (take c.self.inside.buffer.held c.self.inside.buffer.bytes.items) (departure_line c.args.event c.args.packet c.args.leaf.now c.args.ranks.now c.args.start)
    (ap (take c.put_array-end.result) (with_items_is c.self.inside.buffer.bytes c.put_array-end.new.line (search rules)) ∙ text g c))
