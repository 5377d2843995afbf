use Rattle.event_json.proofs.Prelude.{[], ◌∷◌, sym, subst, on_ok_weaker, Empty, CountsOutcomes}
use Rattle.event_json.proofs.OneLine.{one_line, one_empty}
use Rattle.event_json.proofs.recorder.JsonReportRecorder.empty.Goals as goal

pub returns-clause-ok : goal.returns-clause-ok
returns-clause-ok g c =
    let old = c.args.self.now.counts in
    on_ok_weaker c.send.result (λ grew bytes policy.
    one_line c.args.self.now c.send.new.self _ _ policy c.args.event Empty c.empty.new.self c.empty.ensures c.send.ensures.rate
    (subst (CountsOutcomes old (Empty ∷ [])) (sym c.send.ensures.counts) (one_empty old c.saturating_add-self.result c.args.self.now.counted c.saturating_add-self.ensures))
    grew) c.send.ensures.ok
