use Rattle.event_json.proofs.Prelude.{[], ◌∙◌, ◌∷◌, ap, sym, subst, on_ok_weaker, Departed, times_of, CountsOutcomes, depart_line}
use Rattle.event_json.proofs.OneLine.{one_line, one_departed}
use Rattle.event_json.proofs.recorder.JsonReportRecorder.departed.Goals as goal

pub returns-clause-ok : goal.returns-clause-ok
returns-clause-ok g c =
    let old = c.args.self.now.counts in
    let rate = c.args.self.now.rate in
    let ranks = c.args.ranks.now in
    on_ok_weaker c.send.result (λ grew bytes policy p a left named.
    one_line c.args.self.now c.send.new.self _ _ policy c.args.event (Departed p a ranks c.args.start) c.departure.new.self
    (c.departure.ensures
    ∙ ap (λ times. depart_line c.args.event c.args.departed.now.packet c.args.leaf.now c.args.departed.now.class c.args.departed.now.len ranks times) c.times-times.ensures
    ∙ ap (λ d. depart_line c.args.event d.packet c.args.leaf.now d.class d.len ranks (times_of rate d.len c.args.start)) left
    ∙ ap (λ name. depart_line c.args.event p.number name p.class p.len ranks (times_of rate p.len c.args.start)) named) c.send.ensures.rate
    (subst (CountsOutcomes old (Departed p a ranks c.args.start ∷ [])) (sym c.send.ensures.counts) (one_departed old c.saturating_add-self.result p a ranks c.args.start c.args.self.now.counted c.saturating_add-self.ensures))
    grew) c.send.ensures.ok
