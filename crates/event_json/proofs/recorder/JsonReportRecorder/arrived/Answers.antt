use Rattle.event_json.proofs.Prelude.{[], ◌∙◌, ◌∷◌, ap, sym, subst, Arrived, CountsOutcomes, arrive_line}
use Rattle.event_json.proofs.OneLine.{one_line, one_arrived}
use Rattle.event_json.proofs.recorder.JsonReportRecorder.arrived.Goals as goal

pub returns-clause-ok : goal.returns-clause-ok
returns-clause-ok g c bytes policy a same named =
    let p = c.args.packet.now in
    let old = c.args.self.now.counts in
    let o = Arrived p a c.args.ranks.now in
    one_line c.args.self.now c.send.new.self _ _ policy c.args.event o c.arrival.new.self
    (c.arrival.ensures ∙ ap (λ name. arrive_line c.args.event p.number name p.class p.len p.moment c.args.ranks.now) named) c.send.ensures.rate
    (subst (CountsOutcomes old (o ∷ [])) (sym c.send.ensures.counts) (one_arrived old c.saturating_add-self.result p a c.args.ranks.now c.args.self.now.counted c.saturating_add-self.ensures))
    c.in_ok-send.ensures.ok
