use Rattle.event_json.proofs.Prelude.{[], ◌∙◌, ◌∷◌, ap, sym, subst, on_ok_weaker, Dropped, CountsOutcomes, drop_line}
use Rattle.event_json.proofs.OneLine.{one_line, one_dropped}
use Rattle.event_json.proofs.recorder.JsonReportRecorder.dropped.Goals as goal

pub returns-clause-ok : goal.returns-clause-ok
returns-clause-ok g c =
    let p = c.args.packet.now in
    let old = c.args.self.now.counts in
    on_ok_weaker c.send.result (λ grew bytes policy a named.
    one_line c.args.self.now c.send.new.self _ _ policy c.args.event (Dropped p a) c.dropped.new.self
    (c.dropped.ensures ∙ ap (λ name. drop_line c.args.event p.number name p.class p.len p.moment) named) c.send.ensures.rate
    (subst (CountsOutcomes old (Dropped p a ∷ [])) (sym c.send.ensures.counts) (one_dropped old c.saturating_add-self.result p a c.args.self.now.counted c.saturating_add-self.ensures))
    grew) c.send.ensures.ok
