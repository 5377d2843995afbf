use Rattle.size_core.proofs.Prelude.{◌≡◌, ◌∙◌, ℕ, length, ap, subst, refl, Option, passed_at, rank_on, value_on, first_of, pushed, Has, Passed}
use Rattle.size_core.proofs.QueueLaws.{after_push}
use Rattle.size_core.proofs.queues.Queues.push_at.Goals as goal

pub returns-clause-ok : goal.returns-clause-ok
returns-clause-ok c s has =
    let q = c.args.self.now in
    let h = c.args.hop.now in
    let ranks = c.args.ranks.now in
    let checked : c.check.result ≡ passed_at q.limits c.args.event c.args.packet h.node (length c.index.result.now.queue.entries) (rank_on ranks h)
    = c.check.ensures
    ∙ ap (λ (n : ℕ). passed_at q.limits c.args.event c.args.packet h.node n c.rank_on-rank.result) c.len-len.ensures
    ∙ ap (λ (r : ℕ). passed_at q.limits c.args.event c.args.packet h.node (length c.index.result.now.queue.entries) r) c.rank_on-rank.ensures in
    after_push q _ s c.args.event c.args.packet ranks h c.index.result.now c.index_mut.result.now c.push.new.self has c.requires.inside c.index.ensures c.index_mut.ensures.value refl
    (c.first_of-self.ensures ∙ ap (λ (o : Option Passed). first_of q.passed o) checked)
    (λ u had. subst (λ (r : ℕ). Has c.push.new.self (pushed r (value_on c.args.packet h) u)) c.rank_on-rank.ensures
    (subst (λ (v : ℕ). Has c.push.new.self (pushed c.rank_on-rank.result v u)) c.value_on.ensures (c.in_ok-push.ensures.pushed u had)))
