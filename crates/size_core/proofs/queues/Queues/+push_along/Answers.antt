use Rattle.size_core.proofs.QueueLaws.{along_push}
use Rattle.size_core.proofs.queues.Queues.+push_along.Goals as goal

pub returns-in_ok-push_along-in-len1-up-clause-ok : goal.returns-in_ok-push_along-in-len1-up-clause-ok
returns-in_ok-push_along-in-len1-up-clause-ok t c s has =
    along_push c.args.self.now.limits c.push_at.new.self.limits c.args.event c.args.packet c.args.ranks.now c.args.hops.now _ s c.push_along.new.self c.push_at.ensures.limits c.in-len1-up.len_at_least
    (c.in_ok-push_along-in-len1-up.ensures.ok _ (c.in_ok-push_at-in-len1-up.ensures.ok s has))
