use Rattle.size_core.proofs.QueueLaws.{along_pop}
use Rattle.size_core.proofs.queues.Queues.+pop_along.Goals as goal

pub returns-in-len1-up-clause-ok : goal.returns-in-len1-up-clause-ok
returns-in-len1-up-clause-ok t c s has = along_pop c.args.hops.now _ s c.pop_along.new.self c.in-len1-up.len_at_least (c.pop_along.ensures.ok _ (c.pop_at.ensures.ok s has))
