use Rattle.library_tests.proofs.Exchanges.{never_full}
use Rattle.library_tests.proofs.fabrics.fill.Goals as goal

pub arrive_both-requires-clause-unlimited : goal.arrive_both-requires-clause-unlimited
arrive_both-requires-clause-unlimited g c = never_full c.args.policy.now.policy c.requires.plain
