use Rattle.std.proofs.Common.{rules}
use Rattle.zovatsemo.proofs.AskedLaws.{answered_by_upgrade}
use Rattle.zovatsemo.proofs.front.front_run.Goals as goal

pub returns-in-Some-clause-answer : goal.returns-in-Some-clause-answer
returns-in-Some-clause-answer g c =
    answered_by_upgrade (g.S.Shelf.content c.args.shelf.now) _ c.upgrade.result (g.K.Sink.written c.args.sink.now) (g.K.Sink.written c.upgrade.new.sink)
    c.args.options.now c.in-Some.policy (search rules) c.upgrade.ensures.answer
