use Rattle.std.proofs.Common.{rules}
use Rattle.zovatsemo.proofs.AskedLaws.{answered_by_study}
use Rattle.zovatsemo.proofs.front.run_asked.Goals as goal

pub returns-in-Some-clause-answer : goal.returns-in-Some-clause-answer
returns-in-Some-clause-answer g c =
    answered_by_study (g.S.Shelf.content c.args.shelf.now) _ c.run_study.result (g.K.Sink.written c.args.sink.now) (g.K.Sink.written c.run_study.new.sink)
    c.args.options.now c.in-Some.wanted (search rules) c.run_study.ensures.answer
