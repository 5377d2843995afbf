use Rattle.std.proofs.Common.{rules}
use Rattle.zovatsemo.proofs.StoppedLaws.{answered_so, same_form}
use Rattle.zovatsemo.proofs.front.run_queues.Goals as goal

pub returns-in-Ok-clause-answer : goal.returns-in-Ok-clause-answer
returns-in-Ok-clause-answer g c =
    answered_so (g.S.Shelf.content c.args.shelf.now) _ c.run_to.result (g.K.Sink.written c.args.sink.now) (g.K.Sink.written c.run_to.new.sink) _ _
    (same_form c.deref.result.now c.in-Ok.words.items c.args.options.now (search rules) c.in-Ok.ensures) (λ contents told. (c.run_to.ensures.told contents told).answer)
