use Rattle.std.proofs.Common.{rules}
use Rattle.zovatsemo.proofs.AskedLaws.{answered_in_queues, answered_on_stores}
use Rattle.zovatsemo.proofs.front.run_words.Goals as goal

pub returns-in-Ok-clause-answer : goal.returns-in-Ok-clause-answer
returns-in-Ok-clause-answer g c =
    answered_on_stores (g.S.Shelf.content c.args.shelf.now) _ c.run_blocks.result (g.K.Sink.written c.args.sink.now) (g.K.Sink.written c.run_blocks.new.sink)
    c.args.options.now (search rules) c.run_blocks.ensures.answer

pub returns-in-Ok-new-clause-answer : goal.returns-in-Ok-new-clause-answer
returns-in-Ok-new-clause-answer g c =
    answered_in_queues (g.S.Shelf.content c.args.shelf.now) _ c.run_queues.result (g.K.Sink.written c.args.sink.now) (g.K.Sink.written c.run_queues.new.sink)
    c.args.options.now (search rules) c.run_queues.ensures.answer
