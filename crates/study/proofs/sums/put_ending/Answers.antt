use Rattle.study.proofs.Prelude.{sink-same, appended_nothing}
use Rattle.study.proofs.sums.put_ending.Goals as goal

pub returns-in-Whole-clause-ok : goal.returns-in-Whole-clause-ok
returns-in-Whole-clause-ok g c = rw c.in-Whole.is (appended_nothing _)

pub returns-in-Whole-clause-kept : goal.returns-in-Whole-clause-kept
returns-in-Whole-clause-kept g c = sink-same g.K.Sink.written g.K.Sink.faults c.args.sink.now
