use Rattle.sched_capture.proofs.Prelude.{sink-same}
use Rattle.sched_capture.proofs.Refusals.{refusal_told, refused_part, none_told}
use Rattle.sched_capture.proofs.capture.begin.Goals as goal

pub returns-in-Ok-clause-kept : goal.returns-in-Ok-clause-kept
returns-in-Ok-clause-kept g c = sink-same g.K.Sink.written g.K.Sink.faults c.args.sink.now

pub returns-in-Err-Fault-clause-refused : goal.returns-in-Err-Fault-clause-refused
returns-in-Err-Fault-clause-refused g c =
    let e = c.refuse.ensures in
    refusal_told c.in-Err-Fault.code c.in-Err-Fault.place _ _ _ (g.S.Shelf.content c.args.shelf.now c.args.capture.now) e.ending (rw c.in-Err-Fault.field-0-is at c.in-Err-Fault.ensures.refuses) e.text

pub returns-in-Err-Fault-clause-part : goal.returns-in-Err-Fault-clause-part
returns-in-Err-Fault-clause-part g c =
    refused_part c.in-Err-Fault.code c.in-Err-Fault.place _ _ _ (g.S.Shelf.content c.args.shelf.now c.args.capture.now) (rw c.in-Err-Fault.field-0-is at c.in-Err-Fault.ensures.refuses) c.refuse.ensures.part

pub returns-in-Err-Source-clause-part : goal.returns-in-Err-Source-clause-part
returns-in-Err-Source-clause-part g c = none_told (g.S.Shelf.content c.args.shelf.now c.args.capture.now) (g.K.Sink.written c.args.sink.now)

pub returns-in-Err-Memory-clause-part : goal.returns-in-Err-Memory-clause-part
returns-in-Err-Memory-clause-part g c = none_told (g.S.Shelf.content c.args.shelf.now c.args.capture.now) (g.K.Sink.written c.args.sink.now)
