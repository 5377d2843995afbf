use Rattle.sched_capture.proofs.Prelude.{on_err_weaker, sink-same, one_link_in}
use Rattle.sched_capture.proofs.Refusals.{told_part, none_part}
use Rattle.sched_capture.proofs.departures.begin_packets.Goals as goal

pub returns-in-Err-Fault-clause-part : goal.returns-in-Err-Fault-clause-part
returns-in-Err-Fault-clause-part g c =
    let refuses = rw c.in-Err-Fault.field-0-is at c.in-Err-Fault.ensures.refuses in
    on_err_weaker c.refuse.result (λ part file opens. told_part (one_link_in file) _ _ _ (refuses file opens) part) c.refuse.ensures.part

pub returns-in-Err-Source-clause-part : goal.returns-in-Err-Source-clause-part
returns-in-Err-Source-clause-part g c = λ file opens. none_part (one_link_in file) (g.K.Sink.written c.args.sink.now)

pub returns-in-Err-Memory-clause-part : goal.returns-in-Err-Memory-clause-part
returns-in-Err-Memory-clause-part g c = λ file opens. none_part (one_link_in file) (g.K.Sink.written c.args.sink.now)

pub returns-in-Ok-clause-kept : goal.returns-in-Ok-clause-kept
returns-in-Ok-clause-kept g c = sink-same g.K.Sink.written g.K.Sink.faults c.args.sink.now
