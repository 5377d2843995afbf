use Rattle.sched_capture.proofs.Prelude.{IsRefusalPart, one_link_in}
use Rattle.sched_capture.proofs.ForwardRefusals.{of_file, part_of_file}
use Rattle.sched_capture.proofs.departures.begin_one_link.Goals as goal

pub returns-in-Ok-clause-part : goal.returns-in-Ok-clause-part
returns-in-Ok-clause-part g c =
    of_file c.begin_packets.result (g.S.Shelf.content c.args.shelf.now c.args.capture.now) _ (λ file. IsRefusalPart (one_link_in file) (g.K.Sink.written c.args.sink.now) (g.K.Sink.written _)) c.in-Ok.ensures.opens
    (rw c.in-Ok.ensures.unwritten at c.begin_packets.ensures.part)

pub returns-in-Err-clause-part : goal.returns-in-Err-clause-part
returns-in-Err-clause-part g c =
    part_of_file c.in-Err.answer (g.S.Shelf.content c.args.shelf.now c.args.capture.now) (g.K.Sink.written c.args.sink.now) (g.K.Sink.written c.begin.new.sink) c.in-Err.ensures.part
