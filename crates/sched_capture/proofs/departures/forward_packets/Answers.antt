use Rattle.std.proofs.Common.{arith}
use Rattle.sched_capture.specs.SingleLinkType.{left_of, link_of, captures_of}
use Rattle.sched_capture.proofs.FileRuns.{outside_after}
use Rattle.sched_capture.proofs.ForwardFiles.{cut_header, cut_records, all_records}
use Rattle.sched_capture.proofs.departures.forward_packets.Goals as goal

pub returns-in_err-write_header-clause-part : goal.returns-in_err-write_header-clause-part
returns-in_err-write_header-clause-part g c =
    cut_header c.args.policy.now.policy c.args.rate (link_of c.args.packets.now) (left_of c.args.packets.now (g.S.Shelf.left c.args.shelf.now)) (captures_of c.args.packets.now (g.S.Shelf.left c.args.shelf.now)) _ (g.K.Sink.written c.args.sink.now) (g.K.Sink.written c.write_header.new.sink) (rw c.link.ensures at c.in_err-write_header.ensures.part)

pub returns-clause-text : goal.returns-clause-text
returns-clause-text g c =
    all_records c.args.policy.now.policy c.args.rate (link_of c.args.packets.now) (left_of c.args.packets.now (g.S.Shelf.left c.args.shelf.now)) (captures_of c.args.packets.now (g.S.Shelf.left c.args.shelf.now)) c.forward_records.result (g.K.Sink.written c.args.sink.now) (g.K.Sink.written c.write_header.new.sink) (g.K.Sink.written c.forward_records.new.sink) (rw c.link.ensures at c.in_ok-write_header.ensures.bytes) c.forward_records.ensures.text

pub returns-clause-part : goal.returns-clause-part
returns-clause-part g c =
    cut_records c.args.policy.now.policy c.args.rate (link_of c.args.packets.now) (left_of c.args.packets.now (g.S.Shelf.left c.args.shelf.now)) (captures_of c.args.packets.now (g.S.Shelf.left c.args.shelf.now)) c.forward_records.result (g.K.Sink.written c.args.sink.now) (g.K.Sink.written c.write_header.new.sink) (g.K.Sink.written c.forward_records.new.sink) (rw c.link.ensures at c.in_ok-write_header.ensures.bytes) c.forward_records.ensures.part

pub returns-clause-outside : goal.returns-clause-outside
returns-clause-outside g c =
    outside_after g.S.Shelf.faults c.args.shelf.now c.args.shelf.now c.forward_records.new.shelf g.K.Sink.written g.K.Sink.faults c.args.sink.now c.write_header.new.sink c.forward_records.new.sink c.forward_records.result (omega arith) c.write_header.ensures.kept c.forward_records.ensures.outside
