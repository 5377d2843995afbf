use Rattle.pcap_core.specs.Readers.{head_of, records_given, rest_left}
use Rattle.pcap_core.proofs.CapturesLeft.{opens-at, refuses}
use Rattle.pcap_core.proofs.reader.ReaderCaptureReader.start.Goals as goal

pub returns-in-Ok-clause-opens : goal.returns-in-Ok-clause-opens
returns-in-Ok-clause-opens g c =
    let e = c.in-Ok.ensures in
    let reader = c.start.new.self in
    opens-at c.in-Ok.field-0 (head_of reader) (records_given reader) (rest_left c.args.self.now (g.S.Shelf.left c.args.shelf.now)) (rest_left reader (g.S.Shelf.left c.start.new.shelf)) e.head e.none_given e.header

pub returns-in-Err-clause-refused : goal.returns-in-Err-clause-refused
returns-in-Err-clause-refused g c = rw (c.read_error.ensures) (refuses c.in-Err.fault (rest_left c.args.self.now (g.S.Shelf.left c.args.shelf.now)) c.in-Err.ensures.fault)
