use Rattle.pcapng_core.specs.Readers.{carry_of, packets_given, rest_left}
use Rattle.pcapng_core.proofs.CapturesLeft.{reads, halts}
use Rattle.pcapng_core.proofs.capture.NgReaderCaptureReader.next_in_place.Goals as goal

pub returns-in-Ok-clause-reads : goal.returns-in-Ok-clause-reads
returns-in-Ok-clause-reads g c =
    let reader = c.args.self.now in
    let after = c.next.new.self in
    let e = c.in-Ok.ensures in
    reads (carry_of reader) (carry_of after) (packets_given reader) c.in-Ok.given c.next.new.into.items (rest_left reader (g.S.Shelf.left c.args.shelf.now)) (rest_left after (g.S.Shelf.left c.next.new.shelf)) e.found e.next e.ended

pub returns-in-Err-clause-reads : goal.returns-in-Err-clause-reads
returns-in-Err-clause-reads g c =
    let reader = c.args.self.now in
    rw (c.read_error.ensures) (halts (carry_of reader) c.in-Err.fault (rest_left reader (g.S.Shelf.left c.args.shelf.now)) c.in-Err.ensures.fault)
