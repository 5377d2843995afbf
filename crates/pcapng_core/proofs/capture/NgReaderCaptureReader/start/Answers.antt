use Rattle.pcapng_core.specs.Readers.{carry_of, rest_left}
use Rattle.pcapng_core.proofs.CapturesLeft.{opens, refuses}
use Rattle.pcapng_core.proofs.capture.NgReaderCaptureReader.start.Goals as goal

pub returns-in-Ok-clause-opens : goal.returns-in-Ok-clause-opens
returns-in-Ok-clause-opens g c =
    let reader = c.start.new.self in
    opens (carry_of reader) (rest_left c.args.self.now (g.S.Shelf.left c.args.shelf.now)) (rest_left reader (g.S.Shelf.left c.start.new.shelf)) c.in-Ok.ensures.header

pub returns-in-Err-clause-refused : goal.returns-in-Err-clause-refused
returns-in-Err-clause-refused g c = rw (c.read_error.ensures) (refuses c.in-Err.fault (rest_left c.args.self.now (g.S.Shelf.left c.args.shelf.now)) c.in-Err.ensures.fault)
