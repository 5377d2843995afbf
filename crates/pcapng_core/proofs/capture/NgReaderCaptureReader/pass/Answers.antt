use Rattle.pcapng_core.specs.Readers.{carry_of, rest_left}
use Rattle.pcapng_core.proofs.CapturesLeft.{skips, halts}
use Rattle.pcapng_core.proofs.capture.NgReaderCaptureReader.pass.Goals as goal

pub returns-in-Ok-clause-skips : goal.returns-in-Ok-clause-skips
returns-in-Ok-clause-skips g c =
    let reader = c.args.self.now in
    let after = c.next.new.self in
    let e = c.in-Ok.ensures in
    rw (c.is_some.ensures) (skips (carry_of reader) (carry_of after) c.in-Ok.given c.next.new.into.items (rest_left reader (g.S.Shelf.left c.args.shelf.now)) (rest_left after (g.S.Shelf.left c.next.new.shelf)) e.found e.ended)

pub returns-in-Err-clause-skips : goal.returns-in-Err-clause-skips
returns-in-Err-clause-skips g c =
    let reader = c.args.self.now in
    rw (c.read_error.ensures) (halts (carry_of reader) c.in-Err.fault (rest_left reader (g.S.Shelf.left c.args.shelf.now)) c.in-Err.ensures.fault)
