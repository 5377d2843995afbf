use Rattle.std.proofs.Common.{arith}
use Rattle.pcap_core.proofs.Holds.{held-written, held-unwritten, same-read, same-refused, all-read}
use Rattle.pcap_core.proofs.window.Window.read_on.Goals as goal

pub returns-in_err-count-clause-same : goal.returns-in_err-count-clause-same
returns-in_err-count-clause-same g c =
    let w = c.args.self.now in
    same-refused (g.S.Shelf.left c.args.shelf.now) (g.S.Shelf.left c.read.new.self) _ _ c.in_err-count.ensures.refused
    (held-unwritten w.buffer c.deref_mut.result.now c.read.new.buf w.at w.end c.deref_mut.ensures.value
    (omega (arith, c.read.auto.buf)) (omega arith) (omega (arith, c.deref_mut.ensures.len)) (omega (arith, c.deref_mut.ensures.len)))

pub returns-clause-same : goal.returns-clause-same
returns-clause-same g c =
    let w = c.args.self.now in
    same-read (g.S.Shelf.left c.args.shelf.now) (g.S.Shelf.left c.read.new.self) c.read.new.buf _ _ c.in_ok-count.count c.in_ok-count.ensures.taken
    (held-written w.buffer c.deref_mut.result.now c.read.new.buf w.at w.end c.deref_mut.ensures.value
    (omega (arith, c.read.auto.buf)) (omega arith) (omega (arith, c.deref_mut.ensures.len)) (omega (arith, c.deref_mut.ensures.len)) c.in_ok-count.count (omega (arith, c.in_ok-count.ensures.bound, c.read.auto.buf)))

pub returns-clause-end : goal.returns-clause-end
returns-clause-end g c none =
    let w = c.args.self.now in
    all-read (g.S.Shelf.left c.args.shelf.now) (g.S.Shelf.left c.read.new.self) c.read.new.buf _ _ c.in_ok-count.count (c.in_ok-count.ensures.end (omega (arith, c.requires.room, c.deref_mut.ensures.len, c.read.auto.buf)))
    (held-written w.buffer c.deref_mut.result.now c.read.new.buf w.at w.end c.deref_mut.ensures.value
    (omega (arith, c.read.auto.buf)) (omega arith) (omega (arith, c.deref_mut.ensures.len)) (omega (arith, c.deref_mut.ensures.len)) c.in_ok-count.count (omega (arith, c.in_ok-count.ensures.bound, c.read.auto.buf))) none
