use Rattle.std.proofs.Common.{arith}
use Rattle.pcap_core.proofs.Windows.{taken-in-place}
use Rattle.pcap_core.proofs.window.Window.take_in_place.Goals as goal

pub returns-then-most-self-clause-taken : goal.returns-then-most-self-clause-taken
returns-then-most-self-clause-taken g c =
    let w = c.args.self.now in
    taken-in-place w.buffer.items w.at w.end c.args.most (g.S.Shelf.left c.args.shelf.now) (omega arith) (omega arith)
