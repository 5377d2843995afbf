use Rattle.std.proofs.Common.{arith}
use Rattle.pcap_core.proofs.Windows.{copy-moved}
use Rattle.pcap_core.proofs.window.Window.copy.Goals as goal

pub returns-clause-moved : goal.returns-clause-moved
returns-clause-moved c =
    copy-moved c.args.self.now.buffer.items c.deref.result.now c.args.into.now.items c.extend_from_slice.new.self.items c.args.self.now.at c.args.self.now.end c.min-count.result
    c.deref.ensures.value c.in_ok-extend_from_slice.ensures.items (omega arith) (omega arith)
