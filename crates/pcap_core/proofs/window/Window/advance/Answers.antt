use Rattle.std.proofs.Common.{arith}
use Rattle.pcap_core.proofs.Windows.{held-advanced}
use Rattle.pcap_core.proofs.window.Window.advance.Goals as goal

pub returns-clause-passed : goal.returns-clause-passed
returns-clause-passed c =
    held-advanced c.args.self.now.buffer.items c.args.self.now.at c.args.self.now.end c.min-count.result (omega arith)
