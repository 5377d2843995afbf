use Rattle.std.proofs.Common.{arith}
use Rattle.pcap_core.proofs.Windows.{passes-held, passes-end}
use Rattle.pcap_core.proofs.window.Window.pass_more.Goals as goal

pub returns-clause-passed : goal.returns-clause-passed
returns-clause-passed g c =
    passes-held c.advance.result _ (g.S.Shelf.left c.refill.new.shelf) _ _ c.in_ok-refill.ensures.same (omega (arith, c.advance.ensures.count)) c.advance.ensures.passed

pub returns-clause-end : goal.returns-clause-end
returns-clause-end g c none =
    passes-end c.advance.result c.args.most _ _ c.advance.ensures.count c.requires.some c.in_ok-refill.ensures.end none
