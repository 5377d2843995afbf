use Rattle.packet_core.proofs.Prelude.{◌∙◌}
use Rattle.packet_core.proofs.AskLaws.{asks-classes}
use Rattle.packet_core.proofs.asks.one_asks.Goals as goal

pub returns : goal.returns
returns c = c.any_asks.ensures ∙ asks-classes c.args.classes.now
