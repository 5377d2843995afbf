use Rattle.packet_core.proofs.Prelude.{◌∙◌}
use Rattle.packet_core.proofs.Prepare.{one-in}
use Rattle.packet_core.proofs.unprepared.is_among.Goals as goal

pub returns : goal.returns
returns c = c.one_has.ensures ∙ one-in c.args.value c.args.ranges.now
