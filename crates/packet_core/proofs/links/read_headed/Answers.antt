use Rattle.packet_core.proofs.Prelude.{◌∙◌, sym}
use Rattle.std.proofs.Common.{rules}
use Rattle.packet_core.proofs.FieldsThere.{headed-other}
use Rattle.packet_core.proofs.links.read_headed.Goals as goal

pub returns-in_default : goal.returns-in_default
returns-in_default c = c.read_fields.ensures ∙ sym (headed-other c.args.link c.args.bytes.now (search rules) (search rules) (search rules) (search rules))
