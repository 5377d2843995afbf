use Rattle.pcapng_defs.proofs.Formats.{fronts_tell_formats}
use Rattle.pcapng_defs.proofs.laws.a_front_tells_the_format.Goals as goal

pub returns : goal.returns
returns c = record { law = fronts_tell_formats }
