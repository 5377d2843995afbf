use Rattle.pcapng_defs.proofs.Readings.{goes_on}
use Rattle.pcapng_defs.proofs.laws.a_file_goes_on_behind_whole_blocks.Goals as goal

pub returns : goal.returns
returns c = record { law = goes_on }
