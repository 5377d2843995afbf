use Rattle.pcapng_defs.proofs.Readings.{goes_block_by_block}
use Rattle.pcapng_defs.proofs.laws.a_file_goes_block_by_block.Goals as goal

pub returns : goal.returns
returns c = record { law = goes_block_by_block }
