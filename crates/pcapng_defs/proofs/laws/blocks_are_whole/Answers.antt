use Rattle.pcapng_defs.proofs.WholeBlocks.{reads_blocks}
use Rattle.pcapng_defs.proofs.laws.blocks_are_whole.Goals as goal

pub returns : goal.returns
returns c = record { law = reads_blocks }
