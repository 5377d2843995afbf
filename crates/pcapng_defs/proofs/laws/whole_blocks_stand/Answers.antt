use Rattle.pcapng_defs.proofs.LongerFronts.{blocks_stand, faults_stand}
use Rattle.pcapng_defs.proofs.laws.whole_blocks_stand.Goals as goal

pub returns : goal.returns
returns c = record { blocks = blocks_stand; faults = faults_stand }
