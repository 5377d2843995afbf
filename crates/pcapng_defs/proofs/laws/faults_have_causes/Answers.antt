use Rattle.pcapng_defs.proofs.FaultCauses.{reads_faults}
use Rattle.pcapng_defs.proofs.laws.faults_have_causes.Goals as goal

pub returns : goal.returns
returns c = record { law = reads_faults }
