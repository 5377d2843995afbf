use Rattle.pcapng_defs.proofs.Readings.{faults_are_numbered}
use Rattle.pcapng_defs.proofs.laws.faults_are_numbered.Goals as goal

pub returns : goal.returns
returns c = record { law = faults_are_numbered }
