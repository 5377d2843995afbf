use Rattle.pcap_defs.proofs.ReadingLaws.{reads_captures, reads_refusals}
use Rattle.pcap_defs.proofs.laws.a_file_has_one_reading.Goals as goal

pub returns-clause-captures : goal.returns-clause-captures
returns-clause-captures c = reads_captures

pub returns-clause-refusals : goal.returns-clause-refusals
returns-clause-refusals c = reads_refusals
