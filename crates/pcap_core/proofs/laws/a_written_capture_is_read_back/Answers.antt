use Rattle.pcap_core.proofs.BytesLaws.{are_captures, are_read_back}
use Rattle.pcap_core.proofs.laws.a_written_capture_is_read_back.Goals as goal

pub returns-clause-captures : goal.returns-clause-captures
returns-clause-captures c = are_captures

pub returns-clause-reading : goal.returns-clause-reading
returns-clause-reading c = are_read_back
