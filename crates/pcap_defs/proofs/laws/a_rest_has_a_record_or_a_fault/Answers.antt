use Rattle.pcap_defs.proofs.ReadingLaws.{has_fault_or_record}
use Rattle.pcap_defs.proofs.laws.a_rest_has_a_record_or_a_fault.Goals as goal

pub returns : goal.returns
returns c = has_fault_or_record
