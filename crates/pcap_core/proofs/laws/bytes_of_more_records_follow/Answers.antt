use Rattle.pcap_core.proofs.BytesLaws.{records_follow}
use Rattle.pcap_core.proofs.laws.bytes_of_more_records_follow.Goals as goal

pub returns : goal.returns
returns c = records_follow
