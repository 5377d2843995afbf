use Rattle.pcap_defs.proofs.ReadingLaws.{moments_are_small}
use Rattle.pcap_defs.proofs.laws.a_moment_has_62_bits.Goals as goal

pub returns : goal.returns
returns c = moments_are_small
