use Rattle.pcap_core.proofs.Records.{header-sound}
use Rattle.pcap_core.proofs.reader.Reader.start.Goals as goal

pub returns-in-Ok-clause-refused : goal.returns-in-Ok-clause-refused
returns-in-Ok-clause-refused g c =
    header-sound c.in-Ok.head _ _ c.in-Ok.ensures.header
