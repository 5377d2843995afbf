use Rattle.packet_core.proofs.prepared.probe_bounds.Goals as goal

pub returns-in-Ipv4 : goal.returns-in-Ipv4
returns-in-Ipv4 c = λ header n. rw (c.in-Ipv4.is) (c.version.ensures header.fields n)

pub returns-in-Ipv6 : goal.returns-in-Ipv6
returns-in-Ipv6 c = λ header n. rw (c.in-Ipv6.is) (c.version-in-Ipv6.ensures header.fields n)
