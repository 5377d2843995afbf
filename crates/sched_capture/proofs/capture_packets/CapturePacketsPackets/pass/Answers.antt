use Rattle.pcap_core.specs.Readers.{records_given}
use Rattle.pcap_core.specs.Left as classic
use Rattle.pcapng_core.specs.Readers.{packets_given}
use Rattle.pcapng_core.specs.Left as blocks
use Rattle.sched_capture.specs.Arrivals.{resolved_of, given_by, contents_of}
use Rattle.sched_capture.proofs.PacketsLeft.{one_came}
use Rattle.sched_capture.proofs.capture_packets.CapturePacketsPackets.pass.Goals as goal

pub returns-in-Classic-clause-came : goal.returns-in-Classic-clause-came
returns-in-Classic-clause-came g c =
    let a = c.in-Classic.arrivals in
    let b = c.pass.new.self in
    rw (c.in-Classic.is, c.pass.ensures.policy) (one_came (resolved_of a) (given_by records_given a) (given_by records_given b)
    (contents_of classic.contents_left a (g.S.Shelf.left c.args.source.now)) (contents_of classic.contents_left b (g.S.Shelf.left c.pass.new.source)) c.pass.result c.pass.ensures.given c.pass.ensures.comes)

pub returns-in-Blocks-clause-came : goal.returns-in-Blocks-clause-came
returns-in-Blocks-clause-came g c =
    let a = c.in-Blocks.arrivals in
    let b = c.pass-in-Blocks.new.self in
    rw (c.in-Blocks.is, c.pass-in-Blocks.ensures.policy) (one_came (resolved_of a) (given_by packets_given a) (given_by packets_given b)
    (contents_of blocks.contents_left a (g.S.Shelf.left c.args.source.now)) (contents_of blocks.contents_left b (g.S.Shelf.left c.pass-in-Blocks.new.source)) c.pass-in-Blocks.result c.pass-in-Blocks.ensures.given c.pass-in-Blocks.ensures.comes)
