use Rattle.summary_core.proofs.Prelude.{◌^◌, ltb-true}
use Rattle.summary_core.proofs.JoinedBits.{both_below}
use Rattle.summary_core.proofs.counts.Counts.has_room.Goals as goal

pub returns-then-packets-bytes-lt-MOST : goal.returns-then-packets-bytes-lt-MOST
returns-then-packets-bytes-lt-MOST c = λ roomy.
    let s = c.args.self.now in
    let all = both_below _ _ (2 ^ 63) c.if-packets-bytes-lt-MOST.true in
    let bytes = both_below s.bytes s.queued_bytes (2 ^ 63) all.1 in
    let packets = both_below _ s.delays (2 ^ 63) all.0 in
    let queued = both_below _ s.queued (2 ^ 63) packets.0 in
    let dropped = both_below _ s.dropped (2 ^ 63) queued.0 in
    let arrived = both_below s.arrived s.departed (2 ^ 63) dropped.0 in
    let times = both_below s.delay_sum s.jitter_sum (2 ^ 127) (ltb-true _ _ roomy) in
    record {
      arrived = arrived.0;
      departed = arrived.1;
      dropped = dropped.1;
      bytes = bytes.0;
      queued = queued.1;
      queued_bytes = bytes.1;
      delays = packets.1;
      delay_sum = times.0;
      jitter_sum = times.1;
    }
