-- The sums of a group of packets, event by event.
use Rattle.std.specs.Prelude.{◌<◌, ◌^◌, ℕ, ◌+◌, ◌-◌, ◌*◌, ◌/◌, ◌==◌, nat_lt, if◌then◌else◌, max, Option, None, Some, option_map}
use Rattle.std.specs.Int.{abs_diff}
use Rattle.summary_core.specs.declared.event.Times.{Times}
use Rattle.summary_core.specs.declared.event.PacketEvent.{PacketEvent}
use Rattle.summary_core.specs.declared.event.PacketEvent.TheVariants.{Arrived, Departed, Dropped}
use Rattle.summary_core.specs.declared.counts.Counts.{Counts}

-- the sums of no packet
abbrev pub no_counts : Counts
no_counts = record {
  arrived = 0;
  departed = 0;
  dropped = 0;
  bytes = 0;
  queued = 0;
  queued_bytes = 0;
  most_queued = 0;
  most_queued_bytes = 0;
  first = None;
  finish = 0;
  delays = 0;
  delay_sum = 0;
  last = None;
  jitter_sum = 0;
}

-- each sum has room for one more packet
pub record IsRoomy (c : Counts) : Type 0 where
  pub arrived : c.arrived < 2 ^ 63
  pub departed : c.departed < 2 ^ 63
  pub dropped : c.dropped < 2 ^ 63
  pub bytes : c.bytes < 2 ^ 63
  pub queued : c.queued < 2 ^ 63
  pub queued_bytes : c.queued_bytes < 2 ^ 63
  pub delays : c.delays < 2 ^ 63
  pub delay_sum : c.delay_sum < 2 ^ 127
  pub jitter_sum : c.jitter_sum < 2 ^ 127

-- the first timestamp, if there is one, otherwise this one
abbrev pub first_of : Option ℕ → ℕ → Option ℕ
first_of None n = Some n
first_of (Some first) n = Some first

-- A packet joins the backlog, and the maximum includes it.
abbrev pub with_arrival : ℕ → ℕ → Counts → Counts
with_arrival len timestamp c = record c {
  arrived = c.arrived + 1;
  queued = c.queued + 1;
  queued_bytes = c.queued_bytes + len;
  most_queued = max c.most_queued (c.queued + 1);
  most_queued_bytes = max c.most_queued_bytes (c.queued_bytes + len);
  first = first_of c.first timestamp;
}

-- how much a delay differs from the previous one, if there is one
abbrev pub change : Option ℕ → ℕ → ℕ
change None delay = 0
change (Some last) delay = abs_diff last delay

-- Jitter is the plain mean of the differences between consecutive delays. It isn't the running form
-- of RFC 3550.
abbrev pub with_times : Times → Counts → Counts
with_times t c = record c {
  finish = max c.finish t.finish;
  delays = c.delays + 1;
  delay_sum = c.delay_sum + t.delay;
  last = Some t.delay;
  jitter_sum = c.jitter_sum + change c.last t.delay;
}

abbrev pub with_any_times : Option Times → Counts → Counts
with_any_times None c = c
with_any_times (Some t) c = with_times t c

-- A packet leaves the backlog.
abbrev pub with_departure : ℕ → Option Times → Counts → Counts
with_departure len times c = record (with_any_times times c) {
  departed = c.departed + 1;
  bytes = c.bytes + len;
  queued = c.queued - 1;
  queued_bytes = c.queued_bytes - len;
}

-- A dropped packet doesn't join the backlog.
abbrev pub with_drop : Counts → Counts
with_drop c = record c { dropped = c.dropped + 1 }

abbrev pub with_event : PacketEvent → Counts → Counts
with_event (Arrived len timestamp) c = with_arrival len timestamp c
with_event (Departed len times) c = with_departure len times c
with_event Dropped c = with_drop c

-- The span of a group on a link, in nanoseconds: from the timestamp of its first packet that
-- arrived to its last finish. A group without a delay has none.
abbrev pub span_of : Counts → Option ℕ
span_of c = if c.delays == 0 then None else option_map (λ first. c.finish - first) c.first

-- bytes per second over a span, rounded down
abbrev pub over_span : ℕ → Option ℕ → Option ℕ
over_span bytes None = None
over_span bytes (Some span) = if span == 0 then None else Some (bytes * 1000000000 / span)

abbrev pub throughput_of : Counts → Option ℕ
throughput_of c = over_span c.bytes (span_of c)

-- the mean delay in nanoseconds, rounded down; a group without a delay has 0
abbrev pub mean_delay : Counts → ℕ
mean_delay c = c.delay_sum / max c.delays 1

-- the mean difference between consecutive delays, in nanoseconds, rounded down; it takes two delays
abbrev pub jitter_of : Counts → Option ℕ
jitter_of c = if nat_lt c.delays 2 then None else Some (c.jitter_sum / (c.delays - 1))
