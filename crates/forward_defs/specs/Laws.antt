-- Consequences of the definition of forwarded bytes.
use Rattle.std.specs.Prelude.{◌≡◌, ◌≤◌, ◌<◌, ◌^◌, ℕ, false, Option, None, List, ◌++◌, length, map}
use Rattle.std.specs.List.{AllByRecursion}
use Rattle.pcap_defs.specs.Record.{most_captured, most_records}
use Rattle.pcap_defs.specs.Packet.{CapturedPacket}
use Rattle.pcap_defs.specs.Contents.{FaultAt, Contents, FileContents, holds}
use Rattle.pcapng_defs.specs.NgContents.{in_file}
use Rattle.packet_defs.specs.declared.packet.Packet.{Packet}
use Rattle.policy_defs.specs.Policy.{Policy}
use Rattle.policy_defs.specs.Accepted.{IsAccepted}
use Rattle.sched_defs.specs.SourceState.{start}
use Rattle.sched_defs.specs.Events.{Event, Outcome, outcomes}
use Rattle.sched_defs.specs.Numbered.{CanBeSent}
use Rattle.sched_defs.specs.Link.{link_course}
use Rattle.sched_defs.specs.Packets.{Captured}
use Rattle.sched_defs.specs.declared.rate.LinkRate.{LinkRate}
use Rattle.forward_defs.specs.Sendings.{Sending, sendings, up_to_late, has_late}
use Rattle.forward_defs.specs.Forwarded.{sent_packet, forward_bytes}
use Rattle.forward_defs.specs.SingleLinkType.{of_one_link}

-- a capture of these departures and nothing else, without a fault
abbrev pub holds_sendings : ℕ → Captured → List Sending → FileContents
holds_sendings link captured sent = holds (record { packets = map (sent_packet link captured) sent; fault = None })

-- a packet whose original length fits 32 bits, and with no more captured bytes than a record may
-- have
pub record FitsRecord (captured : Captured) (s : Sending) : Type 0 where
  pub len : s.packet.len < 2 ^ 32
  pub short : length (captured s.packet.number) ≤ most_captured

-- the bytes forwarded from outcomes hold their departures that aren't late, packet by packet, and
-- nothing else
abbrev pub ForwardedAreReadBack : Type 0
ForwardedAreReadBack =
    (link : ℕ) (captured : Captured) (os : List Outcome) → link < 2 ^ 16 → AllByRecursion (FitsRecord captured) (sendings os) → length (sendings os) ≤ most_records
    → in_file (forward_bytes link captured os) ≡ holds_sendings link captured (sendings os)

-- The events up to the first late departure are a prefix of all events. If none is late, they are
-- all events.
pub record LateEndsRuns : Type 0 where
  pub first : (events : List Event) → (others : List Event) × (up_to_late events ++ others ≡ events)
  pub whole : (events : List Event) → has_late events ≡ false → up_to_late events ≡ events

-- the bytes forwarded from a link's run over the packets of a capture hold the departures up to the
-- first late one
abbrev pub ForwardedRunsAreReadBack : Type 0
ForwardedRunsAreReadBack =
    (policy : Policy) (rate : LinkRate) (link : ℕ) (packets : List Packet) (fault : Option FaultAt) (captured : Captured) → IsAccepted policy → link < 2 ^ 16
    → CanBeSent policy 1 packets (start policy) → length packets ≤ most_records → ((n : ℕ) → length (captured n) ≤ most_captured)
    → let os = outcomes policy (up_to_late (link_course policy rate packets fault (start policy) 0).events) (start policy) in
    in_file (forward_bytes link captured os) ≡ holds_sendings link captured (sendings os)

-- a capture whose packets have one link type is whole
abbrev pub OneLinkIsWhole : Type 0
OneLinkIsWhole = (link : ℕ) (c : Contents) → AllByRecursion (λ (p : CapturedPacket). p.link ≡ link) c.packets → of_one_link c ≡ c
