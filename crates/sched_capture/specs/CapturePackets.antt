-- The meaning of a capture's packets, in either format.
use Rattle.std.specs.Prelude.{ℕ, Bool, Option, option_map, List, IsSome, IsTrue}
use Rattle.pcap_defs.specs.Contents.{Contents}
use Rattle.pcap_core.specs.Readers.{head_of, is_live, records_given, captured_of}
use Rattle.pcap_core.specs.Left.{contents_left}
use Rattle.pcapng_core.specs.Readers as blocks
use Rattle.pcapng_core.specs.Left as blocks_left
use Rattle.policy_defs.specs.Policy.{Policy}
use Rattle.policy_rules.specs.Resolved.{Resolved}
use Rattle.sched_defs.specs.Packets.{Left, Captured, AreThere}
use Rattle.sched_capture.specs.Arrivals as one
use Rattle.sched_capture.specs.Arrivals.{left_in, AreCaptured}
use Rattle.sched_capture.specs.CapturedBytes as bytes
use Rattle.sched_capture.specs.declared.capture_packets.CapturePackets.{CapturePackets}
use Rattle.sched_capture.specs.declared.capture_packets.CapturePackets.TheVariants.{Classic, Blocks}

-- the policy that gives each packet its class
abbrev pub resolved_of : {S : Type 0} → CapturePackets S → Resolved
resolved_of (Classic arrivals) = one.resolved_of arrivals
resolved_of (Blocks arrivals) = one.resolved_of arrivals

abbrev pub policy_of : {S : Type 0} → CapturePackets S → Policy
policy_of arrivals = (resolved_of arrivals).policy

-- the number of packets read
abbrev pub given_by : {S : Type 0} → CapturePackets S → ℕ
given_by (Classic arrivals) = one.given_by records_given arrivals
given_by (Blocks arrivals) = one.given_by blocks.packets_given arrivals

-- the captured bytes of the last packet read
abbrev pub captured_by : {S : Type 0} → CapturePackets S → List ℕ
captured_by (Classic arrivals) = one.captured_by captured_of arrivals
captured_by (Blocks arrivals) = one.captured_by blocks.captured_of arrivals

-- the contents left of the capture, if the bytes left of the file are known to the contract
abbrev pub contents_of : {S : Type 0} → CapturePackets S → Option (List ℕ) → Option Contents
contents_of (Classic arrivals) told = one.contents_of contents_left arrivals told
contents_of (Blocks arrivals) told = one.contents_of blocks_left.contents_left arrivals told

-- the packets left to read
abbrev pub left_of : {S : Type 0} → CapturePackets S → Option (List ℕ) → Option Left
left_of arrivals told = option_map (left_in (resolved_of arrivals) (given_by arrivals)) (contents_of arrivals told)

-- these are their captured bytes
abbrev pub captures_of : {S : Type 0} → CapturePackets S → Option (List ℕ) → Captured → Type 0
captures_of arrivals told bytes = AreCaptured (contents_of arrivals told) (given_by arrivals) bytes

-- if the packets left are known, such bytes exist
pub there : {S : Type 0} (arrivals : CapturePackets S) (told : Option (List ℕ)) → AreThere (left_of arrivals told) (captures_of arrivals told)
there arrivals told = bytes.there (resolved_of arrivals) (given_by arrivals) (contents_of arrivals told)

-- the reader can go on, the number of packets read is within the limit, and the file is still begun
abbrev pub IsReady : {S : Type 0} → CapturePackets S → Bool → Type 0
IsReady (Classic arrivals) begun = one.IsReady (λ r. IsSome (head_of r) × IsTrue (is_live r)) records_given arrivals begun
IsReady (Blocks arrivals) begun = one.IsReady (λ r. IsTrue (blocks.is_live r)) blocks.packets_given arrivals begun
