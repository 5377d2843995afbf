-- The departures forwarded of a file are read back.
use Rattle.sched_capture.proofs.Prelude.{◌≡◌, List, Some, ℕ, None, Option, arith, [], refl, ◌+◌, ◌∷◌, Bool, false, length, true, ◌≤◌, ◌<◌, if◌then◌else◌, ◌^◌, ◌==◌, length-map, AllByRecursion, unwrap_or, other_link, behind_packet, first_link, of_link, of_one_link, FileContents, holds, no_capture, Contents, FaultAt, CapturedPacket, most_captured, in_file, Resolved, IsSendable, AreNumberedFrom, captured_from, LinkRate, forward_over, class_given, packets_from, one_link_in, link_in, ahead_in}
use Rattle.std.proofs.lemmas.List.Quantifiers.{position-Some}
use Rattle.packet_defs.specs.declared.extra.Header.{Header}
use Rattle.packet_defs.specs.Test.{belongs, class_among}
use Rattle.packet_core.specs.Tests.{tests_of, classes_of}
use Rattle.forward_defs.proofs.ReadBack.{forwarded_runs-read_back}
use Rattle.sched_capture.specs.Laws.{AreReadBack, ForwardsAreReadBack}
use Rattle.sched_capture.proofs.RunnablePolicies.{IsRunnable, runnable}
use Rattle.sched_capture.proofs.PacketRanges.{IsInRange, AreInRange, IsFileInRange, file_in_range}

-- ---- the packets that a policy makes of captured ones
numbered : (policy : Resolved) (n : ℕ) (ps : List CapturedPacket) → AreNumberedFrom n (packets_from policy n ps)
numbered policy n [] = tt
numbered policy n (p ∷ ps) = (refl, numbered policy (n + 1) ps)

length-packets : (policy : Resolved) (n : ℕ) (ps : List CapturedPacket) → length (packets_from policy n ps) ≡ length ps
length-packets policy n [] = refl
length-packets policy n (p ∷ ps) = omega (arith, length-packets policy (n + 1) ps)

module _ (policy : Resolved) (can : IsRunnable policy) where
  given_below : (o : Option ℕ) → ((i : ℕ) → o ≡ Some i → i < length policy.policy.classes) → unwrap_or o 0 < length policy.policy.classes
  given_below None found = can.accepted.some_class
  given_below (Some i) found = found i refl

  class_there : (header : Header) (n : ℕ) → class_given policy header n < length policy.policy.classes
  class_there header n =
      given_below (class_among (classes_of policy.conditions) header n)
      (λ i is. omega (arith, (position-Some (belongs header n) (classes_of policy.conditions) i [] is).0, length-map policy.conditions tests_of, can.conditions))

  sendable : (n : ℕ) (ps : List CapturedPacket) → AllByRecursion IsInRange ps → AllByRecursion (IsSendable policy.policy) (packets_from policy n ps)
  sendable n [] range = tt
  sendable n (p ∷ ps) range = (
    record {
      known = record { class = class_there _ p.original; len = omega (arith, range.0.original) };
      moment = range.0.moment;
    },
    sendable (n + 1) ps range.1,
  )

-- ---- captured bytes
captured-one : (t : Bool) (bytes others : List ℕ) → length bytes ≤ most_captured → length others ≤ most_captured → length (if t then bytes else others) ≤ most_captured
captured-one true bytes others first later = first
captured-one false bytes others first later = later

captured-short : (first : ℕ) (ps : List CapturedPacket) → AllByRecursion IsInRange ps → (n : ℕ) → length (captured_from first ps n) ≤ most_captured
captured-short first [] range n = omega arith
captured-short first (p ∷ ps) range n =
    captured-one (n == first) p.captured (captured_from (first + 1) ps n) range.0.short (captured-short (first + 1) ps range.1 n)

-- ---- the packets of one link type
-- these contents have packets in range, and at most as many as the list
abbrev AreOf : List CapturedPacket → Contents → Type 0
AreOf ps c = AllByRecursion IsInRange c.packets × (length c.packets ≤ length ps)

of_link-one : (t : Bool) (p : CapturedPacket) (ps : List CapturedPacket) (more ended : Contents) → IsInRange p → AreOf ps more → ended.packets ≡ []
    → AreOf (p ∷ ps) (if t then behind_packet p more else ended)
of_link-one true p ps more ended range are none = ((range, are.0), omega (arith, are.1))
of_link-one false p ps more ended range are none = rw (none) (tt, omega arith)

of_link-range : (link n : ℕ) (ps : List CapturedPacket) (fault : Option FaultAt) → AllByRecursion IsInRange ps → AreOf ps (of_link link n ps fault)
of_link-range link n [] fault range = (tt, omega arith)
of_link-range link n (p ∷ ps) fault range =
    of_link-one (p.link == link) p ps (of_link link (n + 1) ps fault) (record { packets = []; fault = Some (record { code = other_link; place = n }) }) range.0
    (of_link-range link (n + 1) ps fault range.1) refl

one_link-range : (c : Contents) → AreInRange c.packets → AreInRange (of_one_link c).packets
one_link-range c range =
    let of = of_link-range (first_link c.packets) 1 c.packets c.fault range.each in
    record { each = of.0; few = omega (arith, of.1, range.few) }

first_link-low : (ps : List CapturedPacket) → AllByRecursion IsInRange ps → first_link ps < 2 ^ 16
first_link-low [] range = omega arith
first_link-low (p ∷ ps) range = range.0.link

-- ---- departures read back
module _ (policy : Resolved) (rate : LinkRate) (can : IsRunnable policy) where
  contents_read_back : (link : ℕ) (c : Contents) → link < 2 ^ 16 → AreInRange c.packets → AreReadBack policy rate link (holds c) (forward_over policy rate link (holds c)).text
  contents_read_back link c low range =
      forwarded_runs-read_back policy.policy rate link (packets_from policy 1 c.packets) c.fault (captured_from 1 c.packets) can.accepted low
      (record { numbered = numbered policy 1 c.packets; sendable = sendable policy can 1 c.packets range.each; held = λ m p held. cc })
      (omega (arith, length-packets policy 1 c.packets, range.few)) (captured-short 1 c.packets range.each)

  ahead_read_back : (link : ℕ) (ps : List CapturedPacket) (fault : Option FaultAt) (c : Contents) → link < 2 ^ 16 → AreInRange c.packets
      → AreReadBack policy rate link (ahead_in ps fault c) (forward_over policy rate link (ahead_in ps fault c)).text
  ahead_read_back link [] None c low range = contents_read_back link c low range
  ahead_read_back link [] (Some fault) c low range = tt
  ahead_read_back link (p ∷ ps) fault c low range = contents_read_back link c low range

  file_read_back : (file : FileContents) → IsFileInRange file → AreReadBack policy rate (link_in file) (one_link_in file) (forward_over policy rate (link_in file) (one_link_in file)).text
  file_read_back (no_capture fault) range = tt
  file_read_back (holds c) range =
      ahead_read_back (first_link c.packets) c.packets c.fault (of_one_link c) (first_link-low c.packets range.each) (one_link-range c range)

pub forwards_read_back : ForwardsAreReadBack
forwards_read_back text entries policy rate file has accepted gives are =
    file_read_back policy rate (runnable text entries policy has accepted gives) (in_file file) (file_in_range file are)
