-- The next packet of a capture, by the contents that were left.
use Rattle.std.specs.Prelude.{◌≡◌, ◌≤◌, ℕ, ◌+◌, Option, Some, None, List, length, Result, IsErrOf}
use Rattle.outside_core.specs.Faults.{Rose}
use Rattle.outside_core.specs.Kept.{KeepsShelf}
use Rattle.outside_core.specs.declared.read_error.ReadError.{ReadError}
use Rattle.outside_core.specs.declared.read_error.ReadError.TheVariants.{Source}
use Rattle.outside_core.specs.declared.shelves.Shelf as shelf
use Rattle.pcap_defs.specs.Packet.{CapturedPacket}
use Rattle.pcap_defs.specs.Record.{most_captured}
use Rattle.pcap_defs.specs.Contents.{Contents}
use Rattle.pcap_core.specs.Captures.{Comes, IsAt, nothing_left}
use Rattle.packet_defs.specs.declared.packet.Packet.{Packet}
use Rattle.policy_rules.specs.Resolved.{Resolved}
use Rattle.sched_defs.specs.Numbered.{IsSendable}
use Rattle.sched_capture.specs.Packets.{packet_of}

-- the captured packet with this link type, this packet's timestamp and length, and these captured
-- bytes
abbrev pub packet_told : ℕ → Packet → List ℕ → CapturedPacket
packet_told link p captured = record { link = link; moment = p.moment; original = p.len; captured = captured }

-- The packet, its link type and its captured bytes are the next ones of the contents left after
-- `given` packets. The policy gives the packet its class.
pub record IsNext (policy : Resolved) (given : ℕ) (old new : Option Contents) (link : ℕ) (p : Packet) (captured : List ℕ) : Type 0 where
  pub comes : Comes old new (packet_told link p captured)
  pub packet : p ≡ packet_of policy (given + 1) (packet_told link p captured)
  pub sendable : IsSendable policy.policy p
  pub short : length captured ≤ most_captured

-- no packet and no fault was left of the contents, and none is left
pub record IsEnd (old new : Option Contents) : Type 0 where
  pub at : IsAt None old
  pub over : new ≡ Some nothing_left

-- A call that reads a file of the shelf leaves what the shelf lends. It reports a failure of the
-- shelf only if there was one.
pub record KeepsSource {S X : Type 0} (k : shelf.Ghosts S) (result : Result X ReadError) (old new : S) : Type 0 where
  pub kept : KeepsShelf k.lends k.content k.faults old new
  pub cause : IsErrOf result Source → Rose (k.faults old) (k.faults new)
