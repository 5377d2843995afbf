-- A packet of a capture, in any capture format.
use Rattle.std.specs.Prelude.{ℕ, List}
use Rattle.pcap_defs.specs.declared.head.Head.{Head}
use Rattle.pcap_defs.specs.Record.{Record, moment}

-- A packet with its own link type, its timestamp (`moment`) in nanoseconds, its original length and
-- its captured bytes.
pub record CapturedPacket : Type 0 where
  pub link : ℕ
  pub moment : ℕ
  pub original : ℕ
  pub captured : List ℕ

-- the packet of a record of a classic capture
abbrev pub packet_with : Head → Record → CapturedPacket
packet_with head r = record { link = head.link; moment = moment head.nano r; original = r.original; captured = r.captured }
