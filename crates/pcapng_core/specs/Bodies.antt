-- The body of a block, as its front describes it.
use Rattle.std.specs.Prelude.{◌≤◌, ⊤, ℕ, ◌+◌, ◌*◌, ◌^◌, ◌==◌, ◌&&◌, nat_le, if◌then◌else◌, Bool, Option, Some, None, List, length, slice_get}
use Rattle.pcap_defs.specs.Number.{long_at, short_at}
use Rattle.pcap_defs.specs.Record.{most_captured}
use Rattle.rank_defs.specs.Programs.{max_rank}
use Rattle.pcapng_defs.specs.declared.interface.Interface.{Interface}
use Rattle.pcapng_defs.specs.Moment.{moment_in}
use Rattle.pcap_defs.specs.Packet.{CapturedPacket}
use Rattle.pcapng_defs.specs.Block.{Carried, ng_major, most_interfaces, simple_len}
use Rattle.pcapng_core.specs.declared.fault.NgFault.TheVariants.{NgVersion, NoInterface, PacketLength, Interfaces}
use Rattle.pcapng_core.specs.declared.start.Kind.{Kind}
use Rattle.pcapng_core.specs.declared.start.Kind.TheVariants as kind
use Rattle.pcapng_core.specs.declared.body.Body.{Body}
use Rattle.pcapng_core.specs.declared.body.Packet.{Packet}
use Rattle.pcapng_core.specs.declared.body.Body.TheVariants as body

-- how many bytes at a block's front are read before its options or captured bytes
abbrev pub front_len : Kind → ℕ
front_len kind.Section = 16
front_len kind.Interface = 16
front_len kind.Enhanced = 28
front_len kind.Simple = 12
front_len kind.Other = 12

-- a packet whose captured bytes are at position `at` of a block of `total` bytes, if they are
-- within the limit and fit there
abbrev pub packet_body : Packet → ℕ → ℕ → ℕ → Body
packet_body p at total number =
    if nat_le p.captured most_captured && nat_le (at + p.captured + 4) total
    then body.Packet p
    else body.Faulty (PacketLength number)

-- the body of an enhanced packet block with this front
abbrev pub enhanced_body : Carried → Bool → ℕ → List ℕ → Option Interface → Body
enhanced_body c big total front None = body.Faulty (NoInterface (c.blocks + 1))
enhanced_body c big total front (Some i) =
    packet_body (record { link = i.link; moment = moment_in i.unit (long_at big 12 front * 2 ^ 32 + long_at big 16 front); captured = long_at big 20 front; len = long_at big 24 front })
    28 total (c.blocks + 1)

-- the body of a simple packet block with this front
abbrev pub simple_body : Carried → Bool → ℕ → List ℕ → Option Interface → Body
simple_body c big total front None = body.Faulty (NoInterface (c.blocks + 1))
simple_body c big total front (Some i) =
    packet_body (record { link = i.link; moment = c.moment; captured = simple_len i (long_at big 8 front); len = long_at big 8 front }) 12 total (c.blocks + 1)

-- the body of a block of this kind with `total` bytes and this front
abbrev pub body_said : Carried → Bool → ℕ → List ℕ → Kind → Body
body_said c big total front kind.Section = if short_at big 12 front == ng_major then body.Section else body.Faulty (NgVersion (c.blocks + 1))
body_said c big total front kind.Interface =
    if length c.described == most_interfaces
    then body.Faulty (Interfaces (c.blocks + 1))
    else body.Interface (short_at big 8 front) (long_at big 12 front)
body_said c big total front kind.Enhanced = enhanced_body c big total front (slice_get c.described (long_at big 8 front))
body_said c big total front kind.Simple = simple_body c big total front (slice_get c.described 0)
body_said c big total front kind.Other = body.Other

-- how many captured bytes follow the front
abbrev pub captured_in : Body → ℕ
captured_in (body.Packet p) = p.captured
captured_in _ = 0

-- the packet with these values and captured bytes
abbrev pub packet_told : Packet → List ℕ → CapturedPacket
packet_told p captured = record { link = p.link; moment = p.moment; original = p.len; captured = captured }

-- its timestamp is at most the greatest one
abbrev pub IsEarly : Body → Type 0
IsEarly (body.Packet p) = p.moment ≤ max_rank
IsEarly _ = ⊤

-- it captures no more bytes than a packet may
abbrev pub IsShortBody : Body → Type 0
IsShortBody (body.Packet p) = p.captured ≤ most_captured
IsShortBody _ = ⊤
