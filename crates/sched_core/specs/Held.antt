-- The queued packets, by number.
use Rattle.std.specs.Prelude.{ℕ, nat_eq, Option, None, Some, List, ◌++◌}
use Rattle.indexmap.specs.IndexMap.{get, keys}
use Rattle.packet_defs.specs.declared.packet.Packet.{Packet}
use Rattle.sched_defs.specs.SourceState.{Held}
use Rattle.sched_core.specs.declared.held.Held.{Held as Holder}
use Rattle.sched_core.specs.Windows.{packet_at, numbers_of}

-- the packet in a slot, or else the stray
abbrev pub or_stray : Option Packet → Option Packet → Option Packet
or_stray (Some p) stray = Some p
or_stray None stray = stray

-- the packet that is queued under a number, if there is one
unfoldable pub held_at : Holder → Held
held_at h n = or_stray (packet_at h.window n) (get nat_eq h.strays n)

-- the numbers under which packets are queued
unfoldable pub numbers_in : Holder → List ℕ
numbers_in h = numbers_of h.window ++ keys h.strays
