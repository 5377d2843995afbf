-- The packets in slots.
use Rattle.std.specs.Prelude.{ℕ, ◌+◌, ◌-◌, ◌*◌, ◌<◌, ◌≤◌, ◌%◌, ◌^◌, ◌==◌, nat_le, nat_lt, Bool, true, ◌&&◌, if◌then◌else◌, Option, None, Some, List, [], ◌∷◌}
use Rattle.packet_defs.specs.declared.packet.Packet.{Packet}
use Rattle.sched_core.specs.declared.chunk.Slot.{Slot}

-- how much later a timestamp is than another one, in 64 bits: the difference wraps if it is earlier
abbrev pub later_than : ℕ → ℕ → ℕ
later_than base moment = (moment + (2 ^ 64 - base)) % 2 ^ 64

-- the packet fits a slot of a chunk with this timestamp: it is less than 2 ^ 48 later, its class has at most 8 bits, its length at most 16, and each address at most 32
abbrev pub IsBrief : ℕ → Packet → Type 0
IsBrief base p = (later_than base p.moment < 2 ^ 48) × (p.class < 2 ^ 8) × (p.len < 2 ^ 16) × (p.flow.source < 2 ^ 32) × (p.flow.target < 2 ^ 32)

-- the packet in a slot of a chunk with this timestamp, under its number
abbrev pub packet_in : ℕ → ℕ → Slot → Packet
packet_in base n slot = record {
  number = n;
  class = slot.class;
  len = slot.len;
  moment = (base + (slot.late_high * 2 ^ 32 + slot.late_low)) % 2 ^ 64;
  flow = record { version = slot.version; source = slot.source; target = slot.target; proto = slot.proto; sport = slot.sport; dport = slot.dport };
}

-- the position of a slot
abbrev pub place_of : Slot → ℕ
place_of slot = slot.mark % 64

-- a packet is in the slot, which wasn't emptied
abbrev pub is_filled : Slot → Bool
is_filled slot = nat_lt slot.mark 64

-- a packet is in the slot, and the position is its number's
abbrev pub stands_at : ℕ → Slot → Bool
stands_at place slot = (place_of slot == place) && is_filled slot

-- the packet under a number in slots of one chunk
abbrev pub packet_among : ℕ → List Slot → ℕ → Option Packet
packet_among base [] n = None
packet_among base (slot ∷ slots) n = if stands_at (n % 64) slot then Some (packet_in base n slot) else packet_among base slots n

-- how many packets are in the slots
abbrev pub filled_among : List Slot → ℕ
filled_among [] = 0
filled_among (slot ∷ slots) = (if is_filled slot then 1 else 0) + filled_among slots

-- the positions of the slots increase, and none is below the least
abbrev pub are_ordered : ℕ → List Slot → Bool
are_ordered least [] = true
are_ordered least (slot ∷ slots) = nat_le least (place_of slot) && are_ordered (place_of slot + 1) slots

-- the position after those of all slots, or the least if there are none
abbrev pub place_behind : ℕ → List Slot → ℕ
place_behind least [] = least
place_behind least (slot ∷ slots) = place_behind (place_of slot + 1) slots

-- the timestamp of a chunk when a packet gets a slot after these: if there are none, it is the packet's own
abbrev pub base_with : ℕ → List Slot → Packet → ℕ
base_with base [] p = p.moment
base_with base (slot ∷ slots) p = base

-- a packet can get a slot after these: it fits one, and its position is after theirs
abbrev pub FitsBehind : ℕ → List Slot → Packet → Type 0
FitsBehind base slots p = IsBrief (base_with base slots p) p × (place_behind 0 slots ≤ p.number % 64)
