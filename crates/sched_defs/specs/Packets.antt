-- Packets that arrive one by one.
use Rattle.std.specs.Prelude.{◌≡◌, ◌≤◌, ℕ, ◌+◌, ◌==◌, Bool, if◌then◌else◌, Option, None, Some, List, [], ◌∷◌, ◌++◌, length, IfSome, Result, IfOk, OnOk, IsErrOf, ⊤}
use Rattle.pcap_defs.specs.Packet.{CapturedPacket}
use Rattle.pcap_defs.specs.Record.{most_captured}
use Rattle.packet_defs.specs.declared.packet.Packet.{Packet}
use Rattle.policy_defs.specs.Policy.{Policy}
use Rattle.outside_core.specs.Faults.{Rose}
use Rattle.outside_core.specs.declared.read_error.ReadError.{ReadError}
use Rattle.outside_core.specs.declared.read_error.ReadError.TheVariants.{Fault, Source}
use Rattle.sched_defs.specs.Faults.{FaultAt}
use Rattle.sched_defs.specs.Numbered.{IsSendable}

-- the greatest number of packets that can arrive
abbrev pub most_packets : ℕ
most_packets = 4294967295

-- the packets still to arrive, in order, and the fault after them
pub record Left : Type 0 where
  pub packets : List Packet
  pub fault : Option FaultAt

-- if the packets still to arrive are known, these packets arrived
abbrev pub Came : Option Left → Option Left → List Packet → Type 0
Came None after packets = ⊤
Came (Some before) None packets = ⊥
Came (Some before) (Some after) packets = (before.packets ≡ packets ++ after.packets) × (before.fault ≡ after.fault)

-- one packet arrived, whichever it was
abbrev pub OneCame : Option Left → Option Left → Type 0
OneCame before after = (p : Packet) × Came before after (p ∷ [])

-- the captured bytes of packets, by their numbers
abbrev pub Captured : Type 0
Captured = ℕ → List ℕ

-- the captured bytes of consecutive packets, the first of which has this number
abbrev pub captured_from : ℕ → List CapturedPacket → Captured
captured_from first [] n = []
captured_from first (p ∷ packets) n = if n == first then p.captured else captured_from (first + 1) packets n

-- what was known of the captured bytes before is still known after
abbrev pub StaysKnown : (Captured → Type 0) → (Captured → Type 0) → Type 0
StaysKnown before after = (bytes : Captured) → before bytes → after bytes

-- these are the captured bytes of the packet with this number, by everything that was known
abbrev pub IsKnownAs : (Captured → Type 0) → ℕ → List ℕ → Type 0
IsKnownAs before n captured = (bytes : Captured) → before bytes → bytes n ≡ captured

-- if the packets still to arrive are known, such captured bytes exist
abbrev pub AreThere : Option Left → (Captured → Type 0) → Type 0
AreThere left captures = IfSome left (λ l. (bytes : Captured) × captures bytes)

-- if the rest is known, no packet and no fault is left
abbrev pub IsOver : Option Left → Type 0
IsOver left = IfSome left (λ l. (l.packets ≡ []) × (l.fault ≡ None))

-- if the rest is known, an error that reports a fault follows the last packet, and the fault is
-- the one that is there
abbrev pub IsReadError : Option Left → ReadError → Type 0
IsReadError left (Fault c p) = IfSome left (λ l. (l.packets ≡ []) × (l.fault ≡ Some (record { code = c; place = p })))
IsReadError left _ = ⊤

-- ---- the results of a call that reads the next packet
-- The packet has the next number, can be sent, and was the first one left. Its captured bytes are the
-- known ones, and at most 262,144.
pub record IsNextPacket (policy : Policy) (given : ℕ) (before after : Option Left) (known : Captured → Type 0) (p : Packet) (captured : List ℕ) : Type 0 where
  pub number : p.number ≡ given + 1
  pub sendable : IsSendable policy p
  pub came : Came before after (p ∷ [])
  pub bytes : IsKnownAs known p.number captured
  pub short : length captured ≤ most_captured

-- no packet arrived, and no packet and no fault is left
pub record HasEnded (before after : Option Left) : Type 0 where
  pub none : Came before after []
  pub over : IsOver after

-- the packet that arrived is counted, the count is within the limit, and the call can be made again
pub record MovesOn (result : Result Bool ReadError) (n n' : ℕ) (again : Type 0) : Type 0 where
  pub given : IfOk result (λ some. n' ≡ n + (if some then 1 else 0))
  pub few : OnOk result (n' ≤ most_packets)
  pub ready : OnOk result again

-- the count of faults doesn't fall, and rises if the call reports a fault of the source
pub record CountsFaults (result : Result Bool ReadError) (n n' : ℕ) : Type 0 where
  pub later : n ≤ n'
  pub cause : IsErrOf result Source → Rose n n'
