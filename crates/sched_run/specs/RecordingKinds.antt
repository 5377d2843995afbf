-- The recorded outcomes, given knowledge of the packets' captured bytes.
use Rattle.std.specs.Prelude.{◌≡◌, ℕ, List, [], ⊤}
use Rattle.packet_defs.specs.declared.packet.Packet.{Packet}
use Rattle.sched_defs.specs.Packets.{Captured}
use Rattle.sched_run.specs.declared.recorder.Recorder as recorder
use Rattle.sched_run.specs.Recording.{Recordings}

-- the record that holds for all captured bytes with H
abbrev pub recording : {W : Type 0} → recorder.Ghosts W → (Captured → Type 0) → Recordings W
recording R H = record {
  records = λ w a policy event os v b. (captured : Captured) → H captured → R.records captured w a policy event os v b;
  cuts = λ w a policy event os b. (captured : Captured) → H captured → R.cuts captured w a policy event os b;
}

-- the captured bytes may be any
abbrev pub any_bytes : Captured → Type 0
any_bytes captured = ⊤

-- these are the captured bytes of a packet
abbrev pub IsCapturedAs : Packet → List ℕ → Captured → Type 0
IsCapturedAs p bytes captured = captured p.number ≡ bytes

-- the record for any captured bytes, and the one for a packet that has these bytes
abbrev pub recording_any : {W : Type 0} → recorder.Ghosts W → Recordings W
recording_any R = recording R any_bytes

abbrev pub recording_one : {W : Type 0} → recorder.Ghosts W → Packet → List ℕ → Recordings W
recording_one R p bytes = recording R (IsCapturedAs p bytes)

-- no packet has captured bytes
abbrev pub no_bytes : Captured → Type 0
no_bytes captured = (n : ℕ) → captured n ≡ []

abbrev pub recording_none : {W : Type 0} → recorder.Ghosts W → Recordings W
recording_none R = recording R no_bytes
