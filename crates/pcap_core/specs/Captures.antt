-- The packets that a reader of a capture has yet to return, in any capture format.
use Rattle.std.specs.Prelude.{◌≡◌, ℕ, Bool, true, false, Option, Some, None, List, [], ◌∷◌, Result, Ok, Err, IfSome, ⊤}
use Rattle.pcap_defs.specs.Packet.{CapturedPacket}
use Rattle.pcap_defs.specs.Contents.{FaultAt, Contents, FileContents, no_capture, holds}
use Rattle.pcap_core.specs.declared.frame.LinkedFrame.{LinkedFrame}
use Rattle.pcap_core.specs.Frames.{IsNextFrame}
use Rattle.outside_core.specs.declared.read_error.ReadError.{ReadError}
use Rattle.outside_core.specs.declared.read_error.ReadError.TheVariants.{Fault, Source, Memory}

-- the packet of a frame and its captured bytes
abbrev pub packet_of : LinkedFrame → List ℕ → CapturedPacket
packet_of f captured = record { link = f.link; moment = f.frame.moment; original = f.frame.len; captured = captured }

-- the fault of the file that an error reports, if it reports one
abbrev pub fault_told : ReadError → Option FaultAt
fault_told (Fault code place) = Some (record { code = code; place = place })
fault_told Source = None
fault_told Memory = None

-- the file is a capture, and all of its contents are left
abbrev pub Opens : FileContents → Option Contents → Type 0
Opens (no_capture fault) left = ⊥
Opens (holds contents) left = left ≡ Some contents

-- this packet was taken from the contents left, if these are known to the contract
abbrev pub Comes : Option Contents → Option Contents → CapturedPacket → Type 0
Comes None new packet = ⊤
Comes (Some old) None packet = ⊥
Comes (Some old) (Some new) packet = (old.packets ≡ packet ∷ new.packets) × (old.fault ≡ new.fault)

-- one packet was taken from the contents left, if these are known to the contract
abbrev pub IsOneLess : Option Contents → Option Contents → Type 0
IsOneLess old new = (packet : CapturedPacket) × Comes old new packet

-- no packet is left, and this fault or none, if the contents left are known to the contract
abbrev pub IsAt : Option FaultAt → Option Contents → Type 0
IsAt fault left = IfSome left (λ contents. (contents.packets ≡ []) × (contents.fault ≡ fault))

-- an error that reports a fault comes after the last packet, and the fault is the file's
abbrev pub StopsAt : Option Contents → ReadError → Type 0
StopsAt left error = IfSome (fault_told error) (λ fault. IsAt (Some fault) left)

abbrev pub nothing_left : Contents
nothing_left = record { packets = []; fault = None }

-- nothing is left now, if the contents left before were known to the contract
abbrev pub LeavesNone : Option Contents → Option Contents → Type 0
LeavesNone old new = IfSome old (λ contents. new ≡ Some nothing_left)

-- A call after `n` packets returns the next packet of the contents left, with these captured bytes. It
-- returns none only if none is left, and then nothing is left for a later call. A fault that it
-- reports is that of the contents.
abbrev pub Reads : Result (Option LinkedFrame) ReadError → Option Contents → Option Contents → ℕ → List ℕ → Type 0
Reads (Ok (Some f)) old new n captured = Comes old new (packet_of f captured) × IsNextFrame n f.frame captured
Reads (Ok None) old new n captured = IsAt None old × LeavesNone old new
Reads (Err error) old new n captured = StopsAt old error

-- the same for a call that skips a packet
abbrev pub Skips : Result Bool ReadError → Option Contents → Option Contents → Type 0
Skips (Ok true) old new = IsOneLess old new
Skips (Ok false) old new = IsAt None old × LeavesNone old new
Skips (Err error) old new = StopsAt old error
