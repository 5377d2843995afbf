-- The contents left after each result of a reader, in the terms shared by all capture formats.
use Rattle.pcapng_core.proofs.Prelude.{◌≡◌, Ok, ℕ, List, sym, ◌∙◌, ap, Option, Some, subst, None, IfSome, refl, ◌≢◌, [], ◌∷◌, IfNone, is_some, LeavesNothing, CapturedPacket, reads_faults, goes_block_by_block, Carried, at_start, BlockFault, broken, front_of, Reading, at_front, behind, reading_of, ng_capture_of, fault_in, read_error_as, GoesOn, IsOver, TakesBlock, NgFault, Interfaces, NgVersion, PacketLength, BlockCut, BlockEnd, BlockLength, NoInterface, NoMemory, OrderMagic, ReadFault, TooManyBlocks}
use Rattle.std.specs.Prelude.{option_map}
use Rattle.std.proofs.lemmas.Option.{IfSome_then}
use Rattle.pcap_defs.specs.Contents.{FaultAt, no_capture}
use Rattle.pcap_core.specs.declared.frame.LinkedFrame.{LinkedFrame}
use Rattle.pcap_core.specs.Captures.{packet_of, fault_told, Opens, Comes, IsAt, LeavesNone, Reads, Skips}
use Rattle.pcap_core.specs.Frames.{IsNextFrame}
use Rattle.pcapng_core.specs.Readers.{HasNoPacket}
use Rattle.pcapng_defs.specs.NgContents.{block_fault_at, contents_read, behind_front, in_ng_capture}
use Rattle.pcapng_core.specs.Left.{contents_in}

-- a property of the fault that an error names, and of no fault, also holds after the conversion to
-- a `ReadError`
unread-by : (P : Option FaultAt → Type 0) (refusal : NgFault) → P None → IfSome (fault_in refusal) (λ f. P (Some (block_fault_at f))) → P (fault_told (read_error_as refusal))
unread-by P (BlockCut n) none h = h
unread-by P (BlockLength n) none h = h
unread-by P (OrderMagic n) none h = h
unread-by P (NgVersion n) none h = h
unread-by P (NoInterface n) none h = h
unread-by P (PacketLength n) none h = h
unread-by P (Interfaces n) none h = h
unread-by P (TooManyBlocks n) none h = h
unread-by P (BlockEnd n) none h = h
unread-by P ReadFault none h = none
unread-by P NoMemory none h = none

-- after the first block, all contents of the file are left
pub opens : (after : Carried) (file rest : Option (List ℕ)) → TakesBlock at_start None after file rest → IfSome file (λ f. Opens (in_ng_capture f) (option_map (contents_in after) rest))
opens after None rest t = tt
opens after (Some file) None t = absurd t
opens after (Some file) (Some rest) t =
    subst (λ r. Opens (behind_front (front_of at_start file) r) (Some (contents_in after rest))) (sym (goes_block_by_block at_start file ∙ ap (at_front reading_of at_start) t))
    (subst (λ f. Opens (behind_front f (behind [] (reading_of after rest))) (Some (contents_in after rest))) (sym t) refl)

-- a rejected file is no capture
pub refuses : (refusal : NgFault) (file : Option (List ℕ)) → IfSome (fault_in refusal) (λ f. IfSome file (λ bytes. front_of at_start bytes ≡ broken f))
    → IfSome (fault_told (read_error_as refusal)) (λ g. IfSome file (λ bytes. in_ng_capture bytes ≡ no_capture g))
refuses refusal file h =
    unread-by (λ o. IfSome o (λ g. IfSome file (λ bytes. in_ng_capture bytes ≡ no_capture g))) refusal tt
    (IfSome_then (fault_in refusal) h (λ f is. IfSome_then file is (λ bytes bad. ap (λ front. behind_front front (ng_capture_of bytes)) bad)))

-- the packet read is the next one
comes : (c after : Carried) (packet : CapturedPacket) (old new : Option (List ℕ)) → GoesOn c (packet ∷ []) after old new → Comes (option_map (contents_in c) old) (option_map (contents_in after) new) packet
comes c after packet None new goes = tt
comes c after packet (Some old) None goes = absurd goes
comes c after packet (Some old) (Some new) goes = (ap (λ (r : Reading). r.packets) goes, ap (λ (r : Reading). option_map block_fault_at r.fault) goes)

-- no packet is left, and this fault or none
at-fault : (c : Carried) (fault : Option BlockFault) (old : Option (List ℕ)) → IfSome old (IsOver c fault) → IsAt (option_map block_fault_at fault) (option_map (contents_in c) old)
at-fault c fault None over = tt
at-fault c fault (Some old) over = (over.none, ap (option_map block_fault_at) over.ends)

ends : (c : Carried) (old : Option (List ℕ)) → IfSome old (IsOver c None) → IsAt None (option_map (contents_in c) old)
ends c old over = at-fault c None old over

pub halts : (c : Carried) (refusal : NgFault) (old : Option (List ℕ)) → IfSome (fault_in refusal) (λ f. IfSome old (IsOver c (Some f)))
    → IfSome (fault_told (read_error_as refusal)) (λ g. IsAt (Some g) (option_map (contents_in c) old))
halts c refusal old h =
    unread-by (λ o. IfSome o (λ g. IsAt (Some g) (option_map (contents_in c) old))) refusal tt
    (IfSome_then (fault_in refusal) h (λ f over. at-fault c (Some f) old over))

-- after a block, no contents are left if no bytes are
leaves : (c after : Carried) (old new : Option (List ℕ)) → LeavesNothing old new → after.blocks ≢ 0 → LeavesNone (option_map (contents_in c) old) (option_map (contents_in after) new)
leaves c after None new none some = tt
leaves c after (Some old) new none some =
    ap (option_map (contents_in after)) none
    ∙ ap (λ (r : Reading). Some (contents_read r)) (goes_block_by_block after [] ∙ ap (at_front reading_of after) ((reads_faults.ends after []).0 (refl, some)))

-- the result of a call that reads the next packet, if that succeeds
pub reads : (c after : Carried) (n : ℕ) (given : Option LinkedFrame) (bytes : List ℕ) (old new : Option (List ℕ)) → IfSome given (λ f. GoesOn c (packet_of f bytes ∷ []) after old new)
    → IfSome given (λ f. IsNextFrame n f.frame bytes) → IfNone given (HasNoPacket c after old new) → Reads (Ok given) (option_map (contents_in c) old) (option_map (contents_in after) new) n bytes
reads c after n None bytes old new goes next none = (ends c old none.ended, leaves c after old new none.over none.came)
reads c after n (Some f) bytes old new goes next none = (comes c after (packet_of f bytes) old new goes, next)

-- the same for a call that skips it
pub skips : (c after : Carried) (given : Option LinkedFrame) (bytes : List ℕ) (old new : Option (List ℕ)) → IfSome given (λ f. GoesOn c (packet_of f bytes ∷ []) after old new)
    → IfNone given (HasNoPacket c after old new) → Skips (Ok (is_some given)) (option_map (contents_in c) old) (option_map (contents_in after) new)
skips c after None bytes old new goes none = (ends c old none.ended, leaves c after old new none.over none.came)
skips c after (Some f) bytes old new goes none = (packet_of f bytes, comes c after (packet_of f bytes) old new goes)
