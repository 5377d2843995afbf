-- The contents left after each result of a reader, in the terms shared by all capture formats.
use Rattle.pcap_core.proofs.Prelude.{◌≡◌, ◌≤◌, arith, true, Bool, Ok, ap, [], ◌<◌, ◌∙◌, List, None, sym, ℕ, Option, Some, refl, ◌+◌, false, subst, ◌∷◌, option_map_or, IfSome, map, option_map, capture_of-fault, capture_of-header, records_left-fault, records_left-nothing, records_left-record, IsHeaderFault, capture_of, records_left, with_first, most_records, Record, IsRecordFault, moment, Head, IsFrameOf, head_read, contents_in, TakesHeader, TakesRecord, IsWhole, LeavesNothing, LinkedFrame}
use Rattle.std.specs.Prelude.{if◌then◌else◌}
use Rattle.std.proofs.lemmas.Option.{IfSome_then}
use Rattle.pcap_defs.specs.Packet.{packet_with}
use Rattle.pcap_defs.specs.Contents.{FaultAt, no_capture, fault_at, in_capture}
use Rattle.pcap_core.specs.Captures.{packet_of, fault_told, Opens, Comes, IsOneLess, IsAt, LeavesNone, Skips}
use Rattle.pcap_core.specs.Rest.{HasEnded}
use Rattle.pcap_core.specs.Faults.{fault_in, read_error_as}
use Rattle.pcap_core.specs.declared.fault.CaptureFault.{CaptureFault}
use Rattle.pcap_core.specs.declared.fault.CaptureFault.TheVariants.{HeaderCut, BadMagic, PcapNg, Version, RecordCut, DataCut, RecordLong, TooMany, ReadFault, NoMemory}

-- a property of the fault that an error names, and of no fault, also holds after the conversion to
-- a `ReadError`
unread-by : (P : Option FaultAt → Type 0) (refusal : CaptureFault) → P None → IfSome (fault_in refusal) (λ f. P (Some (fault_at f))) → P (fault_told (read_error_as refusal))
unread-by P HeaderCut none h = h
unread-by P BadMagic none h = h
unread-by P PcapNg none h = h
unread-by P Version none h = h
unread-by P (RecordCut n) none h = h
unread-by P (DataCut n) none h = h
unread-by P (RecordLong n) none h = h
unread-by P TooMany none h = h
unread-by P ReadFault none h = none
unread-by P NoMemory none h = none

-- after the header, all contents are left
opens : (head : Head) (file rest : Option (List ℕ)) → TakesHeader head file rest → IfSome file (λ f. Opens (in_capture (capture_of f)) (option_map (contents_in head 0) rest))
opens head None rest t = tt
opens head (Some file) None (header, is, taken) = absurd taken
opens head (Some file) (Some after) (header, is, taken) =
    subst (λ c. Opens (in_capture c) (Some (contents_in head 0 after))) (sym (ap capture_of taken ∙ capture_of-header head header after is)) refl

pub opens-at : (head : Head) (kept : Option Head) (given : ℕ) (file rest : Option (List ℕ)) → kept ≡ Some head → given ≡ 0 → TakesHeader head file rest
    → IfSome file (λ f. Opens (in_capture (capture_of f)) (option_map (contents_in (head_read kept) given) rest))
opens-at head kept given file rest same none t = rw (same, none) (opens head file rest t)

-- a rejected file is no capture
pub refuses : (refusal : CaptureFault) (file : Option (List ℕ)) → IfSome (fault_in refusal) (λ f. IfSome file (λ bytes. IsHeaderFault bytes f))
    → IfSome (fault_told (read_error_as refusal)) (λ g. IfSome file (λ bytes. in_capture (capture_of bytes) ≡ no_capture g))
refuses refusal file h =
    unread-by (λ o. IfSome o (λ g. IfSome file (λ bytes. in_capture (capture_of bytes) ≡ no_capture g))) refusal tt
    (IfSome_then (fault_in refusal) h (λ f is. IfSome_then file is (λ bytes bad. ap in_capture (capture_of-fault f bytes bad))))

-- a record is the next packet, with its frame and captured bytes
packet-is : (head : Head) (r : Record) (f : LinkedFrame) (bytes : List ℕ) → IsFrameOf head.nano r f.frame bytes → f.link ≡ head.link → packet_with head r ≡ packet_of f bytes
packet-is head r f bytes is linked =
    ap (λ l. record { link = l; moment = moment head.nano r; original = r.original; captured = r.captured }) (sym linked)
    ∙ ap (λ m. record { link = f.link; moment = m; original = r.original; captured = r.captured }) is.moment_is
    ∙ ap (λ n. record { link = f.link; moment = f.frame.moment; original = n; captured = r.captured }) is.original
    ∙ ap (λ c. record { link = f.link; moment = f.frame.moment; original = f.frame.len; captured = c }) is.captured

comes : (head : Head) (n : ℕ) (old new : Option (List ℕ)) (r : Record) (f : LinkedFrame) (bytes : List ℕ) → n < most_records → IsFrameOf head.nano r f.frame bytes → f.link ≡ head.link
    → TakesRecord head.big r old new → Comes (option_map (contents_in head n) old) (option_map (contents_in head (n + 1)) new) (packet_of f bytes)
comes head n None new r f bytes few is linked t = tt
comes head n (Some old) None r f bytes few is linked (spelling, spelled, taken) = absurd taken
comes head n (Some old) (Some new) r f bytes few is linked (spelling, spelled, taken) =
    let e : records_left head.big n old ≡ with_first r (records_left head.big (n + 1) new) =
    ap (records_left head.big n) taken ∙ records_left-record head.big n r spelling new few spelled in
    (ap (λ run. map (packet_with head) run.0) e ∙ ap (λ p. p ∷ (contents_in head (n + 1) new).packets) (packet-is head r f bytes is linked), ap (λ run. option_map fault_at run.1) e)

pub comes-at : (before after : Option Head) (n next : ℕ) (old new : Option (List ℕ)) (r : Record) (f : LinkedFrame) (bytes : List ℕ) → after ≡ before → next ≡ n + 1 → n < most_records
    → IsFrameOf (option_map_or (λ (h : Head). h.nano) before false) r f.frame bytes → f.link ≡ (head_read after).link → TakesRecord (option_map_or (λ (h : Head). h.big) before false) r old new
    → Comes (option_map (contents_in (head_read before) n) old) (option_map (contents_in (head_read after) next) new) (packet_of f bytes)
comes-at None after n next old new r f bytes same given few is linked t = rw (same, given) (comes (head_read None) n old new r f bytes few is (rw same at linked) t)
comes-at (Some head) after n next old new r f bytes same given few is linked t = rw (same, given) (comes head n old new r f bytes few is (rw same at linked) t)

-- so one packet was taken, even if its captured bytes aren't returned
pub one-less : (before after : Option Head) (n next : ℕ) (old new : Option (List ℕ)) (r : Record) → after ≡ before → next ≡ n + 1 → n < most_records
    → TakesRecord (option_map_or (λ (h : Head). h.big) before false) r old new
    → IsOneLess (option_map (contents_in (head_read before) n) old) (option_map (contents_in (head_read after) next) new)
one-less before after n next old new r same given few t =
    let nano = option_map_or (λ (h : Head). h.nano) before false in
    let f : LinkedFrame = record { frame = record { number = next; moment = moment nano r; captured = 0; len = r.original }; link = (head_read after).link } in
    (packet_of f r.captured, comes-at before after n next old new r f r.captured same given few (record { moment_is = refl; original = refl; captured = refl }) refl t)

-- no packet and no fault is left if no bytes are
pub ends : (head : Head) (n : ℕ) (old : Option (List ℕ)) → IsWhole old → IsAt None (option_map (contents_in head n) old)
ends head n None whole = tt
ends head n (Some old) whole =
    let e : records_left head.big n old ≡ ([], None) = ap (records_left head.big n) whole ∙ records_left-nothing head.big n in
    (ap (λ run. map (packet_with head) run.0) e, ap (λ run. option_map fault_at run.1) e)

-- and no contents are left afterwards
pub leaves : (head : Head) (n next : ℕ) (kept : Option Head) (old new : Option (List ℕ)) → LeavesNothing old new → LeavesNone (option_map (contents_in head n) old) (option_map (contents_in (head_read kept) next) new)
leaves head n next kept None new none = tt
leaves head n next kept (Some old) new none =
    ap (option_map (contents_in (head_read kept) next)) none
    ∙ ap (λ run. Some (record { packets = map (packet_with (head_read kept)) run.0; fault = option_map fault_at run.1 })) (records_left-nothing (head_read kept).big next)

-- a fault is returned only if no record is left before it
pub halts : (kept : Option Head) (n : ℕ) (refusal : CaptureFault) (rest : Option (List ℕ))
    → IfSome (fault_in refusal) (λ f. IfSome rest (λ left. IsRecordFault (option_map_or (λ (h : Head). h.big) kept false) n left f))
    → IfSome (fault_told (read_error_as refusal)) (λ g. IsAt (Some g) (option_map (contents_in (head_read kept) n) rest))
halts kept n refusal None h = unread-by (λ o. IfSome o (λ g. IsAt (Some g) None)) refusal tt (IfSome_then (fault_in refusal) h (λ f is. tt))
halts None n refusal (Some rest) h =
    unread-by (λ o. IfSome o (λ g. IsAt (Some g) (Some (contents_in (head_read None) n rest)))) refusal tt
    (IfSome_then (fault_in refusal) h
    (λ f is. (let e = records_left-fault false n rest f is in
    (ap (λ run. map (packet_with (head_read None)) run.0) e, ap (λ run. option_map fault_at run.1) e))))
halts (Some head) n refusal (Some rest) h =
    unread-by (λ o. IfSome o (λ g. IsAt (Some g) (Some (contents_in head n rest)))) refusal tt
    (IfSome_then (fault_in refusal) h
    (λ f is. (let e = records_left-fault head.big n rest f is in
    (ap (λ run. map (packet_with head) run.0) e, ap (λ run. option_map fault_at run.1) e))))

-- the result of a call that skips a record, if that succeeds
pub skips : (some : Bool) (before after : Option Head) (n next : ℕ) (old new : Option (List ℕ)) → after ≡ before → next ≡ n + (if some then 1 else 0) → (some ≡ true → next ≤ most_records)
    → (some ≡ true → (r : Record) × TakesRecord (option_map_or (λ (h : Head). h.big) before false) r old new) → (some ≡ false → HasEnded old new)
    → Skips (Ok some) (option_map (contents_in (head_read before) n) old) (option_map (contents_in (head_read after) next) new)
skips true before after n next old new same given few found ended =
    let f = found refl in
    one-less before after n next old new f.0 same given (omega (arith, given, few refl)) f.1
skips false before after n next old new same given few found ended =
    let e = ended refl in
    (ends (head_read before) n old e.ended, leaves (head_read before) n next after old new e.over)
