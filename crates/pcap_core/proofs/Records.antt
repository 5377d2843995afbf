-- Facts about the remaining bytes, from the pieces taken from them.
use Rattle.pcap_core.proofs.Prelude.{◌≡◌, ap, arith, [], ◌<◌, ◌∙◌, List, None, sym, ℕ, ◌++◌, Option, Some, length, refl, ◌+◌, append_assoc, false, ◌≤◌, length-append, subst, take, Bool, Err, Ok, true, drop_at, length-take, take-append-drop, length-replicate, IfSome, Fault, bad_magic, data_cut, header_cut, pcap_ng, record_cut, record_long, too_many, version, IsHeaderFault, IsHeader, broken, found, front_of, most_records, Record, IsRecordFault, IsSpelling, captured_len, most_captured, record_len, Head, IsFrameOf, IsFrontFault, Passes, IsAll, TakesHeader, TakesRecord, TakesPreface, TakesFront, rest_of, IsWhole, IsShort, LeavesNothing}
use Rattle.std.proofs.Math.ListN.{replicate}
use Rattle.pcap_defs.specs.Number.{long_at}
use Rattle.pcap_defs.specs.Reading.{head_of as head_in_file}
use Rattle.pcap_defs.proofs.Numbers.{number_at-append}
use Rattle.pcap_defs.proofs.Headers.{head_of-header, head_of-fault}
use Rattle.pcap_defs.proofs.FrontTests.{front_of-spelled, front_of-fault}
use Rattle.pcap_core.specs.Frames.{IsPreface}
use Rattle.pcap_core.specs.declared.header.RecordHeader.{RecordHeader}

-- if nothing could be taken, nothing was left
pub whole-none : (old : Option (List ℕ)) (most : ℕ) (front : List ℕ) → IsShort old front most → length front < most → front ≡ [] → IsWhole old
whole-none None most front short less none = tt
whole-none (Some left) most front short less none = short less ∙ none

-- and nothing is left afterwards
pub whole-over : (old new : Option (List ℕ)) (most : ℕ) (front : List ℕ) → TakesFront old new front → IsShort old front most → length front < most → front ≡ [] → LeavesNothing old new
whole-over None new most front taken short less none = tt
whole-over (Some left) None most front taken short less none = absurd taken
whole-over (Some left) (Some rest) most front taken short less none =
    let split : left ≡ rest = taken ∙ ap (λ xs. xs ++ rest) none in
    ap Some (sym split ∙ short less ∙ none)

two-fronts : (old mid new : Option (List ℕ)) (a b : List ℕ) → TakesFront old mid a → TakesFront mid new b → TakesFront old new (a ++ b)
two-fronts None mid new a b first second = tt
two-fronts (Some old) None new a b first second = absurd first
two-fronts (Some old) (Some mid) None a b first second = absurd second
two-fronts (Some old) (Some mid) (Some new) a b first second = first ∙ ap (λ xs. a ++ xs) second ∙ sym (append_assoc a b new)

-- a record taken in two pieces
pub record-taken : (big : Bool) (front captured : List ℕ) (old mid new : Option (List ℕ)) → TakesFront old mid front → TakesFront mid new captured
    → length front ≡ record_len → captured_len big front ≡ length captured → length captured ≤ most_captured
    → TakesRecord big (record { seconds = long_at big 0 front; fraction = long_at big 4 front; original = long_at big 12 front; captured = captured }) old new
record-taken big front captured old mid new first second size counted short =
    let at : (at : ℕ) → at + 4 ≤ record_len → long_at big at (front ++ captured) ≡ long_at big at front =
    λ at h. number_at-append big 4 at front captured (omega (arith, size, h)) in (
      front ++ captured,
      record {
        seconds = at 0 (omega arith);
        fraction = at 4 (omega arith);
        counted = at 8 (omega arith) ∙ counted;
        original = at 12 (omega arith);
        captured = drop_at front captured record_len size;
        whole = length-append front captured ∙ ap (λ m. m + length captured) size;
        short = short;
      },
      two-fronts old mid new front captured first second,
    )

front-fault : (big : Bool) (n : ℕ) (front rest left : List ℕ) (fault : Fault) → left ≡ front ++ rest → (length front < record_len → left ≡ front)
    → IsFrontFault big n front fault → IsRecordFault big n left fault
front-fault big n front rest left too_many split short h = (h.0, omega (arith, ap length split, length-append front rest, h.1))
front-fault big n front rest left (record_cut k) split short h =
    subst (λ xs. IsRecordFault big n xs (record_cut k)) (sym (short h.3)) h
front-fault big n front rest left (record_long k) split short h =
    let counted : captured_len big left ≡ captured_len big front = ap (captured_len big) split ∙ number_at-append big 4 8 front rest (omega (arith, h.2)) in
    (h.0, h.1, omega (arith, ap length split, length-append front rest, h.2), omega (arith, counted, h.3))
front-fault big n front rest left (data_cut k) split short h = absurd h
front-fault big n front rest left header_cut split short h = absurd h
front-fault big n front rest left bad_magic split short h = absurd h
front-fault big n front rest left pcap_ng split short h = absurd h
front-fault big n front rest left version split short h = absurd h

-- a fault that the first bytes of a record show
pub front-broken : (big : Bool) (n : ℕ) (front : List ℕ) (old mid : Option (List ℕ)) (fault : Fault) → TakesFront old mid front → IsShort old front record_len
    → IsFrontFault big n front fault → IfSome old (λ left. IsRecordFault big n left fault)
front-broken big n front None mid fault taken short h = tt
front-broken big n front (Some left) None fault taken short h = absurd taken
front-broken big n front (Some left) (Some rest) fault taken short h = front-fault big n front rest left fault taken short h

-- fewer than `most` bytes are left if fewer were taken, and if fewer were skipped
pub short-taken : (most : ℕ) (mid : Option (List ℕ)) (captured : List ℕ) → IsShort mid captured most → length captured < most → IfSome mid (λ rest. length rest < most)
short-taken most None captured short cut = tt
short-taken most (Some rest) captured short cut = omega (arith, ap length (short cut), cut)

pub short-passed : (most n : ℕ) (mid : Option (List ℕ)) → IsAll n mid → n < most → IfSome mid (λ rest. length rest < most)
short-passed most n None all cut = tt
short-passed most n (Some rest) all cut = omega (arith, all, cut)

-- captured bytes that are cut
pub data-broken : (head : Head) (n k : ℕ) (p : RecordHeader) (old mid : Option (List ℕ)) → TakesPreface head p old mid → IfSome mid (λ rest. length rest < p.captured)
    → n < most_records → k ≡ n + 1 → p.captured ≤ most_captured → IfSome old (λ left. IsRecordFault head.big n left (data_cut k))
data-broken head n k p None mid taken cut few number short = tt
data-broken head n k p (Some left) None (front, says, taken) cut few number short = absurd taken
data-broken head n k p (Some left) (Some rest) (front, says, taken) cut few number short =
    let counted : captured_len head.big left ≡ captured_len head.big front = ap (captured_len head.big) taken ∙ number_at-append head.big 4 8 front rest (omega (arith, says.whole)) in
    let len : length left ≡ length front + length rest = ap length taken ∙ length-append front rest in
    (few, number, omega (arith, len, says.whole), omega (arith, counted, says.counted, short), omega (arith, counted, len, says.whole, says.counted, cut))

-- a record taken in two pieces, and its frame
pub frame-taken : (head : Head) (number : ℕ) (p : RecordHeader) (captured : List ℕ) (old mid new : Option (List ℕ)) → TakesPreface head p old mid → TakesFront mid new captured
    → p.captured ≤ most_captured → p.captured ≡ length captured
    → (r : Record) × IsFrameOf head.nano r (record { number = number; moment = p.moment; captured = p.captured; len = p.len }) captured × TakesRecord head.big r old new
frame-taken head number p captured old mid new (front, says, first) second short counted = (
  record { seconds = long_at head.big 0 front; fraction = long_at head.big 4 front; original = long_at head.big 12 front; captured = captured },
  record { moment_is = sym says.moment_is; original = sym says.original; captured = refl },
  record-taken head.big front captured old mid new first second says.whole (sym says.counted ∙ counted) (omega (arith, counted, short)),
)

-- a record that the window has as a whole, and its frame
pub frame-held : (head : Head) (number : ℕ) (p : RecordHeader) (held front captured now : List ℕ) (left : Option (List ℕ)) → IsPreface head p front → held ≡ front ++ (captured ++ now)
    → p.captured ≤ most_captured → p.captured ≡ length captured
    → (r : Record) × IsFrameOf head.nano r (record { number = number; moment = p.moment; captured = p.captured; len = p.len }) captured
    × TakesRecord head.big r (rest_of held left) (rest_of now left)
frame-held head number p held front captured now None says split short counted =
    frame-taken head number p captured None None None (front, says, tt) tt short counted
frame-held head number p held front captured now (Some left) says split short counted =
    frame-taken head number p captured (Some (held ++ left)) (Some ((captured ++ now) ++ left)) (Some (now ++ left))
    (front, says, ap (λ xs. xs ++ left) split ∙ append_assoc front (captured ++ now) left) (append_assoc captured now left) short counted

-- skipped bytes were at the front of the remaining bytes
passed-taken : (n : ℕ) (mid new : Option (List ℕ)) → Passes n mid new → (bytes : List ℕ) × (n ≡ length bytes) × TakesFront mid new bytes
passed-taken n None new passed = (replicate n 0, sym (length-replicate n 0), tt)
passed-taken n (Some mid) None passed = absurd passed
passed-taken n (Some mid) (Some new) passed =
    (take n mid, omega (arith, length-take n mid, passed.0), sym (take-append-drop n mid) ∙ ap (λ xs. take n mid ++ xs) (sym passed.1))

-- a record whose captured bytes were skipped
pub record-passed : (head : Head) (n : ℕ) (p : RecordHeader) (old mid new : Option (List ℕ)) → TakesPreface head p old mid → Passes n mid new → n ≡ p.captured → p.captured ≤ most_captured
    → (r : Record) × TakesRecord head.big r old new
record-passed head n p old mid new taken passed all short =
    let (captured, counted, second) = passed-taken n mid new passed in
    let (r, is, spelled) = frame-taken head 0 p captured old mid new taken second short (sym all ∙ counted) in
    (r, spelled)

-- a file that begins with a valid header has no header fault
header-clean : (head : Head) (header rest file : List ℕ) → file ≡ header ++ rest → IsHeader head header → (fault : Fault) → IsHeaderFault file fault → false ≡ true
header-clean head header rest file split h fault faulty =
    let accepted : head_in_file file ≡ Ok head = ap head_in_file split ∙ head_of-header head header rest h in
    let refused : head_in_file file ≡ Err fault = head_of-fault file fault faulty in
    cc

pub header-sound : (head : Head) (old new : Option (List ℕ)) → TakesHeader head old new
    → IfSome old (λ file. (fault : Fault) → IsHeaderFault file fault → false ≡ true)
header-sound head None new taken = tt
header-sound head (Some file) None taken = absurd taken.2
header-sound head (Some file) (Some rest) taken = header-clean head taken.0 rest file taken.2 taken.1

-- if a record can be taken, the remaining bytes have no record fault
record-clean : (big : Bool) (n : ℕ) (r : Record) (spelling rest left : List ℕ) → n < most_records → left ≡ spelling ++ rest → IsSpelling big r spelling
    → (fault : Fault) → IsRecordFault big n left fault → false ≡ true
record-clean big n r spelling rest left few split spelled fault faulty =
    let accepted : front_of big n left ≡ found r rest = ap (front_of big n) split ∙ front_of-spelled big n r spelling rest few spelled in
    let refused : front_of big n left ≡ broken fault = front_of-fault big n left fault faulty in
    cc

pub record-sound : (flag big : Bool) (n : ℕ) (r : Record) (old new : Option (List ℕ)) → flag ≡ big → n < most_records → TakesRecord big r old new
    → IfSome old (λ left. (fault : Fault) → IsRecordFault flag n left fault → false ≡ true)
record-sound flag big n r None new same few taken = tt
record-sound flag big n r (Some left) None same few taken = absurd taken.2
record-sound flag big n r (Some left) (Some rest) same few taken =
    record-clean flag n r taken.0 rest left few taken.2 (subst (λ b. IsSpelling b r taken.0) (sym same) taken.1)

-- and some bytes are left
pub record-some : (big : Bool) (r : Record) (old new : Option (List ℕ)) → TakesRecord big r old new → IfSome old (λ left. left ≡ [] → true ≡ false)
record-some big r None new taken = tt
record-some big r (Some left) None taken = absurd taken.2
record-some big r (Some left) (Some rest) (spelling, spelled, taken) = λ none.
    let counted : length left ≡ length spelling + length rest = ap length taken ∙ length-append spelling rest in
    let nothing : length left ≡ 0 = ap length none in
    absurd (omega (arith, counted, nothing, spelled.whole))
