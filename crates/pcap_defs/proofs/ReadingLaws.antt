-- Proves that reading a file agrees exactly with the grammar.
use Rattle.std.proofs.Common.{◌≡◌, ◌<◌, ◌≤◌, ◌+◌, ℕ, zero, suc, Bool, true, false, Option, Some, None, Result, Ok, Err, List, [], ◌∷◌, ◌++◌, length, take, drop, refl, sym, ap, ◌∙◌, subst, arith, append_assoc, length-append}
use Rattle.std.proofs.lemmas.List.{take-append-drop, drop_at, nil_from_length}
use Rattle.pcap_defs.specs.declared.head.Head.{Head}
use Rattle.pcap_defs.specs.Fault.{Fault, header_cut, bad_magic, pcap_ng, version, record_cut, data_cut, record_long, too_many}
use Rattle.pcap_defs.specs.Header.{header_len, IsHeader, IsHeaderFault}
use Rattle.pcap_defs.specs.Record.{Record, IsSpelling, AreSpellings, IsRecordFault, HasNoRecord, most_records}
use Rattle.pcap_defs.specs.Capture.{EndsWith, IsCapture}
use Rattle.pcap_defs.specs.Reading.{Capture, refused, packets, Front, nothing, broken, found, front_of, at_front, with_first, records_from, records_left, capture_with, capture_of, head_of, ReadsCaptures, ReadsRefusals, HasFaultOrRecord, MomentsAreSmall}
use Rattle.pcap_defs.proofs.FrontTests.{Says, front_of-fault, front_of-spelled, front_of-says}
use Rattle.pcap_defs.proofs.Headers.{HeadSays, head_of-fault, head_of-header, head_of-says}

-- the bytes after n records are the spellings of the records in `run`, and a rest that is empty or
-- has the fault of `run`
pub record Follow (big : Bool) (n : ℕ) (run : List Record × Option Fault) (bytes : List ℕ) : Type 0 where
  pub body : List ℕ
  pub rest : List ℕ
  pub bytes_are : bytes ≡ body ++ rest
  pub body_is : AreSpellings big run.0 body
  pub few : n + length run.0 ≤ most_records
  pub ends : EndsWith big (n + length run.0) rest run.1

-- if there is a fault, some bytes are left
fault-some : (big : Bool) (n : ℕ) (rest : List ℕ) (fault : Fault) → IsRecordFault big n rest fault → 0 < length rest
fault-some big n rest too_many h = h.1
fault-some big n rest (record_cut k) h = h.2
fault-some big n rest (record_long k) h = omega (arith, h.2)
fault-some big n rest (data_cut k) h = omega (arith, h.2)
fault-some big n rest header_cut h = absurd h
fault-some big n rest bad_magic h = absurd h
fault-some big n rest pcap_ng h = absurd h
fault-some big n rest version h = absurd h

at_front-says : (more : ℕ) (big : Bool) (n : ℕ) (rest : List ℕ) (front : Front) → Says big n rest front → n ≤ most_records → length rest ≤ suc more
    → ((others : List ℕ) → n + 1 ≤ most_records → length others ≤ more → Follow big (n + 1) (records_from more big (n + 1) others) others)
    → Follow big n (at_front (λ others. records_from more big (n + 1) others) front) rest
at_front-says more big n rest nothing h few size next =
    record { body = []; rest = rest; bytes_are = refl; body_is = refl; few = omega arith; ends = h }
at_front-says more big n rest (broken fault) h few size next =
    let same : n ≡ n + 0 = omega arith in
    record { body = []; rest = rest; bytes_are = refl; body_is = refl; few = omega arith; ends = subst (λ m. IsRecordFault big m rest fault) same h }
at_front-says more big n rest (found r others) h few size next =
    let len : length rest ≡ length h.1 + length others = ap length h.2 ∙ length-append h.1 others in
    let smaller : length others ≤ more = omega (arith, h.3.whole, len, size) in
    let f = next others (omega (arith, h.0)) smaller in
    let run = records_from more big (n + 1) others in
    let count : n + 1 + length (records_from more big (n + 1) others).0 ≡ n + suc (length (records_from more big (n + 1) others).0) = omega arith in
    record {
      body = h.1 ++ f.body;
      rest = f.rest;
      bytes_are = h.2 ∙ ap (λ xs. h.1 ++ xs) f.bytes_are ∙ sym (append_assoc h.1 f.body f.rest);
      body_is = (h.1, f.body, refl, h.3, f.body_is);
      few = omega (arith, f.few);
      ends = subst (λ m. EndsWith big m f.rest run.1) count f.ends;
    }

pub records_from-says : (more : ℕ) (big : Bool) (n : ℕ) (rest : List ℕ) → n ≤ most_records → length rest ≤ more → Follow big n (records_from more big n rest) rest
unfolding records_from
records_from-says zero big n rest few size =
    record { body = []; rest = rest; bytes_are = refl; body_is = refl; few = omega arith; ends = nil_from_length rest (omega arith) }
records_from-says (suc more) big n rest few size =
    at_front-says more big n rest (front_of big n rest) (front_of-says big n rest few) few size
    (λ others h l. records_from-says more big (n + 1) others h l)

-- the cases of an induction on the records: first the end, then the spelled records
pub records_from-ended : (more : ℕ) (big : Bool) (n : ℕ) (rest : List ℕ) (fault : Option Fault) → EndsWith big n rest fault → length rest ≤ more → records_from more big n rest ≡ ([], fault)
unfolding records_from front_of
records_from-ended zero big n rest None h size = refl
records_from-ended zero big n rest (Some fault) h size = absurd (omega (arith, fault-some big n rest fault h))
records_from-ended (suc more) big n rest None h size = ap (λ xs. records_from (suc more) big n xs) h
records_from-ended (suc more) big n rest (Some fault) h size = ap (at_front (λ others. records_from more big (n + 1) others)) (front_of-fault big n rest fault h)

pub records_from-spelled : (records : List Record) (more : ℕ) (big : Bool) (n : ℕ) (body rest : List ℕ) (fault : Option Fault)
    → AreSpellings big records body → n + length records ≤ most_records → EndsWith big (n + length records) rest fault
    → length (body ++ rest) ≤ more → records_from more big n (body ++ rest) ≡ (records, fault)
unfolding records_from
records_from-spelled [] more big n body rest fault h few ends size =
    let same : n + 0 ≡ n = omega arith in
    let alone : body ++ rest ≡ rest = ap (λ xs. xs ++ rest) h in
    ap (λ xs. records_from more big n xs) alone
    ∙ records_from-ended more big n rest fault (subst (λ m. EndsWith big m rest fault) same ends) (subst (λ xs. length xs ≤ more) alone size)
records_from-spelled (r ∷ records) zero big n body rest fault h few ends size =
    absurd (omega (arith, size, length-append body rest, ap length h.2 ∙ length-append h.0 h.1, h.3.whole))
records_from-spelled (r ∷ records) (suc more) big n body rest fault h few ends size =
    let split : body ++ rest ≡ h.0 ++ (h.1 ++ rest) = ap (λ xs. xs ++ rest) h.2 ∙ append_assoc h.0 h.1 rest in
    let len : length (body ++ rest) ≡ length h.0 + length (h.1 ++ rest) = ap length split ∙ length-append h.0 (h.1 ++ rest) in
    let count : n + suc (length records) ≡ n + 1 + length records = omega arith in
    ap (λ xs. records_from (suc more) big n xs) split
    ∙ ap (at_front (λ others. records_from more big (n + 1) others)) (front_of-spelled big n r h.0 (h.1 ++ rest) (omega (arith, few)) h.3)
    ∙ ap (with_first r) (records_from-spelled records more big (n + 1) h.1 rest fault h.4 (omega (arith, few)) (subst (λ m. EndsWith big m rest fault) count ends) (omega (arith, size, len, h.3.whole)))

abbrev CaptureSays : List ℕ → Capture → Type 0
CaptureSays file (refused fault) = IsHeaderFault file fault
CaptureSays file (packets head records fault) = IsCapture head records fault file

capture_with-says : (file : List ℕ) (read : Result Head Fault) → HeadSays file read → CaptureSays file (capture_with (drop header_len file) read)
capture_with-says file (Err fault) h = h
capture_with-says file (Ok head) h =
    let after = drop header_len file in
    let run = records_from (length after) head.big 0 after in
    let f = records_from-says (length after) head.big 0 after (omega arith) (omega arith) in
    let count : 0 + length run.0 ≡ length run.0 = omega arith in
    record {
      header = take header_len file;
      after = after;
      file_is = sym (take-append-drop header_len file);
      header_is = h.1;
      records_are = record {
        body = f.body;
        rest = f.rest;
        bytes_are = f.bytes_are;
        body_is = f.body_is;
        few = omega (arith, f.few);
        ends = subst (λ m. EndsWith head.big m f.rest run.1) count f.ends;
      };
    }

capture_of-says : (file : List ℕ) → CaptureSays file (capture_of file)
unfolding capture_of
capture_of-says file = capture_with-says file (head_of file) (head_of-says file)

capture_of-records : (head : Head) (records : List Record) (fault : Option Fault) (file : List ℕ) → IsCapture head records fault file → capture_of file ≡ packets head records fault
unfolding capture_of
capture_of-records head records fault file h =
    let run = records_from (length h.after) head.big 0 h.after in
    let r = h.records_are in
    let count : length records ≡ 0 + length records = omega arith in
    let after : drop header_len file ≡ h.after = ap (drop header_len) h.file_is ∙ drop_at h.header h.after header_len h.header_is.whole in
    let header : head_of file ≡ Ok head = ap head_of h.file_is ∙ head_of-header head h.header h.after h.header_is in
    let size : length (r.body ++ r.rest) ≤ length h.after = omega (arith, ap length r.bytes_are) in
    let read : records_from (length h.after) head.big 0 h.after ≡ (records, fault) =
    ap (records_from (length h.after) head.big 0) r.bytes_are
    ∙ records_from-spelled records (length h.after) head.big 0 r.body r.rest fault r.body_is (omega (arith, r.few)) (subst (λ m. EndsWith head.big m r.rest fault) count r.ends) size in
    ap (capture_with (drop header_len file)) header
    ∙ ap (λ xs. capture_with xs (Ok head)) after
    ∙ ap (λ x. packets head x.0 x.1) read

pub reads_captures : ReadsCaptures
reads_captures head records fault file =
    (λ h. capture_of-records head records fault file h, λ e. subst (CaptureSays file) e (capture_of-says file))

pub capture_of-fault : (fault : Fault) (file : List ℕ) → IsHeaderFault file fault → capture_of file ≡ refused fault
unfolding capture_of
capture_of-fault fault file h = ap (capture_with (drop header_len file)) (head_of-fault file fault h)

pub reads_refusals : ReadsRefusals
reads_refusals fault file = (λ h. capture_of-fault fault file h, λ e. subst (CaptureSays file) e (capture_of-says file))

fault_in : (big : Bool) (n : ℕ) (rest : List ℕ) (front : Front) → Says big n rest front → 0 < length rest → ((n < most_records) → HasNoRecord big rest)
    → (fault : Fault) × IsRecordFault big n rest fault
fault_in big n rest nothing h some none = absurd (omega (arith, ap length h, some))
fault_in big n rest (broken fault) h some none = (fault, h)
fault_in big n rest (found r others) h some none = absurd (none h.0 r h.1 others h.2 h.3)

no_record : (big : Bool) (n : ℕ) (rest : List ℕ) (fault : Fault) → IsRecordFault big n rest fault → (n < most_records) → HasNoRecord big rest
no_record big n rest fault h few r first others split spelled =
    let broke = front_of-fault big n rest fault h in
    let split_off : front_of big n rest ≡ found r others = ap (front_of big n) split ∙ front_of-spelled big n r first others few spelled in
    cc

pub has_fault_or_record : HasFaultOrRecord
has_fault_or_record big n rest few = (
  λ f. (fault-some big n rest f.0 f.1, no_record big n rest f.0 f.1),
  λ h. fault_in big n rest (front_of big n rest) (front_of-says big n rest few) h.0 h.1,
)

-- more steps than bytes find no further records
records_from-enough : (more : ℕ) (big : Bool) (n : ℕ) (rest : List ℕ) → n ≤ most_records → length rest ≤ more → records_from more big n rest ≡ records_left big n rest
records_from-enough more big n rest few size =
    let f = records_from-says (length rest) big n rest few (omega arith) in
    let len : length (f.body ++ f.rest) ≡ length rest = ap length (sym f.bytes_are) in
    ap (records_from more big n) f.bytes_are
    ∙ records_from-spelled (records_left big n rest).0 more big n f.body f.rest (records_left big n rest).1 f.body_is f.few f.ends (omega (arith, len, size))

-- no bytes left: no records and no fault
pub records_left-nothing : (big : Bool) (n : ℕ) → records_left big n [] ≡ ([], None)
records_left-nothing big n = records_from-ended 0 big n [] None refl (omega arith)

-- bytes that have a fault: no records, and that fault
pub records_left-fault : (big : Bool) (n : ℕ) (rest : List ℕ) (fault : Fault) → IsRecordFault big n rest fault → records_left big n rest ≡ ([], Some fault)
records_left-fault big n rest fault h = records_from-ended (length rest) big n rest (Some fault) h (omega arith)

-- bytes that begin with a record: that record, and then the records after it
pub records_left-record : (big : Bool) (n : ℕ) (r : Record) (first others : List ℕ) → n < most_records → IsSpelling big r first
    → records_left big n (first ++ others) ≡ with_first r (records_left big (n + 1) others)
records_left-record big n r first others few spelled =
    let f = records_from-says (length others) big (n + 1) others (omega (arith, few)) (omega arith) in
    let run = records_left big (n + 1) others in
    let count : n + 1 + length (records_left big (n + 1) others).0 ≡ n + suc (length (records_left big (n + 1) others).0) = omega arith in
    let split : first ++ others ≡ (first ++ f.body) ++ f.rest = ap (λ xs. first ++ xs) f.bytes_are ∙ sym (append_assoc first f.body f.rest) in
    ap (records_from (length (first ++ others)) big n) split
    ∙ records_from-spelled (r ∷ run.0) (length (first ++ others)) big n (first ++ f.body) f.rest run.1
    (first, f.body, refl, spelled, f.body_is) (omega (arith, f.few)) (subst (λ m. EndsWith big m f.rest run.1) count f.ends) (omega (arith, ap length split))

-- a file that begins with a header: its values, and the records after it
pub capture_of-header : (head : Head) (header after : List ℕ) → IsHeader head header
    → capture_of (header ++ after) ≡ packets head (records_left head.big 0 after).0 (records_left head.big 0 after).1
unfolding capture_of
capture_of-header head header after h =
    ap (λ xs. capture_with xs (head_of (header ++ after))) (drop_at header after header_len h.whole)
    ∙ ap (capture_with after) (head_of-header head header after h)

pub moments_are_small : MomentsAreSmall
moments_are_small true r seconds fraction = omega arith
moments_are_small false r seconds fraction = omega arith
