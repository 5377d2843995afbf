-- The results of a reader and the reading of the file, for the crates above.
use Rattle.pcap_core.proofs.Prelude.{◌≡◌, ap, [], ◌<◌, ◌∙◌, List, None, ℕ, ◌++◌, Option, Some, refl, ◌+◌, Bool, IfSome, capture_of-fault, capture_of-header, records_left-fault, records_left-nothing, records_left-record, Fault, IsHeaderFault, capture_of, records_left, with_first, packets, refused, most_records, Record, IsRecordFault, Head, TakesHeader, TakesRecord, IsWhole}

-- if a header was read, the capture has its values and the records left after it
pub capture-header : (head : Head) (old new : Option (List ℕ)) (file : List ℕ) → TakesHeader head old new → old ≡ Some file
    → (now : List ℕ) × (new ≡ Some now) × (capture_of file ≡ packets head (records_left head.big 0 now).0 (records_left head.big 0 now).1)
capture-header head None new file taken e = absurd (cc)
capture-header head (Some old) None file taken e = absurd taken.2
capture-header head (Some old) (Some now) file taken e =
    let same : file ≡ taken.0 ++ now = cc in
    (now, refl, ap capture_of same ∙ capture_of-header head taken.0 now taken.1)

-- if a header fault was returned, the file is rejected for it
pub capture-refused : (fault : Fault) (old : Option (List ℕ)) (file : List ℕ) → IfSome old (λ bytes. IsHeaderFault bytes fault) → old ≡ Some file → capture_of file ≡ refused fault
capture-refused fault None file h e = absurd (cc)
capture-refused fault (Some old) file h e =
    let same : file ≡ old = cc in
    ap capture_of same ∙ capture_of-fault fault old h

-- if a record was read, it is the first of the records that were left
pub left-record : (big : Bool) (n : ℕ) (r : Record) (old new : Option (List ℕ)) (left : List ℕ) → n < most_records → TakesRecord big r old new → old ≡ Some left
    → (now : List ℕ) × (new ≡ Some now) × (records_left big n left ≡ with_first r (records_left big (n + 1) now))
left-record big n r None new left few taken e = absurd (cc)
left-record big n r (Some old) None left few taken e = absurd taken.2
left-record big n r (Some old) (Some now) left few taken e =
    let same : left ≡ taken.0 ++ now = cc in
    (now, refl, ap (records_left big n) same ∙ records_left-record big n r taken.0 now few taken.1)

-- if there was no record, none were left
pub left-nothing : (big : Bool) (n : ℕ) (old : Option (List ℕ)) (left : List ℕ) → IsWhole old → old ≡ Some left → records_left big n left ≡ ([], None)
left-nothing big n None left whole e = absurd (cc)
left-nothing big n (Some old) left whole e =
    let same : left ≡ [] = cc in
    ap (records_left big n) same ∙ records_left-nothing big n

-- if a record fault was returned, no record was left, only the fault
pub left-fault : (big : Bool) (n : ℕ) (fault : Fault) (old : Option (List ℕ)) (left : List ℕ) → IfSome old (λ bytes. IsRecordFault big n bytes fault) → old ≡ Some left
    → records_left big n left ≡ ([], Some fault)
left-fault big n fault None left h e = absurd (cc)
left-fault big n fault (Some old) left h e =
    let same : left ≡ old = cc in
    ap (records_left big n) same ∙ records_left-fault big n old fault h
