-- Proves that `front_of` agrees with the grammar on the front of the remaining bytes.
use Rattle.std.proofs.Common.{◌≡◌, ◌<◌, ◌≤◌, ◌+◌, ℕ, Bool, eqb, ltb, List, [], ◌++◌, length, take, drop, refl, sym, ap, ◌∙◌, arith, length-drop, length-append}
use Rattle.std.proofs.lemmas.List.{take-append-drop, length-take-le, take_at, drop_at, drop-append-le, nil_from_length, drop-take}
use Rattle.std.proofs.lemmas.Bool.{ltb-true, ltb-false, lt-ltb, le-ltb, eqb-true, eqb-false, eq-eqb, ne_eqb, cond_both, cond-true, cond-false}
use Rattle.pcap_defs.specs.Number.{long_at}
use Rattle.pcap_defs.specs.Fault.{Fault, header_cut, bad_magic, pcap_ng, version, record_cut, data_cut, record_long, too_many}
use Rattle.pcap_defs.specs.Record.{Record, IsSpelling, IsRecordFault, captured_len, record_len, most_captured, most_records}
use Rattle.pcap_defs.specs.Reading.{Front, nothing, broken, found, front_of, record_at}
use Rattle.pcap_defs.proofs.Numbers.{number_at-append}

-- the grammar's condition for each result of `front_of`
abbrev pub Says : Bool → ℕ → List ℕ → Front → Type 0
Says big n rest nothing = rest ≡ []
Says big n rest (broken fault) = IsRecordFault big n rest fault
Says big n rest (found r others) = (n < most_records) × (first : List ℕ) × (rest ≡ first ++ others) × IsSpelling big r first

pub front_of-fault : (big : Bool) (n : ℕ) (rest : List ℕ) (fault : Fault) → IsRecordFault big n rest fault → front_of big n rest ≡ broken fault
unfolding front_of
front_of-fault big n rest too_many h =
    cond-false _ _ _ (ne_eqb (length rest) 0 (λ e. omega (arith, h.1, e)))
    ∙ cond-true _ _ _ (eq-eqb n most_records h.0)
front_of-fault big n rest (record_cut k) h =
    cond-false _ _ _ (ne_eqb (length rest) 0 (λ e. omega (arith, h.2, e)))
    ∙ cond-false _ _ _ (ne_eqb n most_records (λ e. omega (arith, h.0, e)))
    ∙ cond-true _ _ _ (lt-ltb (length rest) record_len h.3)
    ∙ ap (λ m. broken (record_cut m)) (sym h.1)
front_of-fault big n rest (record_long k) h =
    cond-false _ _ _ (ne_eqb (length rest) 0 (λ e. omega (arith, h.2, e)))
    ∙ cond-false _ _ _ (ne_eqb n most_records (λ e. omega (arith, h.0, e)))
    ∙ cond-false _ _ _ (le-ltb (length rest) record_len h.2)
    ∙ cond-true _ _ _ (lt-ltb most_captured (captured_len big rest) h.3)
    ∙ ap (λ m. broken (record_long m)) (sym h.1)
front_of-fault big n rest (data_cut k) h =
    cond-false _ _ _ (ne_eqb (length rest) 0 (λ e. omega (arith, h.2, e)))
    ∙ cond-false _ _ _ (ne_eqb n most_records (λ e. omega (arith, h.0, e)))
    ∙ cond-false _ _ _ (le-ltb (length rest) record_len h.2)
    ∙ cond-false _ _ _ (le-ltb most_captured (captured_len big rest) h.3)
    ∙ cond-true _ _ _ (lt-ltb (length rest) (record_len + captured_len big rest) h.4)
    ∙ ap (λ m. broken (data_cut m)) (sym h.1)
front_of-fault big n rest header_cut h = absurd h
front_of-fault big n rest bad_magic h = absurd h
front_of-fault big n rest pcap_ng h = absurd h
front_of-fault big n rest version h = absurd h

same_record : (s f o : ℕ) (c : List ℕ) (r : Record) → s ≡ r.seconds → f ≡ r.fraction → o ≡ r.original → c ≡ r.captured → record { seconds = s; fraction = f; original = o; captured = c } ≡ r
same_record s f o c r es ef eo ec =
    ap (λ x. record { seconds = x; fraction = f; original = o; captured = c }) es
    ∙ ap (λ x. record { seconds = r.seconds; fraction = x; original = o; captured = c }) ef
    ∙ ap (λ x. record { seconds = r.seconds; fraction = r.fraction; original = x; captured = c }) eo
    ∙ ap (λ x. record { seconds = r.seconds; fraction = r.fraction; original = r.original; captured = x }) ec

-- `record_at` finds the record whose spelling is at the front, with other bytes after it
record_at-spelled : (big : Bool) (r : Record) (first others : List ℕ) → IsSpelling big r first → record_at big (first ++ others) ≡ r
record_at-spelled big r first others s =
    let seconds : long_at big 0 (first ++ others) ≡ r.seconds = number_at-append big 4 0 first others (omega (arith, s.whole)) ∙ s.seconds in
    let fraction : long_at big 4 (first ++ others) ≡ r.fraction = number_at-append big 4 4 first others (omega (arith, s.whole)) ∙ s.fraction in
    let original : long_at big 12 (first ++ others) ≡ r.original = number_at-append big 4 12 first others (omega (arith, s.whole)) ∙ s.original in
    let counted : captured_len big (first ++ others) ≡ length r.captured = number_at-append big 4 8 first others (omega (arith, s.whole)) ∙ s.counted in
    let inside : record_len ≤ length first = omega (arith, s.whole) in
    let captured : take (captured_len big (first ++ others)) (drop record_len (first ++ others)) ≡ r.captured =
    ap (λ m. take m (drop record_len (first ++ others))) counted
    ∙ ap (take (length r.captured)) (drop-append-le record_len first others inside ∙ ap (λ xs. xs ++ others) s.captured)
    ∙ take_at r.captured others (length r.captured) refl in
    same_record _ _ _ _ r seconds fraction original captured

pub front_of-spelled : (big : Bool) (n : ℕ) (r : Record) (first others : List ℕ) → n < most_records → IsSpelling big r first → front_of big n (first ++ others) ≡ found r others
unfolding front_of
front_of-spelled big n r first others few s =
    let rest = first ++ others in
    let len : length (first ++ others) ≡ record_len + length r.captured + length others = length-append first others ∙ ap (λ m. m + length others) s.whole in
    let counted : captured_len big (first ++ others) ≡ length r.captured = number_at-append big 4 8 first others (omega (arith, s.whole)) ∙ s.counted in
    let all : length first ≡ record_len + captured_len big (first ++ others) = omega (arith, s.whole, counted) in
    cond-false _ _ _ (ne_eqb (length rest) 0 (λ e. omega (arith, len, e)))
    ∙ cond-false _ _ _ (ne_eqb n most_records (λ e. omega (arith, few, e)))
    ∙ cond-false _ _ _ (le-ltb (length rest) record_len (omega (arith, len)))
    ∙ cond-false _ _ _ (le-ltb most_captured (captured_len big rest) (omega (arith, counted, s.short)))
    ∙ cond-false _ _ _ (le-ltb (length rest) (record_len + captured_len big rest) (omega (arith, len, counted)))
    ∙ ap (λ x. found x (drop (record_len + captured_len big rest) rest)) (record_at-spelled big r first others s)
    ∙ ap (λ xs. found r xs) (drop_at first others (record_len + captured_len big rest) all)

-- the bytes of a complete record at the front spell the record that `record_at` reads
spelling-record_at : (big : Bool) (rest : List ℕ) → captured_len big rest ≤ most_captured → record_len + captured_len big rest ≤ length rest → IsSpelling big (record_at big rest) (take (record_len + captured_len big rest) rest)
spelling-record_at big rest short whole =
    let size = record_len + captured_len big rest in
    let first = take (record_len + captured_len big rest) rest in
    let others = drop (record_len + captured_len big rest) rest in
    let split : take (record_len + captured_len big rest) rest ++ drop (record_len + captured_len big rest) rest ≡ rest = take-append-drop size rest in
    let len : length (take (record_len + captured_len big rest) rest) ≡ record_len + captured_len big rest = length-take-le size rest whole in
    let captured : length (take (captured_len big rest) (drop record_len rest)) ≡ captured_len big rest = length-take-le (captured_len big rest) (drop record_len rest) (omega (arith, length-drop record_len rest)) in
    let at : (at : ℕ) → at + 4 ≤ record_len → long_at big at (take (record_len + captured_len big rest) rest) ≡ long_at big at rest =
    λ at h. sym (number_at-append big 4 at first others (omega (arith, len, h))) ∙ ap (long_at big at) split in
    record {
      seconds = at 0 (omega arith);
      fraction = at 4 (omega arith);
      counted = at 8 (omega arith) ∙ sym captured;
      original = at 12 (omega arith);
      captured = drop-take record_len (captured_len big rest) rest;
      whole = len ∙ ap (λ m. record_len + m) (sym captured);
      short = omega (arith, captured, short);
    }

pub front_of-says : (big : Bool) (n : ℕ) (rest : List ℕ) → n ≤ most_records → Says big n rest (front_of big n rest)
unfolding front_of
front_of-says big n rest few =
    cond_both (eqb (length rest) 0) _ _ (Says big n rest) (λ e. nil_from_length rest (eqb-true _ _ e)) (λ some.
    cond_both (eqb n most_records) _ _ (Says big n rest) (λ e. (eqb-true _ _ e, omega (arith, eqb-false _ _ some))) (λ more.
    cond_both (ltb (length rest) record_len) _ _ (Says big n rest)
    (λ e. (omega (arith, eqb-false _ _ more), refl, omega (arith, eqb-false _ _ some), ltb-true _ _ e)) (λ long.
    cond_both (ltb most_captured (captured_len big rest)) _ _ (Says big n rest)
    (λ e. (omega (arith, eqb-false _ _ more), refl, ltb-false _ _ long, ltb-true _ _ e)) (λ short.
    cond_both (ltb (length rest) (record_len + captured_len big rest)) _ _ (Says big n rest)
    (λ e. (omega (arith, eqb-false _ _ more), refl, ltb-false _ _ long, ltb-false _ _ short, ltb-true _ _ e)) (λ whole. (
      omega (arith, eqb-false _ _ more),
      take (record_len + captured_len big rest) rest,
      sym (take-append-drop (record_len + captured_len big rest) rest),
      spelling-record_at big rest (ltb-false _ _ short) (ltb-false _ _ whole),
    ))))))
