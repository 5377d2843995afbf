-- Proves that the header read from a file is the one that the grammar gives.
use Rattle.std.proofs.Common.{◌≡◌, ◌≢◌, ◌≤◌, ◌%◌, ◌^◌, ℕ, Bool, true, false, eqb, ltb, Result, Ok, Err, List, ◌++◌, length, take, drop, refl, sym, ap, ◌∙◌, arith, length-append}
use Rattle.std.proofs.lemmas.List.{take-append-drop, take-append-le, length-take-le, take-take}
use Rattle.std.proofs.lemmas.Bool.{ltb-true, ltb-false, lt-ltb, le-ltb, eqb-true, eqb-false, eq-eqb, ne_eqb, cond_both, cond-true, cond-false, false_from_ne_true, both_ways}
use Rattle.std.proofs.lemmas.Slice.Eq.{bytes_eq-Decides}
use Rattle.std.specs.Str.{bytes_eq}
use Rattle.pcap_defs.specs.declared.head.Head.{Head}
use Rattle.pcap_defs.specs.Number.{long_at, short_at}
use Rattle.pcap_defs.specs.Fault.{Fault, header_cut, bad_magic, pcap_ng, version, record_cut, data_cut, record_long, too_many}
use Rattle.pcap_defs.specs.Header.{header_len, major_version, magic_bytes, pcap_ng_bytes, HasMagic, IsHeader, IsHeaderFault}
use Rattle.pcap_defs.specs.Reading.{head_of, head_by, head_with}
use Rattle.pcap_defs.proofs.Numbers.{number_at-append}

-- the grammar's condition for each result of `head_of`
abbrev pub HeadSays : List ℕ → Result Head Fault → Type 0
HeadSays file (Ok head) = (header_len ≤ length file) × IsHeader head (take header_len file)
HeadSays file (Err fault) = IsHeaderFault file fault

equal : (xs ys : List ℕ) → bytes_eq xs ys ≡ true → xs ≡ ys
equal xs ys e = (bytes_eq-Decides xs ys).0 e

differs : (xs ys : List ℕ) → bytes_eq xs ys ≡ false → xs ≢ ys
differs xs ys e same = both_ways (bytes_eq xs ys) e ((bytes_eq-Decides xs ys).1 same)

unequal : (xs ys : List ℕ) → xs ≢ ys → bytes_eq xs ys ≡ false
unequal xs ys ne = false_from_ne_true (bytes_eq xs ys) (λ e. ne (equal xs ys e))

head_by-magic : (big nano : Bool) (file : List ℕ) → head_by (magic_bytes big nano) file ≡ head_with big nano file
head_by-magic false false file = refl
head_by-magic false true file = refl
head_by-magic true false file = refl
head_by-magic true true file = refl

pub head_of-fault : (file : List ℕ) (fault : Fault) → IsHeaderFault file fault → head_of file ≡ Err fault
unfolding head_of
head_of-fault file header_cut h = cond-true _ _ _ (lt-ltb (length file) header_len h)
head_of-fault file pcap_ng h = cond-false _ _ _ (le-ltb (length file) header_len h.0) ∙ ap (λ w. head_by w file) h.1
head_of-fault file bad_magic h =
    cond-false _ _ _ (le-ltb (length file) header_len h.0)
    ∙ cond-false _ _ _ (unequal _ _ h.1)
    ∙ cond-false _ _ _ (unequal _ _ (h.2 false false))
    ∙ cond-false _ _ _ (unequal _ _ (h.2 false true))
    ∙ cond-false _ _ _ (unequal _ _ (h.2 true false))
    ∙ cond-false _ _ _ (unequal _ _ (h.2 true true))
head_of-fault file version h =
    cond-false _ _ _ (le-ltb (length file) header_len h.0)
    ∙ ap (λ w. head_by w file) h.3
    ∙ head_by-magic h.1 h.2 file
    ∙ cond-false _ _ _ (ne_eqb (short_at h.1 4 file) major_version h.4)
head_of-fault file (record_cut n) h = absurd h
head_of-fault file (data_cut n) h = absurd h
head_of-fault file (record_long n) h = absurd h
head_of-fault file too_many h = absurd h

pub head_of-header : (head : Head) (header after : List ℕ) → IsHeader head header → head_of (header ++ after) ≡ Ok head
unfolding head_of
head_of-header head header after h =
    let file = header ++ after in
    let room : header_len ≤ length (header ++ after) = omega (arith, length-append header after, h.whole) in
    let major : short_at head.big 4 (header ++ after) ≡ major_version = number_at-append head.big 2 4 header after (omega (arith, h.whole)) ∙ h.major in
    let link : long_at head.big 20 (header ++ after) ≡ long_at head.big 20 header = number_at-append head.big 4 20 header after (omega (arith, h.whole)) in
    let inside : 4 ≤ length header = omega (arith, h.whole) in
    cond-false _ _ _ (le-ltb (length file) header_len room)
    ∙ ap (λ w. head_by w file) (take-append-le 4 header after inside ∙ h.magic)
    ∙ head_by-magic head.big head.nano file
    ∙ cond-true _ _ _ (eq-eqb (short_at head.big 4 file) major_version major)
    ∙ ap (λ m. Ok (record { link = m % 2 ^ 16; nano = head.nano; big = head.big })) link
    ∙ ap (λ m. Ok (record { link = m; nano = head.nano; big = head.big })) h.link

head_with-says : (big nano : Bool) (file : List ℕ) → header_len ≤ length file → HasMagic big nano file → HeadSays file (head_with big nano file)
head_with-says big nano file room magic =
    let len : length (take 24 file) ≡ 24 = length-take-le 24 file room in
    let split : take 24 file ++ drop 24 file ≡ file = take-append-drop 24 file in
    let short : short_at big 4 (take 24 file) ≡ short_at big 4 file = sym (number_at-append big 2 4 (take 24 file) (drop 24 file) (omega (arith, len))) ∙ ap (short_at big 4) split in
    let long : long_at big 20 (take 24 file) ≡ long_at big 20 file = sym (number_at-append big 4 20 (take 24 file) (drop 24 file) (omega (arith, len))) ∙ ap (long_at big 20) split in
    cond_both (eqb (short_at big 4 file) major_version) _ _ (HeadSays file)
    (λ e. (room, record { whole = len; magic = take-take 4 24 file (omega arith) ∙ magic; major = short ∙ eqb-true _ _ e; link = ap (λ m. m % 2 ^ 16) long }))
    (λ e. (room, big, nano, magic, eqb-false _ _ e))

none_of : (word : List ℕ) → word ≢ magic_bytes false false → word ≢ magic_bytes false true → word ≢ magic_bytes true false → word ≢ magic_bytes true true → (big nano : Bool) → word ≡ magic_bytes big nano → ⊥
none_of word a b c d false false = a
none_of word a b c d false true = b
none_of word a b c d true false = c
none_of word a b c d true true = d

pub head_of-says : (file : List ℕ) → HeadSays file (head_of file)
unfolding head_of
head_of-says file =
    let word = take 4 file in
    cond_both (ltb (length file) header_len) _ _ (HeadSays file) (λ e. ltb-true _ _ e) (λ long.
    let room : header_len ≤ length file = ltb-false _ _ long in
    cond_both (bytes_eq word pcap_ng_bytes) _ _ (HeadSays file) (λ e. (room, equal _ _ e)) (λ older.
    cond_both (bytes_eq word (magic_bytes false false)) _ _ (HeadSays file) (λ e. head_with-says false false file room (equal _ _ e)) (λ a.
    cond_both (bytes_eq word (magic_bytes false true)) _ _ (HeadSays file) (λ e. head_with-says false true file room (equal _ _ e)) (λ b.
    cond_both (bytes_eq word (magic_bytes true false)) _ _ (HeadSays file) (λ e. head_with-says true false file room (equal _ _ e)) (λ c.
    cond_both (bytes_eq word (magic_bytes true true)) _ _ (HeadSays file) (λ e. head_with-says true true file room (equal _ _ e)) (λ d.
    let none : (big nano : Bool) → HasMagic big nano file → ⊥ = none_of (take 4 file) (differs _ _ a) (differs _ _ b) (differs _ _ c) (differs _ _ d) in
    (room, differs _ _ older, none)))))))
