-- The bytes written to a sink that holds a line back.
use Rattle.std.proofs.Common.{◌≡◌, ℕ, ◌+◌, List, [], ◌++◌, take, drop, Option, None, Some, sym, ap, ◌∙◌, append_assoc, append-nil, subst, length, ◌≤◌}
use Rattle.std.proofs.lemmas.List.{take-append-drop, drop-drop, take-take}
use Rattle.std.proofs.Math.Seq.{take-length}
use Rattle.outside_core.specs.Written.{Appended}
use Rattle.outside_core.proofs.WrittenLaws.{appended_in_turn}
use Rattle.front_core.specs.Catching.{told}

-- the front of the bytes held back is passed on
pub front_sent : (old new : Option (List ℕ)) (front rest : List ℕ) → Appended old new front → Appended (told old (front ++ rest)) (told new rest) []
front_sent old None front rest grew = tt
front_sent None (Some now) front rest grew = absurd grew
front_sent (Some before) (Some now) front rest grew =
    ap (λ s. s ++ rest) grew ∙ append_assoc before front rest ∙ sym (append-nil (before ++ (front ++ rest)))

-- some more of the bytes held back are passed on
pub more_sent : (old new : Option (List ℕ)) (held piece : List ℕ) (at n : ℕ) → piece ≡ drop at held → Appended old new (take n piece) → Appended (told old (drop at held)) (told new (drop (at + n) held)) []
more_sent old new held piece at n is grew =
    let parts = front_sent old new (take n piece) (drop n piece) grew in
    let P : List ℕ → Type 0 = λ kept. Appended (told old kept) (told new (drop (at + n) held)) [] in
    let Q : List ℕ → Type 0 = λ rest. Appended (told old (take n piece ++ drop n piece)) (told new rest) [] in
    subst P (take-append-drop n piece ∙ is) (subst Q (ap (drop n) is ∙ drop-drop n at held) parts)

-- bytes are passed on while none are held back
pub bytes_sent : (old new : Option (List ℕ)) (bytes : List ℕ) → Appended old new bytes → Appended (told old []) (told new []) bytes
bytes_sent old None bytes grew = tt
bytes_sent None (Some now) bytes grew = absurd grew
bytes_sent (Some before) (Some now) bytes grew =
    append-nil now ∙ grew ∙ ap (λ s. s ++ bytes) (sym (append-nil before))

-- bytes are held back where none were
pub bytes_kept : (sent : Option (List ℕ)) (bytes : List ℕ) → Appended (told sent []) (told sent bytes) bytes
bytes_kept None bytes = tt
bytes_kept (Some before) bytes = ap (λ s. s ++ bytes) (sym (append-nil before))

-- a line is held back, and nothing is passed on
pub piece_kept : (before after : Option (List ℕ)) (kept piece : List ℕ) → after ≡ before → kept ≡ piece → Appended (told before []) (told after kept) (take (length piece) piece)
piece_kept before after kept piece same is =
    let P : List ℕ → Type 0 = λ xs. Appended (told before []) (told after kept) xs in
    let Q : List ℕ → Type 0 = λ k. Appended (told before []) (told after k) piece in
    let R : Option (List ℕ) → Type 0 = λ a. Appended (told before []) (told a piece) piece in
    subst P (sym (take-length piece)) (subst Q (sym is) (subst R (sym same) (bytes_kept before piece)))

-- the front of a prefix is the front of the whole
pub front_of_piece : (before after : Option (List ℕ)) (kept piece part : List ℕ) (most n : ℕ) → part ≡ take most piece → n ≤ most → kept ≡ [] → Appended before after (take n part) → Appended (told before []) (told after kept) (take n piece)
front_of_piece before after kept piece part most n is few none grew =
    let P : List ℕ → Type 0 = λ xs. Appended (told before []) (told after []) xs in
    let Q : List ℕ → Type 0 = λ k. Appended (told before []) (told after k) (take n piece) in
    let same : take n part ≡ take n piece = ap (take n) is ∙ take-take n most piece few in
    subst Q (sym none) (subst P same (bytes_sent before after (take n part) grew))

-- a release, followed by new bytes
pub then_grew : (a b c : Option (List ℕ)) (bytes : List ℕ) → Appended a b [] → Appended b c bytes → Appended a c bytes
then_grew a b c bytes first second = appended_in_turn a b c [] bytes first second
