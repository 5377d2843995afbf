-- Numbers separated by commas, the first one first.
use Rattle.event_json.proofs.Prelude.{[], ◌∙◌, ◌∷◌, ap, sym, ◌≡◌, List, arith, ℕ, ◌++◌, ◌+◌, decimal, drop, ◌<◌, ◌≤◌, append-nil, append_assoc, length, ◌-◌, get_or, take, numbers_text}
use Rattle.std.proofs.lemmas.List.{take_all, drop_more, drop_all}

-- the numbers after others
abbrev pub later_numbers : List ℕ → List ℕ
later_numbers [] = []
later_numbers (n ∷ ns) = 44 ∷ decimal n ++ later_numbers ns

first_number : (n : ℕ) (ns : List ℕ) → numbers_text (n ∷ ns) ≡ decimal n ++ later_numbers ns
first_number n [] = sym (append-nil (decimal n))
first_number n (m ∷ ns) = ap (λ s. decimal n ++ 44 ∷ s) (first_number m ns)

-- a line with the first number, and then the others
pub with_first : (values before after : List ℕ) → 1 ≤ length values → after ≡ before ++ decimal (get_or values 0 0)
    → after ++ later_numbers (take (length values - 1) (drop 1 values)) ≡ before ++ numbers_text values
with_first [] before after some put = absurd (omega arith)
with_first (n ∷ ns) before after some put =
    ap (λ s. s ++ later_numbers (take (length (n ∷ ns) - 1) ns)) put
    ∙ append_assoc before (decimal n) (later_numbers (take (length (n ∷ ns) - 1) ns))
    ∙ ap (λ l. before ++ (decimal n ++ later_numbers l)) (take_all (length (n ∷ ns) - 1) ns (omega arith))
    ∙ ap (λ s. before ++ s) (sym (first_number n ns))

pub with_one_more : (others before between after whole : List ℕ) (i : ℕ) → i < length others → between ≡ before ++ 44 ∷ []
    → after ≡ between ++ decimal (get_or others i 0) → before ++ later_numbers (drop i others) ≡ whole → after ++ later_numbers (drop (i + 1) others) ≡ whole
with_one_more others before between after whole i inside comma put so_far =
    let rest = later_numbers (drop (i + 1) others) in
    let number = decimal (get_or others i 0) in
    ap (λ s. s ++ rest) (put ∙ ap (λ s. s ++ number) comma)
    ∙ append_assoc (before ++ 44 ∷ []) number rest
    ∙ append_assoc before (44 ∷ []) (number ++ rest)
    ∙ ap (λ l. before ++ later_numbers l) (sym (drop_more others i 0 inside))
    ∙ so_far

pub with_all : (others before whole : List ℕ) (i : ℕ) → length others ≤ i → before ++ later_numbers (drop i others) ≡ whole → before ≡ whole
with_all others before whole i end so_far =
    sym (append-nil before) ∙ ap (λ l. before ++ later_numbers l) (sym (drop_all i others end)) ∙ so_far
