-- Joined ranks, the first one first.
use Rattle.std.proofs.Common.{◌≡◌, ℕ, ◌+◌, ◌-◌, ◌<◌, ◌≤◌, List, [], ◌∷◌, ◌++◌, length, get_or, take, drop, decimal, sym, ap, ◌∙◌, append_assoc, append-nil, arith, length-drop}
use Rattle.std.proofs.lemmas.List.{take_all, take_rest, drop_more, drop_all}
use Rattle.outside_core.specs.Report.{ranks_text}

-- the ranks after others
abbrev pub later_ranks : List ℕ → List ℕ
later_ranks [] = []
later_ranks (n ∷ ns) = 47 ∷ decimal n ++ later_ranks ns

first_rank : (n : ℕ) (ns : List ℕ) → ranks_text (n ∷ ns) ≡ decimal n ++ later_ranks ns
first_rank n [] = sym (append-nil (decimal n))
first_rank n (m ∷ ns) = ap (λ s. decimal n ++ 47 ∷ s) (first_rank m ns)

pub few_others : (ranks : List ℕ) → length ranks ≤ 65 → length (take (length ranks - 1) (drop 1 ranks)) ≤ 64
few_others ranks few = omega (arith, few, ap length (take_rest ranks 1), length-drop 1 ranks)

-- a text with the first rank, and then the others
pub with_first : (ranks before after : List ℕ) → 1 ≤ length ranks → after ≡ before ++ decimal (get_or ranks 0 0)
    → after ++ later_ranks (take (length ranks - 1) (drop 1 ranks)) ≡ before ++ ranks_text ranks
with_first [] before after some put = absurd (omega arith)
with_first (n ∷ ns) before after some put =
    ap (λ s. s ++ later_ranks (take (length (n ∷ ns) - 1) ns)) put
    ∙ append_assoc before (decimal n) (later_ranks (take (length (n ∷ ns) - 1) ns))
    ∙ ap (λ l. before ++ (decimal n ++ later_ranks l)) (take_all (length (n ∷ ns) - 1) ns (omega arith))
    ∙ ap (λ s. before ++ s) (sym (first_rank n ns))

pub with_one_more : (others before between after whole : List ℕ) (i : ℕ) → i < length others → between ≡ before ++ 47 ∷ []
    → after ≡ between ++ decimal (get_or others i 0) → before ++ later_ranks (drop i others) ≡ whole → after ++ later_ranks (drop (i + 1) others) ≡ whole
with_one_more others before between after whole i inside slash put so_far =
    let rest = later_ranks (drop (i + 1) others) in
    let rank = decimal (get_or others i 0) in
    ap (λ s. s ++ rest) (put ∙ ap (λ s. s ++ rank) slash)
    ∙ append_assoc (before ++ 47 ∷ []) rank rest
    ∙ append_assoc before (47 ∷ []) (rank ++ rest)
    ∙ ap (λ l. before ++ later_ranks l) (sym (drop_more others i 0 inside))
    ∙ so_far

pub with_all : (others before whole : List ℕ) (i : ℕ) → length others ≤ i → before ++ later_ranks (drop i others) ≡ whole → before ≡ whole
with_all others before whole i end so_far =
    sym (append-nil before) ∙ ap (λ l. before ++ later_ranks l) (sym (drop_all i others end)) ∙ so_far
