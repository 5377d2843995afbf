-- The lines of a report, put together from the left.
use Rattle.std.proofs.Common.{◌≡◌, ℕ, Option, None, Some, MatchOption, List, [], ◌∷◌, ◌++◌, decimal, codes, ap, ◌∙◌, append_assoc}
use Rattle.outside_core.specs.Report.{line_of, end_line}

pub five_words : (t e p l r : List ℕ) (letter : ℕ) → t ++ letter ∷ 32 ∷ [] ++ e ++ 32 ∷ [] ++ p ++ 32 ∷ [] ++ l ++ 32 ∷ [] ++ r ++ 10 ∷ [] ≡ t ++ line_of ((letter ∷ []) ∷ e ∷ p ∷ l ∷ r ∷ [])
five_words t e p l r letter = simp append_assoc

pub six_words : (t e p l r s : List ℕ) (letter : ℕ) → t ++ letter ∷ 32 ∷ [] ++ e ++ 32 ∷ [] ++ p ++ 32 ∷ [] ++ l ++ 32 ∷ [] ++ r ++ 32 ∷ [] ++ s ++ 10 ∷ [] ≡ t ++ line_of ((letter ∷ []) ∷ e ∷ p ∷ l ∷ r ∷ s ∷ [])
six_words t e p l r s letter = simp append_assoc

pub four_words : (t e p l : List ℕ) (letter : ℕ) → t ++ letter ∷ 32 ∷ [] ++ e ++ 32 ∷ [] ++ p ++ 32 ∷ [] ++ l ++ 10 ∷ [] ≡ t ++ line_of ((letter ∷ []) ∷ e ∷ p ∷ l ∷ [])
four_words t e p l letter = simp append_assoc

pub two_words : (t e : List ℕ) → t ++ codes "e " ++ e ++ 10 ∷ [] ≡ t ++ line_of (codes "e" ∷ e ∷ [])
two_words t e = simp append_assoc

pub fault_words : (t k c p : List ℕ) → t ++ codes "fault " ++ k ++ 32 ∷ [] ++ c ++ 32 ∷ [] ++ p ++ 10 ∷ [] ≡ t ++ line_of (codes "fault" ∷ k ∷ c ∷ p ∷ [])
fault_words t k c p = simp append_assoc

abbrev pub counts_text : List ℕ → ℕ → ℕ → ℕ → ℕ → ℕ → List ℕ
counts_text t pushed popped empty held unsent =
    t ++ codes "end" ++ codes " pushed " ++ decimal pushed ++ codes " popped " ++ decimal popped ++ codes " empty " ++ decimal empty
    ++ codes " held " ++ decimal held ++ codes " unsent " ++ decimal unsent

-- also if the count of dropped packets is shown
pub end_words : (dropped : Option ℕ) (pushed popped empty held unsent : ℕ) (t before after : List ℕ)
    → before ≡ counts_text t pushed popped empty held unsent
    → MatchOption dropped (after ≡ before) (λ count. after ≡ before ++ codes " dropped " ++ decimal count)
    → after ++ 10 ∷ [] ≡ t ++ end_line pushed popped empty held unsent dropped
end_words None pushed popped empty held unsent t before after is put = ap (λ s. s ++ 10 ∷ []) (put ∙ is) ∙ simp append_assoc
end_words (Some count) pushed popped empty held unsent t before after is put =
    ap (λ s. s ++ 10 ∷ []) (put ∙ ap (λ s. s ++ codes " dropped " ++ decimal count) is) ∙ simp append_assoc
