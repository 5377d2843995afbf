-- Numbers joined by a byte, one more at a time.
use Rattle.std.proofs.Common.{◌≡◌, ℕ, ◌+◌, ◌<◌, List, [], ◌∷◌, ◌++◌, length, map, take, get_or, decimal, refl, ap, sym, ◌∙◌, append_assoc}
use Rattle.std.proofs.lemmas.List.{map-append, take_more}
use Rattle.std.specs.List.{join_with_byte}

-- one more word after others
join_more : (c : ℕ) (w : List ℕ) (ws : List (List ℕ)) (v : List ℕ) → join_with_byte c (w ∷ (ws ++ v ∷ [])) ≡ join_with_byte c (w ∷ ws) ++ (c ∷ v)
join_more c w [] v = refl
join_more c w (x ∷ xs) v =
    ap (λ s. w ++ (c ∷ s)) (join_more c x xs v)
    ∙ sym (append_assoc w (c ∷ join_with_byte c (x ∷ xs)) (c ∷ v))

numbers_more : (c n : ℕ) (ns : List ℕ) (next : ℕ) → join_with_byte c (map decimal (n ∷ (ns ++ next ∷ []))) ≡ join_with_byte c (map decimal (n ∷ ns)) ++ (c ∷ decimal next)
numbers_more c n ns next = ap (λ ws. join_with_byte c (decimal n ∷ ws)) (map-append decimal ns (next ∷ [])) ∙ join_more c (decimal n) (map decimal ns) (decimal next)

-- one more pass of a loop over the numbers after the first
pub numbers_step : (c : ℕ) (ns : List ℕ) (n i : ℕ) → i < length ns
    → join_with_byte c (map decimal (n ∷ take (i + 1) ns)) ≡ join_with_byte c (map decimal (n ∷ take i ns)) ++ (c ∷ decimal (get_or ns i 0))
numbers_step c ns n i h = ap (λ ms. join_with_byte c (map decimal (n ∷ ms))) (take_more ns i 0 h) ∙ numbers_more c n (take i ns) (get_or ns i 0)
