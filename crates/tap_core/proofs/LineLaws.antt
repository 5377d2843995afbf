-- The words of a tap's line, one more number at a time.
use Rattle.tap_core.proofs.Prelude.{◌≡◌, ◌∙◌, ap, refl, sym, ◌++◌, List, length, take, ℕ, ◌<◌, [], ◌∷◌, get_or, map, append_assoc, ◌+◌, decimal, map-append, take_more, join_with_byte, words_of}

-- one more word after others
join_more : (c : ℕ) (w : List ℕ) (ws : List (List ℕ)) (v : List ℕ) → join_with_byte c (w ∷ (ws ++ v ∷ [])) ≡ join_with_byte c (w ∷ ws) ++ (c ∷ v)
join_more c w [] v = refl
join_more c w (x ∷ xs) v =
    ap (λ s. w ++ (c ∷ s)) (join_more c x xs v)
    ∙ sym (append_assoc w (c ∷ join_with_byte c (x ∷ xs)) (c ∷ v))

-- one more pass of a loop over the numbers
pub words_step : (name ns : List ℕ) (i : ℕ) → i < length ns
    → join_with_byte 32 (words_of name (take (i + 1) ns)) ≡ join_with_byte 32 (words_of name (take i ns)) ++ (32 ∷ decimal (get_or ns i 0))
words_step name ns i h =
    ap (λ ms. join_with_byte 32 (words_of name ms)) (take_more ns i 0 h)
    ∙ ap (λ ws. join_with_byte 32 ((116 ∷ 97 ∷ 112 ∷ []) ∷ name ∷ ws)) (map-append decimal (take i ns) (get_or ns i 0 ∷ []))
    ∙ join_more 32 (116 ∷ 97 ∷ 112 ∷ []) (name ∷ map decimal (take i ns)) (decimal (get_or ns i 0))
