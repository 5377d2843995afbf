-- Arguments that name taps in pairs.
use Rattle.replay_app.proofs.Prelude.{sym, List, ◌≡◌, refl, ap, ◌∙◌, [], ◌∷◌, Some, arith, length, ◌≤◌, take, get_or, take_all, true, drop, ◌-◌, codes, String, string_bytes, Global, named_with, Named, named_in, texts}
use Rattle.std.specs.Str.{bytes_eq}

-- the first pair, and the pairs after it
pub pair_first : (named more : Named) (words : List (String Global)) (w name : String Global) → 2 ≤ length words → w ≡ get_or words 0 w → name ≡ get_or words 1 name
    → bytes_eq (string_bytes w) (codes "tap") ≡ true → Some more ≡ named_with named (string_bytes name) → named_in more (texts (take (length words - 2) (drop 2 words))) ≡ named_in named (texts words)
pair_first named more [] w name two first second is with = absurd (omega (arith, two))
pair_first named more (x ∷ []) w name two first second is with = absurd (omega (arith, two))
pair_first named more (x ∷ y ∷ words) w name two first second is with =
    ap (λ (ws : List (String Global)). named_in more (texts ws)) (take_all (length (x ∷ y ∷ words) - 2) words (omega arith))
    ∙ rw (rw first at is, sym (rw second at with)) refl
