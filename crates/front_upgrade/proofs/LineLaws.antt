-- The lines of statements.
use Rattle.front_upgrade.proofs.Prelude.{◌≡◌, refl, ap, sym, ◌∙◌, ℕ, suc, zero, arith, List, [], ◌∷◌, map, length, get_or, ◌≤◌}
use Rattle.std.specs.Prelude.{◌<◌}
use Rattle.policy_text.specs.Entries.{Numbered, entry_of}
use Rattle.front_upgrade.specs.Upgraded.{line_at}

line_of_place : (xs : List Numbered) (k : ℕ) (d : Numbered) → k < length xs → (get_or xs k d).0 ≡ line_at (map entry_of xs) (suc k)
line_of_place [] k d within = absurd (omega (arith, within))
line_of_place (x ∷ xs) zero d within = refl
line_of_place (x ∷ xs) (suc k) d within = line_of_place xs k d (omega (arith, within))

no_line_of_place : (xs : List Numbered) (k : ℕ) → length xs ≤ k → 0 ≡ line_at (map entry_of xs) (suc k)
no_line_of_place [] k past = refl
no_line_of_place (x ∷ xs) zero past = absurd (omega (arith, past))
no_line_of_place (x ∷ xs) (suc k) past = no_line_of_place xs k (omega (arith, past))

pub line_of_number : (xs : List Numbered) (n k : ℕ) (d : Numbered) → n ≡ suc k → k < length xs → (get_or xs k d).0 ≡ line_at (map entry_of xs) n
line_of_number xs n k d is within = line_of_place xs k d within ∙ ap (line_at (map entry_of xs)) (sym is)

pub no_line_of_number : (xs : List Numbered) (n k : ℕ) → n ≡ suc k → length xs ≤ k → 0 ≡ line_at (map entry_of xs) n
no_line_of_number xs n k is past = no_line_of_place xs k past ∙ ap (line_at (map entry_of xs)) (sym is)
