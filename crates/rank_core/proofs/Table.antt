-- Name lookup in the code's table.
use Rattle.rank_core.proofs.Prelude.{◌≡◌, sym, rules, ◌∙◌, List, arith, [], length, ℕ, map, refl, ◌∷◌, Some, drop, false, ◌<◌, true, ◌+◌, get_or, drop_more, program_named, row, program}
use Rattle.std.specs.Str.{bytes_eq}
use Rattle.rank_defs.specs.Builtins.{same_name}
use Rattle.rank_core.specs.declared.builtins.Row.{Row}

-- `==` of names agrees with the definition
agree : (a b : List ℕ) → bytes_eq a b ≡ same_name b a
agree [] [] = refl
agree [] (b ∷ bs) = refl
agree (a ∷ xs) [] = refl
agree (a ∷ xs) (b ∷ ys) = grind (arith, rules, agree xs ys)

-- the row at an index has the name
pub here : (name : List ℕ) (rows : List Row) (i : ℕ) (d : Row) → i < length rows → true ≡ bytes_eq (get_or rows i d).name.now name → Some (program (get_or rows i d)) ≡ program_named name (map row (drop i rows))
here name rows i d within same =
    let is : same_name name (get_or rows i d).name.now ≡ true = sym (same ∙ agree (get_or rows i d).name.now name)
    in rw (drop_more rows i d within, is) refl

-- the row at an index has a different name
pub further : (name : List ℕ) (rows : List Row) (i : ℕ) (d : Row) → i < length rows → false ≡ bytes_eq (get_or rows i d).name.now name → program_named name (map row (drop (i + 1) rows)) ≡ program_named name (map row (drop i rows))
further name rows i d within other =
    let not : same_name name (get_or rows i d).name.now ≡ false = sym (other ∙ agree (get_or rows i d).name.now name)
    in rw (drop_more rows i d within, not) refl
