-- The lowest levels of a target, with one level added at a time.
use Rattle.embed_defs.proofs.Prelude.{ℕ, ◌≡◌, refl, ◌∷◌, ap, ◌∙◌, arith, suc, sym, length, List, ◌≤◌, zero, ◌-◌, ◌<◌, inl, inr, drop, nat_lt, cases_Bool, ltb-true, ltb-false, drop_all, AllByRecursion, slice_index, down_from, levels, IsArity, lowest}
use Rattle.std.proofs.lemmas.Grind.{common_steps}
use Rattle.std.proofs.Math.Seq.{drop-cons}
use Rattle.embed_defs.specs.TargetLaws.{HeightsAreInRange}

-- the added level is one of the target's own
own_level : (ds : List ℕ) (above h : ℕ) → h < length ds → lowest ds above (suc h) ≡ slice_index ds (length ds - 1 - h) ∷ lowest ds above h
own_level ds above h l =
    let none : suc h - length ds ≡ 0 = omega (arith, l) in
    let none' : h - length ds ≡ 0 = omega (arith, l) in
    let at : length ds - suc h ≡ length ds - 1 - h = omega arith in
    let next : suc (length ds - 1 - h) ≡ length ds - h = omega (arith, l) in
    let head : drop (length ds - 1 - h) ds ≡ slice_index ds (length ds - 1 - h) ∷ drop (suc (length ds - 1 - h)) ds = drop-cons ds (length ds - 1 - h) 0 (omega (arith, l)) in
    rw none (rw none' (rw at (head ∙ ap (λ (n : ℕ). slice_index ds (length ds - 1 - h) ∷ drop n ds) next)))

-- the added level is one of those above the root
level_above : (ds : List ℕ) (above h : ℕ) → length ds ≤ h → lowest ds above (suc h) ≡ above ∷ lowest ds above h
level_above ds above h l =
    let more : suc h - length ds ≡ suc (h - length ds) = omega (arith, l) in
    let none : length ds - suc h ≡ 0 = omega (arith, l) in
    let none' : length ds - h ≡ 0 = omega (arith, l) in
    rw more (rw none (rw none' refl))

pub next_level : (ds : List ℕ) (above h : ℕ) → lowest ds above (suc h) ≡ levels ds above h ∷ lowest ds above h
next_level ds above h =
    elim (cases_Bool (nat_lt h (length ds))) [
      | inl t ↦ rw t (own_level ds above h (ltb-true h (length ds) t))
      | inr t ↦ rw t (level_above ds above h (ltb-false h (length ds) t))
    ]

pub heights_give-holds : (ds : List ℕ) (above h : ℕ) → down_from (levels ds above) h ≡ lowest ds above h
heights_give-holds ds above zero =
    let none : 0 - length ds ≡ 0 = omega arith in
    rw none (sym (drop_all (length ds - 0) ds (omega arith)))
heights_give-holds ds above (suc h) = ap (λ (l : List ℕ). levels ds above h ∷ l) (heights_give-holds ds above h) ∙ sym (next_level ds above h)

heights : (ds : List ℕ) (above : ℕ) → AllByRecursion IsArity ds → IsArity above → (h : ℕ) → IsArity (levels ds above h)
heights ds above all among h = grind (arith, common_steps)

pub heights_in_range-holds : HeightsAreInRange
heights_in_range-holds ds above r h = heights ds above r.target.narrow (r.wide, r.narrow) h
