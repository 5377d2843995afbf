-- Facts about all items, or distinct items, with one more and with one fewer.
use Rattle.tree_defs.proofs.Prelude.{◌≡◌, [], arith, subst, ℕ, ◌∷◌, List, sym, ◌++◌, false, nat_eq, AllByRecursion, OneMore}
use Rattle.std.specs.List.{IsDistinct}
use Rattle.std.proofs.lemmas.Bool.Decides.{nat_tests}

module _ {X : Type 0} (P : X → Type 0) where
  all_with : (x : X) (before behind : List X) → P x → AllByRecursion P (before ++ behind) → AllByRecursion P (before ++ x ∷ behind)
  all_with x [] behind here h = (here, h)
  all_with x (b ∷ before) behind here h = (h.0, all_with x before behind here h.1)

  all_without : (x : X) (before behind : List X) → AllByRecursion P (before ++ x ∷ behind) → P x × AllByRecursion P (before ++ behind)
  all_without x [] behind h = h
  all_without x (b ∷ before) behind h = let r = all_without x before behind h.1 in (r.0, (h.0, r.1))

  pub All-added : (x : X) (xs ys : List X) → OneMore x xs ys → P x → AllByRecursion P xs → AllByRecursion P ys
  All-added x xs ys o here h = subst (AllByRecursion P) (sym o.with_it) (all_with x o.before o.behind here (subst (AllByRecursion P) o.without h))

  pub All-taken : (x : X) (xs ys : List X) → OneMore x xs ys → AllByRecursion P ys → P x × AllByRecursion P xs
  All-taken x xs ys o h =
      let r = all_without x o.before o.behind (subst (AllByRecursion P) o.with_it h) in
      (r.0, subst (AllByRecursion P) (sym o.without) r.1)

-- a number that isn't in the list
abbrev pub IsOther : ℕ → List ℕ → Type 0
IsOther x xs = AllByRecursion (λ y. nat_eq x y ≡ false) xs

other_way : (x y : ℕ) → nat_eq x y ≡ false → nat_eq y x ≡ false
other_way x y e = grind (arith, nat_tests, e)

distinct_with : (x : ℕ) (before behind : List ℕ) → IsOther x (before ++ behind) → IsDistinct nat_eq (before ++ behind) → IsDistinct nat_eq (before ++ x ∷ behind)
unfolding IsDistinct
distinct_with x [] behind other d = (other, d)
distinct_with x (b ∷ before) behind other d = (all_with (λ y. nat_eq b y ≡ false) x before behind (other_way x b other.0) d.0, distinct_with x before behind other.1 d.1)

distinct_without : (x : ℕ) (before behind : List ℕ) → IsDistinct nat_eq (before ++ x ∷ behind) → IsOther x (before ++ behind) × IsDistinct nat_eq (before ++ behind)
unfolding IsDistinct
distinct_without x [] behind d = d
distinct_without x (b ∷ before) behind d =
    let r = distinct_without x before behind d.1 in
    let s = all_without (λ y. nat_eq b y ≡ false) x before behind d.0 in
    ((other_way b x s.0, r.0), (s.1, r.1))

pub IsDistinct-added : (x : ℕ) (xs ys : List ℕ) → OneMore x xs ys → IsOther x xs → IsDistinct nat_eq xs → IsDistinct nat_eq ys
IsDistinct-added x xs ys o other d =
    subst (IsDistinct nat_eq) (sym o.with_it) (distinct_with x o.before o.behind (subst (IsOther x) o.without other) (subst (IsDistinct nat_eq) o.without d))

pub IsDistinct-taken : (x : ℕ) (xs ys : List ℕ) → OneMore x xs ys → IsDistinct nat_eq ys → IsOther x xs × IsDistinct nat_eq xs
IsDistinct-taken x xs ys o d =
    let r = distinct_without x o.before o.behind (subst (IsDistinct nat_eq) o.with_it d) in
    (subst (IsOther x) (sym o.without) r.0, subst (IsDistinct nat_eq) (sym o.without) r.1)
