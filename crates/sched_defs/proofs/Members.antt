-- The elements of lists with one element added or removed.
use Rattle.sched_defs.proofs.Prelude.{◌≡◌, List, [], arith, ℕ, ◌∷◌, ap, refl, subst, sym, ◌+◌, length, suc, zero, ◌++◌, ◌∙◌, false, inl, inr, map, ◌≢◌, nat_eq, ◌⊎◌, eqb-false, AllByRecursion, Contains, IsDistinct-taken, OneMore}
use Rattle.std.specs.List.{IsDistinct}

module _ {X : Type 0} where
  abbrev pub IsIn : X → List X → Type 0
  IsIn x [] = ⊥
  IsIn x (y ∷ ys) = (y ≡ x) ⊎ IsIn x ys

  pub in_of : (x : X) (xs : List X) → Contains xs x → IsIn x xs
  in_of x [] c = let l = c.1 in absurd (omega arith)
  in_of x (y ∷ ys) (zero, l, e) = inl e
  in_of x (y ∷ ys) (suc k, l, e) = inr (in_of x ys (k, omega arith, e))

  pub contains_of : (x : X) (xs : List X) → IsIn x xs → Contains xs x
  contains_of x [] i = absurd i
  contains_of x (y ∷ ys) (inl e) = (zero, omega arith, e)
  contains_of x (y ∷ ys) (inr i) = let c = contains_of x ys i in (suc c.0, let l = c.1 in omega arith, c.2)

  in_with : (n x : X) (before behind : List X) → IsIn n (before ++ behind) → IsIn n (before ++ x ∷ behind)
  in_with n x [] behind i = inr i
  in_with n x (b ∷ before) behind (inl e) = inl e
  in_with n x (b ∷ before) behind (inr i) = inr (in_with n x before behind i)

  in_it : (x : X) (before behind : List X) → IsIn x (before ++ x ∷ behind)
  in_it x [] behind = inl refl
  in_it x (b ∷ before) behind = inr (in_it x before behind)

  in_without : (n x : X) (before behind : List X) → n ≢ x → IsIn n (before ++ x ∷ behind) → IsIn n (before ++ behind)
  in_without n x [] behind ne (inl e) = absurd (ne (sym e))
  in_without n x [] behind ne (inr i) = i
  in_without n x (b ∷ before) behind ne (inl e) = inl e
  in_without n x (b ∷ before) behind ne (inr i) = inr (in_without n x before behind ne i)

  pub Contains-with : (n x : X) (xs ys : List X) → OneMore x xs ys → Contains xs n → Contains ys n
  Contains-with n x xs ys o c =
      let i : IsIn n (o.before ++ o.behind) = subst (IsIn n) o.without (in_of n xs c) in
      contains_of n ys (subst (IsIn n) (sym o.with_it) (in_with n x o.before o.behind i))

  pub Contains-added : (x : X) (xs ys : List X) → OneMore x xs ys → Contains ys x
  Contains-added x xs ys o = contains_of x ys (subst (IsIn x) (sym o.with_it) (in_it x o.before o.behind))

  pub Contains-without : (n x : X) (xs ys : List X) → OneMore x xs ys → n ≢ x → Contains ys n → Contains xs n
  Contains-without n x xs ys o ne c =
      let i : IsIn n (o.before ++ x ∷ o.behind) = subst (IsIn n) o.with_it (in_of n ys c) in
      contains_of n xs (subst (IsIn n) (sym o.without) (in_without n x o.before o.behind ne i))

module _ {X : Type 0} (P Q : X → Type 0) where
  pub all_mapped : ((x : X) → P x → Q x) → (xs : List X) → AllByRecursion P xs → AllByRecursion Q xs
  all_mapped f [] h = tt
  all_mapped f (x ∷ xs) h = (f x h.0, all_mapped f xs h.1)

module _ {X Y : Type 0} (f : X → Y) (P : Y → Type 0) where
  pub all_unmapped : (xs : List X) → AllByRecursion P (map f xs) → AllByRecursion (λ x. P (f x)) xs
  all_unmapped [] h = tt
  all_unmapped (x ∷ xs) h = (h.0, all_unmapped xs h.1)

  pub all_over : (xs : List X) → AllByRecursion (λ x. P (f x)) xs → AllByRecursion P (map f xs)
  all_over [] h = tt
  all_over (x ∷ xs) h = (h.0, all_over xs h.1)

module _ {X : Type 0} (P Q R : X → Type 0) where
  pub all_joined : ((x : X) → P x → Q x → R x) → (xs : List X) → AllByRecursion P xs → AllByRecursion Q xs → AllByRecursion R xs
  all_joined f [] h k = tt
  all_joined f (x ∷ xs) h k = (f x h.0 k.0, all_joined f xs h.1 k.1)

-- a property of each element holds of any member
pub all_at : {X : Type 0} (P : X → Type 0) (x : X) (xs : List X) → AllByRecursion P xs → IsIn x xs → P x
all_at P x [] h i = absurd i
all_at P x (y ∷ ys) h (inl e) = subst P e h.0
all_at P x (y ∷ ys) h (inr i) = all_at P x ys h.1 i

-- a member splits the list into the elements before it and those after it
pub one_more : {X : Type 0} (x : X) (xs : List X) → IsIn x xs → (ys : List X) × OneMore x ys xs
one_more x [] i = absurd i
one_more {X} x (y ∷ ys) (inl e) = (ys, record { before = []; behind = ys; without = refl; with_it = ap (λ (z : X). z ∷ ys) e })
one_more {X} x (y ∷ ys) (inr i) =
    let r = one_more x ys i in
    (y ∷ r.0, record { before = y ∷ r.1.before; behind = r.1.behind; without = ap (λ (l : List X). y ∷ l) r.1.without; with_it = ap (λ (l : List X). y ∷ l) r.1.with_it })

length_with : {X : Type 0} (x : X) (before behind : List X) → length (before ++ x ∷ behind) ≡ length (before ++ behind) + 1
length_with x [] behind = omega arith
length_with x (b ∷ before) behind = omega (arith, length_with x before behind)

pub length-one_more : {X : Type 0} (x : X) (xs ys : List X) → OneMore x xs ys → length ys ≡ length xs + 1
length-one_more {X} x xs ys o = ap (λ (l : List X). length l) o.with_it ∙ length_with x o.before o.behind ∙ ap (λ (l : List X). length l + 1) (sym o.without)

not_among : (x : ℕ) (xs : List ℕ) → AllByRecursion (λ y. nat_eq x y ≡ false) xs → IsIn x xs → ⊥
not_among x xs h i = eqb-false x x (all_at (λ y. nat_eq x y ≡ false) x xs h i) refl

-- two lists of distinct numbers with the same members have the same length
pub same_length : (xs ys : List ℕ) → IsDistinct nat_eq xs → IsDistinct nat_eq ys → ((n : ℕ) → IsIn n xs → IsIn n ys) → ((n : ℕ) → IsIn n ys → IsIn n xs) → length xs ≡ length ys
unfolding IsDistinct
same_length [] [] d e f g = refl
same_length [] (y ∷ ys) d e f g = absurd (g y (inl refl))
same_length (x ∷ xs) ys d e f g =
    let r = one_more x ys (f x (inl refl)) in
    let t = IsDistinct-taken x r.0 ys r.1 e in
    let others : (n : ℕ) → IsIn n xs → IsIn n r.0 = λ n i. in_of n r.0 (Contains-without n x r.0 ys r.1 (λ s. not_among x xs d.0 (subst (λ (m : ℕ). IsIn m xs) s i)) (contains_of n ys (f n (inr i)))) in
    let back : (n : ℕ) → IsIn n r.0 → IsIn n xs = λ n i. from_tail n x xs r.0 t.0 i (g n (in_of n ys (Contains-with n x r.0 ys r.1 (contains_of n r.0 i)))) in
    let l : length xs ≡ length r.0 = same_length xs r.0 d.1 t.1 others back in
    let m : length ys ≡ length r.0 + 1 = length-one_more x r.0 ys r.1 in
    omega arith
  where
    from_tail : (n x : ℕ) (xs zs : List ℕ) → AllByRecursion (λ y. nat_eq x y ≡ false) zs → IsIn n zs → IsIn n (x ∷ xs) → IsIn n xs
    from_tail n x xs zs other i (inl e) = absurd (not_among x zs other (subst (λ (m : ℕ). IsIn m zs) (sym e) i))
    from_tail n x xs zs other i (inr j) = j
