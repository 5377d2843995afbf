-- Lists of delays by index.
use Rattle.summary_core.proofs.Prelude.{ℕ, length, ◌≡◌, arith, List, ap, ◌≤◌, ◌∙◌, sym, [], ◌∷◌, refl, suc, zero, Bool, Some, if◌then◌else◌, ◌++◌, Option, false, true, None, append-nil, Global, Vec, slice_set, slice_get, option_map, list_at, items_at}

-- nothing is added at any index
pub none_more : (o : Option (List ℕ)) → o ≡ option_map (λ l. l ++ []) o
none_more None = refl
none_more (Some l) = ap (λ (x : List ℕ). Some x) (sym (append-nil l))

-- one list is longer, and the others stay; t is whether i is its index
pub one_longer : (lists : List (Vec ℕ Global)) (index : ℕ) (old new : Vec ℕ Global) (more : List ℕ) → slice_get lists index ≡ Some old → new.items ≡ old.items ++ more
    → (i : ℕ) (t : Bool) → (t ≡ true → i ≡ index) → (t ≡ false → i ≡ index → ⊥)
    → items_at (slice_set lists index new) i ≡ option_map (λ l. l ++ (if t then more else [])) (items_at lists i)
one_longer [] index old new more e is i t same other = cc
one_longer (v ∷ vs) zero old new more e is zero true same other =
    let at : v ≡ old = cc in
    ap (λ (x : List ℕ). Some x) (is ∙ ap (λ (o : Vec ℕ Global). o.items ++ more) (sym at))
one_longer (v ∷ vs) zero old new more e is zero false same other = absurd (other refl refl)
one_longer (v ∷ vs) zero old new more e is (suc i) true same other = let e : suc i ≡ 0 = same refl in absurd (omega (arith, e))
one_longer (v ∷ vs) zero old new more e is (suc i) false same other = none_more (items_at vs i)
one_longer (v ∷ vs) (suc k) old new more e is zero true same other = let e : 0 ≡ suc k = same refl in absurd (omega (arith, e))
one_longer (v ∷ vs) (suc k) old new more e is zero false same other = none_more (Some v.items)
one_longer (v ∷ vs) (suc k) old new more e is (suc i) t same other = one_longer vs k old new more e is i t (λ is_true. omega (arith, same is_true)) (λ is_false at. other is_false (ap suc at))

-- there is no list at the index
pub none_longer : (lists : List (Vec ℕ Global)) (index : ℕ) (more : List ℕ) → slice_get lists index ≡ None
    → (i : ℕ) (t : Bool) → (t ≡ true → i ≡ index) → items_at lists i ≡ option_map (λ l. l ++ (if t then more else [])) (items_at lists i)
none_longer [] index more e i t same = refl
none_longer (v ∷ vs) zero more e i t same = cc
none_longer (v ∷ vs) (suc k) more e zero true same = let e : 0 ≡ suc k = same refl in absurd (omega (arith, e))
none_longer (v ∷ vs) (suc k) more e zero false same = none_more (Some v.items)
none_longer (v ∷ vs) (suc k) more e (suc i) t same = none_longer vs k more e i t (λ is_true. omega (arith, same is_true))

-- beyond the last list there is no delay
pub none_past : (lists : List (Vec ℕ Global)) (i : ℕ) → length lists ≤ i → list_at lists i ≡ []
none_past [] i most = refl
none_past (v ∷ vs) zero most = absurd (omega (arith, most))
none_past (v ∷ vs) (suc i) most = none_past vs i (omega (arith, most))
