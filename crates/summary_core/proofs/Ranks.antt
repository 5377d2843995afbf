-- Counts over several lists.
use Rattle.summary_core.proofs.Prelude.{ℕ, length, ◌≡◌, arith, List, ap, ◌≤◌, ◌∙◌, sym, [], ◌∷◌, refl, suc, ◌<◌, ◌+◌, zero, Bool, ◌++◌, false, take, true, get_or, leb, ◌*◌, All, append-nil, append_assoc, cond, ◌/◌, length-append, ◌%◌, cond-false, cond-true, le-leb, leb-true, sum_by-cons, sum_by-append, sum_by-le-sum_by, div_ceil, AllWithin, nearest_rank, listed, count_to, at_most}

pub take_all : (xs : List ℕ) (n : ℕ) → length xs ≤ n → take n xs ≡ xs
take_all [] zero most = refl
take_all [] (suc n) most = refl
take_all (x ∷ xs) zero most = absurd (omega (arith, most))
take_all (x ∷ xs) (suc n) most = ap (λ (l : List ℕ). x ∷ l) (take_all xs n (omega (arith, most)))

listed-next : (f : ℕ → List ℕ) (ms : List ℕ) (i d : ℕ) → i < length ms → listed f (take (suc i) ms) ≡ listed f (take i ms) ++ f (get_or ms i d)
listed-next f [] i d within = absurd (omega (arith, within))
listed-next f (m ∷ ms) zero d within = append-nil (f m)
listed-next f (m ∷ ms) (suc i) d within =
    ap (λ (l : List ℕ). f m ++ l) (listed-next f ms i d (omega (arith, within))) ∙ sym (append_assoc (f m) (listed f (take i ms)) (f (get_or ms i d)))

pub listed-more : (f : ℕ → List ℕ) (ms : List ℕ) (i d : ℕ) → i < length ms → listed f (take (i + 1) ms) ≡ listed f (take i ms) ++ f (get_or ms i d)
listed-more f ms i d within = ap (λ k. listed f (take k ms)) (let e : i + 1 ≡ suc i = omega arith in e) ∙ listed-next f ms i d within

pub listed_last : (f : ℕ → List ℕ) (ms : List ℕ) (m : ℕ) → listed f (ms ++ m ∷ []) ≡ listed f ms ++ f m
listed_last f [] m = append-nil (f m)
listed_last f (n ∷ ms) m = ap (λ (l : List ℕ). f n ++ l) (listed_last f ms m) ∙ sym (append_assoc (f n) (listed f ms) (f m))

pub counted-more : (bound : ℕ) (f : ℕ → List ℕ) (ms : List ℕ) (i d : ℕ) → i < length ms
    → count_to bound (listed f (take (i + 1) ms)) ≡ count_to bound (listed f (take i ms)) + count_to bound (f (get_or ms i d))
counted-more bound f ms i d within = ap (λ (l : List ℕ). count_to bound l) (listed-more f ms i d within) ∙ sum_by-append (at_most bound) (listed f (take i ms)) (f (get_or ms i d))

pub length-more : (f : ℕ → List ℕ) (ms : List ℕ) (i d : ℕ) → i < length ms → length (listed f (take (i + 1) ms)) ≡ length (listed f (take i ms)) + length (f (get_or ms i d))
length-more f ms i d within = ap (λ (l : List ℕ). length l) (listed-more f ms i d within) ∙ length-append (listed f (take i ms)) (f (get_or ms i d))

-- a list whose first numbers are at most the bound, and whose others aren't
pub count-point : (bound : ℕ) (xs : List ℕ) (i : ℕ) → i ≤ length xs → AllWithin (λ x. leb x bound ≡ true) xs 0 i → AllWithin (λ x. leb x bound ≡ false) xs i (length xs) → count_to bound xs ≡ i
count-point bound [] zero most low high = refl
count-point bound [] (suc i) most low high = absurd (omega (arith, most))
count-point bound (x ∷ xs) zero most low high =
    let first : at_most bound x ≡ 0 = cond-false (leb x bound) 1 0 (high 0 0 (omega arith) (omega arith)) in
    let rest : count_to bound xs ≡ 0 = count-point bound xs 0 (omega arith) (λ k d least less. absurd (omega (arith, less))) (λ k d least less. high (suc k) d (omega arith) (omega (arith, less))) in
    omega (arith, sum_by-cons (at_most bound) x xs, first, rest)
count-point bound (x ∷ xs) (suc i) most low high =
    let first : at_most bound x ≡ 1 = cond-true (leb x bound) 1 0 (low 0 0 (omega arith) (omega arith)) in
    let rest : count_to bound xs ≡ i =
    count-point bound xs i (omega (arith, most)) (λ k d least less. low (suc k) d (omega arith) (omega (arith, less))) (λ k d least less. high (suc k) d (omega (arith, least)) (omega (arith, less))) in
    omega (arith, sum_by-cons (at_most bound) x xs, first, rest)

at_most-le : (b c x : ℕ) → b ≤ c → at_most b x ≤ at_most c x
at_most-le b c x low = by_test (leb x b) refl
  where
    by_test : (t : Bool) → leb x b ≡ t → cond t 1 0 ≤ at_most c x
    by_test true e = let one : at_most c x ≡ 1 = cond-true (leb x c) 1 0 (le-leb x c (let less : x ≤ b = leb-true x b e in omega (arith, less, low))) in omega (arith, one)
    by_test false e = omega arith

pub count-le : (b c : ℕ) (xs : List ℕ) → b ≤ c → count_to b xs ≤ count_to c xs
count-le b c xs low = sum_by-le-sum_by (at_most b) (at_most c) xs (λ x. at_most-le b c x low)

quotient : (n : ℕ) → n ≡ 100 * (n / 100) + n % 100
quotient n = omega arith

pub nearest : (percent n : ℕ) → (n / 100) * percent + div_ceil ((n % 100) * percent) 100 ≡ nearest_rank percent n
nearest percent n =
    let q = n / 100 in
    let r = n % 100 in
    let all : percent * n ≡ 100 * (q * percent) + r * percent = ap (λ m. percent * m) (quotient n) ∙ grind arith in
    ap (λ m. m) (let e : (q * percent) + div_ceil (r * percent) 100 ≡ div_ceil (100 * (q * percent) + r * percent) 100 = omega arith in e) ∙ ap (λ m. div_ceil m 100) (sym all)

-- all numbers are counted to a bound that none is above
pub count_all : (bound : ℕ) (xs : List ℕ) → All (λ x. x ≤ bound) xs → count_to bound xs ≡ length xs
count_all bound [] most = refl
count_all bound (x ∷ xs) most =
    let first : at_most bound x ≡ 1 = cond-true (leb x bound) 1 0 (le-leb x bound (most 0 0 (omega arith))) in
    let rest : count_to bound xs ≡ length xs = count_all bound xs (λ k d within. most (suc k) d (omega (arith, within))) in
    omega (arith, sum_by-cons (at_most bound) x xs, first, rest)

one_or_more : (percent n : ℕ) → 1 ≤ percent → 0 < n → 1 ≤ percent * n
one_or_more zero n least some = absurd (omega (arith, least))
one_or_more (suc percent) zero least some = absurd (omega (arith, some))
one_or_more (suc percent) (suc n) least some = grind arith

pub rank_is_some : (percent n : ℕ) → 1 ≤ percent → 0 < n → 1 ≤ nearest_rank percent n
rank_is_some percent n least some = omega (arith, one_or_more percent n least some)

scaled : (percent n : ℕ) → percent ≤ 100 → percent * n ≤ 100 * n
scaled percent n most = grind arith

pub rank_is_most : (percent n : ℕ) → percent ≤ 100 → nearest_rank percent n ≤ n
rank_is_most percent n most = omega (arith, scaled percent n most)
