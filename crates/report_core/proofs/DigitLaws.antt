-- The digits of a number without its last two, and the last two after them.
use Rattle.std.proofs.Common.{◌≡◌, ℕ, Bool, true, ◌&&◌, T, eqb, eqb→eq, eq-zero-or-pos, inl, inr, slice_index_or, zero, suc, ◌+◌, ◌-◌, ◌*◌, ◌/◌, ◌%◌, ◌^◌, ◌<◌, ◌≤◌, List, [], ◌∷◌, ◌++◌, take, length, decimal, sym, ap, ◌∙◌, append_assoc, arith, length-append}
use Rattle.std.proofs.Math.Nat.{mul-div_cancel_left}
use Rattle.std.proofs.lemmas.Fmt.{decimal_digit, decimal_step}
use lib.Ieee.Fits.{and_l, and_r}
use Rattle.report_core.specs.Digits.{AreLeading, IsAfter, pair}
use Rattle.report_core.specs.declared.line.TheConstants.{PAIRS}
use Rattle.itoa.proofs.Decimal.{decimal_pair}
use Rattle.report_core.proofs.LineSteps.{part_put}

-- the leading digits stand behind a line's start
pub leading_in_line : (unit least count at room : ℕ) (bytes first old : List ℕ) → AreLeading unit least count bytes → at ≤ length old → room ≡ at + length bytes → take room first ≡ take at old ++ bytes
    → IsAfter (take at old) unit least (take (at + count) first)
leading_in_line unit least count at room bytes first old kept within whole put n is =
    let same : kept.leading ≡ n = sym (mul-div_cancel_left kept.leading kept.unit_some) ∙ ap (λ m. m / unit) (sym kept.round ∙ is) ∙ mul-div_cancel_left n kept.unit_some in
    part_put at count room old bytes first within kept.within whole put ∙ ap (λ l. take at old ++ l) (kept.text ∙ ap decimal same)

-- with the last two digits and another byte after the digits of the hundreds, a line holds the
-- number and that byte
pub number_in_line : (value hundreds rest end after : ℕ) (start first line : List ℕ) → value ≡ 100 * hundreds + rest → 1 ≤ hundreds → rest < 100 → value < 2 ^ 64
    → first ≡ start ++ decimal hundreds → line ≡ first ++ (48 + rest / 10) ∷ (48 + rest % 10) ∷ after ∷ [] → line ≡ start ++ decimal value ++ after ∷ []
number_in_line value hundreds rest end after start first line is some few fits before last =
    let two : List ℕ = (48 + rest / 10) ∷ (48 + rest % 10) ∷ [] in
    let front : value / 100 ≡ hundreds = omega (arith, is, few) in
    let same : value % 100 ≡ rest = omega (arith, is, few) in
    let digits : decimal value ≡ decimal hundreds ++ two =
    decimal_pair value (omega (arith, some, is)) fits ∙ ap (λ n. decimal n ++ pair (value % 100)) front ∙ ap (λ n. decimal hundreds ++ pair n) same in
    last
    ∙ ap (λ l. l ++ (48 + rest / 10) ∷ (48 + rest % 10) ∷ after ∷ []) before
    ∙ sym (append_assoc (start ++ decimal hundreds) two (after ∷ []))
    ∙ ap (λ l. l ++ after ∷ []) (append_assoc start (decimal hundreds) two ∙ ap (λ l. start ++ l) (sym digits))

-- the last four digits of a number behind the others
decimal_four : (n : ℕ) → 10000 ≤ n → n < 2 ^ 64 → decimal n ≡ decimal (n / 10000) ++ pair (n % 10000 / 100) ++ pair (n % 100)
decimal_four n low fits =
    let a : n / 100 / 100 ≡ n / 10000 = omega arith in
    let b : n / 100 % 100 ≡ n % 10000 / 100 = omega arith in
    decimal_pair n (omega arith) fits ∙ ap (λ l. l ++ pair (n % 100)) (decimal_pair (n / 100) (omega arith) (omega arith) ∙ ap (λ m. decimal m ++ pair (n / 100 % 100)) a ∙ ap (λ m. decimal (n / 10000) ++ pair m) b)

-- with the last eight digits after its leading ones, a line holds the number
pub late_in_line : (value leading rest : ℕ) (start first middle line : List ℕ) → value ≡ 100000000 * leading + rest → 1 ≤ leading → rest < 100000000 → value < 2 ^ 64
    → first ≡ start ++ decimal leading → middle ≡ first ++ (pair (rest / 10000 / 100) ++ pair (rest / 10000 % 100)) → line ≡ middle ++ (pair (rest % 10000 / 100) ++ pair (rest % 10000 % 100)) → line ≡ start ++ decimal value
late_in_line value leading rest start first middle line is some few fits at_first at_middle at_line =
    let high : value / 10000 / 10000 ≡ leading = omega (arith, is, few) in
    let a : value / 10000 % 10000 / 100 ≡ rest / 10000 / 100 = omega (arith, is, few) in
    let b : value / 10000 % 100 ≡ rest / 10000 % 100 = omega (arith, is, few) in
    let d : value % 10000 / 100 ≡ rest % 10000 / 100 = omega (arith, is, few) in
    let e : value % 100 ≡ rest % 10000 % 100 = omega (arith, is, few) in
    let p : List ℕ = pair (rest / 10000 / 100) ++ pair (rest / 10000 % 100) in
    let q : List ℕ = pair (rest % 10000 / 100) ++ pair (rest % 10000 % 100) in
    let upper : decimal (value / 10000) ≡ decimal leading ++ p =
    decimal_four (value / 10000) (omega (arith, is, some)) (omega (arith, fits)) ∙ rw (high, a, b) (append_assoc (decimal leading) (pair (rest / 10000 / 100)) (pair (rest / 10000 % 100))) in
    let all : decimal value ≡ (decimal leading ++ p) ++ q =
    decimal_four value (omega (arith, is, some)) fits ∙ rw (upper, d, e) (append_assoc (decimal leading ++ p) (pair (rest % 10000 / 100)) (pair (rest % 10000 % 100))) in
    at_line ∙ ap (λ l. l ++ q) (at_middle ∙ ap (λ l. l ++ p) at_first ∙ append_assoc start (decimal leading) p) ∙ append_assoc start (decimal leading ++ p) q ∙ ap (λ l. start ++ l) (sym all)

-- the two digits of each number below the given one stand in the table
abbrev are_pairs : ℕ → Bool
are_pairs zero = true
are_pairs (suc p) = (eqb (slice_index_or PAIRS (2 * p) 0) (48 + p / 10) && eqb (slice_index_or PAIRS (2 * p + 1) 0) (48 + p % 10)) && are_pairs p

below : (n p : ℕ) → T (are_pairs n) → p < n → (slice_index_or PAIRS (2 * p) 0 ≡ 48 + p / 10) × (slice_index_or PAIRS (2 * p + 1) 0 ≡ 48 + p % 10)
below zero p t h = absurd (omega arith)
below (suc n) p t h =
    elim (eq-zero-or-pos (n - p)) [
      | inl z ↦ let e : p ≡ n = omega arith in let a = and_l _ (are_pairs n) t in rw e (eqb→eq _ _ (and_l _ _ a), eqb→eq _ _ (and_r _ _ a))
      | inr g ↦ below n p (and_r _ (are_pairs n) t) (omega arith)
    ]

pub pairs_at : (p : ℕ) → p < 100 → (slice_index_or PAIRS (2 * p) 0 ≡ 48 + p / 10) × (slice_index_or PAIRS (2 * p + 1) 0 ≡ 48 + p % 10)
pairs_at p h = below 100 p tt h

-- the number of digits of a number
pub count_of_digits : (k n : ℕ) → 10 ^ k ≤ n → n < 10 * 10 ^ k → n < 2 ^ 64 → length (decimal n) ≡ k + 1
count_of_digits zero n low high fits = ap length (decimal_digit n (omega arith))
count_of_digits (suc k) n low high fits =
    let some : 1 ≤ 10 ^ k = omega arith in
    let step : decimal n ≡ decimal (n / 10) ++ ((48 + n % 10) ∷ []) = decimal_step n (omega arith) fits in
    let less : length (decimal (n / 10)) ≡ k + 1 = count_of_digits k (n / 10) (omega arith) (omega arith) (omega arith) in
    ap length step ∙ length-append (decimal (n / 10)) ((48 + n % 10) ∷ []) ∙ omega (arith, less)
