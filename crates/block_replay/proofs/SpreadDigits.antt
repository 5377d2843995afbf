-- Distinct digits, as a statement about the children of a node.
use Rattle.block_replay.proofs.Prelude.{refl, ◌≡◌, ℕ, ◌∙◌, sym, Some, ap, suc, zero, true, inl, inr, false, Bool, ◌⊎◌, eq-eqb, nat_eq, ◌||◌, pred, and_parts, and_from, or_cases, cases_Bool, eqb-true, not-true, list_any, slice_index, not, Address, Tree, Trees, none, more, root_of, child, DifferBehind, all_differ, digits_behind}

pub or_later : (b c : Bool) → c ≡ true → (b || c) ≡ true
or_later true c e = refl
or_later false c e = e

-- the digit of a child is among the digits
child-among : (n : ℕ) (ts : Trees Address) (j x : ℕ) (u : Tree Address) → child ts j ≡ Some u → x ≡ slice_index (root_of u) n → list_any (nat_eq x) (digits_behind n ts) ≡ true
child-among n none j x u c e = cc
child-among n (more t ts) zero x u c e =
    let same : t ≡ u = cc in
    rw (eq-eqb x (slice_index (root_of t) n) (e ∙ ap (λ (z : Tree Address). slice_index (root_of z) n) (sym same))) refl
child-among n (more t ts) (suc j) x u c e = or_later (nat_eq x (slice_index (root_of t) n)) (list_any (nat_eq x) (digits_behind n ts)) (child-among n ts j x u c e)

-- a child whose image has a digit
record HasDigit (n : ℕ) (ts : Trees Address) (x : ℕ) : Type 0 where
  index : ℕ
  image : Tree Address
  stands : child ts index ≡ Some image
  digit : x ≡ slice_index (root_of image) n

-- a digit among the digits is a child's
among-child : (n : ℕ) (ts : Trees Address) (x : ℕ) → list_any (nat_eq x) (digits_behind n ts) ≡ true → HasDigit n ts x
among-child n none x e = cc
among-child n (more t ts) x e = elim (or_cases (nat_eq x (slice_index (root_of t) n)) (list_any (nat_eq x) (digits_behind n ts)) e) [
  | inl k ↦ record { index = zero; image = t; stands = refl; digit = eqb-true x (slice_index (root_of t) n) k }
  | inr k ↦ (let w : HasDigit n ts x = among-child n ts x k in record { index = suc w.index; image = w.image; stands = w.stands; digit = w.digit })
]

-- the first of the children has a digit that no later one has
first_apart : (n : ℕ) (t : Tree Address) (ts : Trees Address) → all_differ (digits_behind n (more t ts)) ≡ true → (j : ℕ) (u : Tree Address) → child ts j ≡ Some u → slice_index (root_of t) n ≡ slice_index (root_of u) n → ⊥
first_apart n t ts d j u c e =
    let x : ℕ = slice_index (root_of t) n in
    let away : list_any (nat_eq x) (digits_behind n ts) ≡ false = not-true (list_any (nat_eq x) (digits_behind n ts)) (and_parts (not (list_any (nat_eq x) (digits_behind n ts))) (all_differ (digits_behind n ts)) d).0 in
    let among : list_any (nat_eq x) (digits_behind n ts) ≡ true = child-among n ts j x u c e in
    cc

pub differ-children : (n : ℕ) (ts : Trees Address) → all_differ (digits_behind n ts) ≡ true → DifferBehind n ts
differ-children n none d i j t u c k e = cc
differ-children n (more s ts) d zero zero t u c k e = refl
differ-children n (more s ts) d zero (suc j) t u c k e =
    let same : s ≡ t = cc in
    absurd (first_apart n s ts d j u k (ap (λ (z : Tree Address). slice_index (root_of z) n) same ∙ e))
differ-children n (more s ts) d (suc i) zero t u c k e =
    let same : s ≡ u = cc in
    absurd (first_apart n s ts d i t c (ap (λ (z : Tree Address). slice_index (root_of z) n) same ∙ sym e))
differ-children n (more s ts) d (suc i) (suc j) t u c k e =
    ap suc (differ-children n ts (and_parts (not (list_any (nat_eq (slice_index (root_of s) n)) (digits_behind n ts))) (all_differ (digits_behind n ts)) d).1 i j t u c k e)

pub children-differ : (n : ℕ) (ts : Trees Address) → DifferBehind n ts → all_differ (digits_behind n ts) ≡ true
children-differ n none h = refl
children-differ n (more s ts) h =
    and_from (not (list_any (nat_eq (slice_index (root_of s) n)) (digits_behind n ts))) (all_differ (digits_behind n ts)) (away (cases_Bool (list_any (nat_eq (slice_index (root_of s) n)) (digits_behind n ts))))
    (children-differ n ts (λ i j t u c k e. ap pred (h (suc i) (suc j) t u c k e)))
  where
    clash : (j : ℕ) → zero ≡ suc j → ⊥
    clash j e = cc

    away : (list_any (nat_eq (slice_index (root_of s) n)) (digits_behind n ts) ≡ true) ⊎ (list_any (nat_eq (slice_index (root_of s) n)) (digits_behind n ts) ≡ false)
        → not (list_any (nat_eq (slice_index (root_of s) n)) (digits_behind n ts)) ≡ true
    away (inl e) = let w : HasDigit n ts (slice_index (root_of s) n) = among-child n ts (slice_index (root_of s) n) e in absurd (clash w.index (h zero (suc w.index) s w.image refl w.stands w.digit))
    away (inr e) = rw e refl
