-- The slots of timestamps after a change.
use Rattle.summary_core.proofs.Prelude.{ℕ, length, ◌≡◌, arith, List, ap, ◌≤◌, ◌∙◌, sym, [], ◌∷◌, refl, suc, ◌<◌, ◌+◌, zero, Some, if◌then◌else◌, ◌++◌, Option, None, ◌-◌, ◌==◌, inl, inr, slice_set, cond-false, cond-true, cases_order, eq-eqb, le-ltb, lt-ltb, ne_eqb, slice_get, stamp_at, absent, in_slot}

-- ---- lists
get-below : (xs : List ℕ) (x k : ℕ) → k < length xs → slice_get (xs ++ x ∷ []) k ≡ slice_get xs k
get-below [] x k less = absurd (omega (arith, less))
get-below (y ∷ xs) x zero less = refl
get-below (y ∷ xs) x (suc k) less = get-below xs x k (omega (arith, less))

get-last : (xs : List ℕ) (x : ℕ) → slice_get (xs ++ x ∷ []) (length xs) ≡ Some x
get-last [] x = refl
get-last (y ∷ xs) x = get-last xs x

get-past : (xs : List ℕ) (k : ℕ) → length xs ≤ k → slice_get xs k ≡ None
get-past [] k most = refl
get-past (x ∷ xs) zero most = absurd (omega (arith, most))
get-past (x ∷ xs) (suc k) most = get-past xs k (omega (arith, most))

get-behind : (xs : List ℕ) (x k : ℕ) → length xs < k → slice_get (xs ++ x ∷ []) k ≡ slice_get xs k
get-behind [] x zero less = absurd (omega (arith, less))
get-behind [] x (suc k) less = refl
get-behind (y ∷ xs) x zero less = absurd (omega (arith, less))
get-behind (y ∷ xs) x (suc k) less = get-behind xs x k (omega (arith, less))

get-at : (xs : List ℕ) (i x : ℕ) → i < length xs → slice_get (slice_set xs i x) i ≡ Some x
get-at [] i x less = absurd (omega (arith, less))
get-at (y ∷ xs) zero x less = refl
get-at (y ∷ xs) (suc i) x less = get-at xs i x (omega (arith, less))

get-other : (xs : List ℕ) (i k x : ℕ) → (k ≡ i → ⊥) → slice_get (slice_set xs i x) k ≡ slice_get xs k
get-other [] i k x other = refl
get-other (y ∷ xs) zero zero x other = absurd (other refl)
get-other (y ∷ xs) zero (suc k) x other = refl
get-other (y ∷ xs) (suc i) zero x other = refl
get-other (y ∷ xs) (suc i) (suc k) x other = get-other xs i k x (λ e. other (ap suc e))

-- ---- slots
pub before : (first : ℕ) (slots : List ℕ) (n : ℕ) → n < first → stamp_at first slots n ≡ None
before first slots n less = cond-true _ _ _ (lt-ltb n first less)

from : (first : ℕ) (slots : List ℕ) (n : ℕ) → first ≤ n → stamp_at first slots n ≡ in_slot (slice_get slots (n - first))
from first slots n least = cond-false _ _ _ (le-ltb n first least)

none_there : (first : ℕ) (slots : List ℕ) (n : ℕ) → slots ≡ [] → stamp_at first slots n ≡ None
none_there first slots n none =
    elim (cases_order n first) [
      | inl e ↦ from first slots n (omega (arith, e)) ∙ ap in_slot (ap (λ (l : List ℕ). slice_get l (n - first)) none)
      | inr (inl less) ↦ before first slots n less
      | inr (inr more) ↦ from first slots n (omega (arith, more)) ∙ ap in_slot (ap (λ (l : List ℕ). slice_get l (n - first)) none)
    ]

-- an empty slot is appended
pub filled : (first : ℕ) (slots : List ℕ) (n : ℕ) → stamp_at first (slots ++ absent ∷ []) n ≡ stamp_at first slots n
filled first slots n =
    elim (cases_order (n - first) (length slots)) [
      | inl e ↦
          at (λ least.
          from first (slots ++ absent ∷ []) n least ∙ ap in_slot (ap (λ k. slice_get (slots ++ absent ∷ []) k) e ∙ get-last slots absent)
          ∙ sym (from first slots n least ∙ ap in_slot (get-past slots (n - first) (omega (arith, e)))))
      | inr (inl less) ↦ at (λ least. from first (slots ++ absent ∷ []) n least ∙ ap in_slot (get-below slots absent (n - first) less) ∙ sym (from first slots n least))
      | inr (inr more) ↦ at (λ least. from first (slots ++ absent ∷ []) n least ∙ ap in_slot (get-behind slots absent (n - first) more) ∙ sym (from first slots n least))
    ]
  where
    at : (first ≤ n → stamp_at first (slots ++ absent ∷ []) n ≡ stamp_at first slots n) → stamp_at first (slots ++ absent ∷ []) n ≡ stamp_at first slots n
    at there =
        elim (cases_order n first) [
          | inl e ↦ there (omega (arith, e))
          | inr (inl less) ↦ before first (slots ++ absent ∷ []) n less ∙ sym (before first slots n less)
          | inr (inr more) ↦ there (omega (arith, more))
        ]

-- a timestamp is appended
pub stored : (first : ℕ) (slots : List ℕ) (number moment : ℕ) → first ≤ number → number - first ≡ length slots → (moment ≡ absent → ⊥) → (n : ℕ)
    → stamp_at first (slots ++ moment ∷ []) n ≡ (if n == number then Some moment else stamp_at first slots n)
stored first slots number moment least place told n =
    elim (cases_order n number) [
      | inl e ↦
          from first (slots ++ moment ∷ []) n (omega (arith, least, e))
          ∙ ap in_slot (ap (λ k. slice_get (slots ++ moment ∷ []) k) (ap (λ k. k - first) e ∙ place) ∙ get-last slots moment)
          ∙ cond-false (moment == absent) None (Some moment) (ne_eqb moment absent told)
          ∙ sym (cond-true (n == number) (Some moment) (stamp_at first slots n) (eq-eqb n number e))
      | inr (inl less) ↦ other (λ e. omega (arith, less, e)) (λ from_first. get-below slots moment (n - first) (omega (arith, less, from_first, least, place)))
      | inr (inr more) ↦ other (λ e. omega (arith, more, e)) (λ from_first. get-behind slots moment (n - first) (omega (arith, more, from_first, least, place)))
    ]
  where
    other : (n ≡ number → ⊥) → (first ≤ n → slice_get (slots ++ moment ∷ []) (n - first) ≡ slice_get slots (n - first))
        → stamp_at first (slots ++ moment ∷ []) n ≡ (if n == number then Some moment else stamp_at first slots n)
    other differs same =
        elim (cases_order n first) [
          | inl e ↦ there (omega (arith, e))
          | inr (inl less) ↦ before first (slots ++ moment ∷ []) n less ∙ sym (before first slots n less) ∙ kept
          | inr (inr more) ↦ there (omega (arith, more))
        ]
      where
        kept : stamp_at first slots n ≡ (if n == number then Some moment else stamp_at first slots n)
        kept = sym (cond-false (n == number) (Some moment) (stamp_at first slots n) (ne_eqb n number differs))

        there : first ≤ n → stamp_at first (slots ++ moment ∷ []) n ≡ (if n == number then Some moment else stamp_at first slots n)
        there from_first = from first (slots ++ moment ∷ []) n from_first ∙ ap in_slot (same from_first) ∙ sym (from first slots n from_first) ∙ kept

-- an empty first slot is removed
pub trimmed : (first : ℕ) (slots : List ℕ) (n : ℕ) → stamp_at (first + 1) slots n ≡ stamp_at first (absent ∷ slots) n
trimmed first slots n =
    elim (cases_order n first) [
      | inl e ↦ before (first + 1) slots n (omega (arith, e)) ∙ sym (from first (absent ∷ slots) n (omega (arith, e)) ∙ ap in_slot (ap (λ k. slice_get (absent ∷ slots) k) (zero_place e)))
      | inr (inl less) ↦ before (first + 1) slots n (omega (arith, less)) ∙ sym (before first (absent ∷ slots) n less)
      | inr (inr more) ↦
          from (first + 1) slots n (omega (arith, more))
          ∙ sym (from first (absent ∷ slots) n (omega (arith, more)) ∙ ap in_slot (ap (λ k. slice_get (absent ∷ slots) k) (next more)))
    ]
  where
    zero_place : n ≡ first → n - first ≡ 0
    zero_place e = omega (arith, e)

    next : first < n → n - first ≡ suc (n - (first + 1))
    next more = omega (arith, more)

-- a slot is emptied
pub emptied : (first : ℕ) (slots : List ℕ) (number : ℕ) → first ≤ number → number - first < length slots → (n : ℕ)
    → stamp_at first (slice_set slots (number - first) absent) n ≡ (if n == number then None else stamp_at first slots n)
emptied first slots number least within n =
    elim (cases_order n number) [
      | inl e ↦
          from first (slice_set slots (number - first) absent) n (omega (arith, least, e))
          ∙ ap in_slot (ap (λ k. slice_get (slice_set slots (number - first) absent) (k - first)) e ∙ get-at slots (number - first) absent within)
          ∙ sym (cond-true (n == number) None (stamp_at first slots n) (eq-eqb n number e))
      | inr (inl less) ↦ other (λ e. omega (arith, less, e)) (λ from_first e. omega (arith, less, least, from_first, e))
      | inr (inr more) ↦ other (λ e. omega (arith, more, e)) (λ from_first e. omega (arith, more, least, from_first, e))
    ]
  where
    other : (n ≡ number → ⊥) → (first ≤ n → n - first ≡ number - first → ⊥) → stamp_at first (slice_set slots (number - first) absent) n ≡ (if n == number then None else stamp_at first slots n)
    other differs apart =
        elim (cases_order n first) [
          | inl e ↦ there (omega (arith, e))
          | inr (inl less) ↦ before first (slice_set slots (number - first) absent) n less ∙ sym (before first slots n less) ∙ kept
          | inr (inr more) ↦ there (omega (arith, more))
        ]
      where
        kept : stamp_at first slots n ≡ (if n == number then None else stamp_at first slots n)
        kept = sym (cond-false (n == number) None (stamp_at first slots n) (ne_eqb n number differs))

        there : first ≤ n → stamp_at first (slice_set slots (number - first) absent) n ≡ (if n == number then None else stamp_at first slots n)
        there from_first =
            from first (slice_set slots (number - first) absent) n from_first ∙ ap in_slot (get-other slots (number - first) (n - first) absent (apart from_first)) ∙ sym (from first slots n from_first)
            ∙ kept

-- nothing is stored for this number
pub missing : (stored : ℕ → Option ℕ) (number : ℕ) → stored number ≡ None → (n : ℕ) → stored n ≡ (if n == number then None else stored n)
missing stored number none n =
    elim (cases_order n number) [
      | inl e ↦ ap stored e ∙ none ∙ sym (cond-true (n == number) None (stored n) (eq-eqb n number e))
      | inr (inl less) ↦ sym (cond-false (n == number) None (stored n) (ne_eqb n number (λ e. omega (arith, less, e))))
      | inr (inr more) ↦ sym (cond-false (n == number) None (stored n) (ne_eqb n number (λ e. omega (arith, more, e))))
    ]

pub not_reached : (first : ℕ) (slots : List ℕ) (number : ℕ) → first ≤ number → length slots ≤ number - first → stamp_at first slots number ≡ None
not_reached first slots number least past = from first slots number least ∙ ap in_slot (get-past slots (number - first) past)

pub there : (first : ℕ) (slots : List ℕ) (number moment : ℕ) → first ≤ number → slice_get slots (number - first) ≡ Some moment → stamp_at first slots number ≡ in_slot (Some moment)
there first slots number moment least e = from first slots number least ∙ ap in_slot e
