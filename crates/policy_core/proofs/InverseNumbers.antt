-- The numbers of nodes in preorder, from the nodes of the numbers.
use Rattle.policy_core.proofs.Prelude.{List, ◌≡◌, ℕ, ap, sym, [], ◌∙◌, arith, length, ◌<◌, ◌∷◌, refl, get_or, suc, true, zero, inl, inr, ◌+◌, ◌≤◌, ◌||◌, cond, slice_index, ◌≢◌, ◌⊎◌, set, replicate, or-true, cases_Bool, cases_lt, eqb-true, cases_eq, eq-eqb, get_or-set_other, get_or-set_same, length-set, length-replicate, list_any_at, sum_by-cons, list_any, Row, row_at, row, nodes_of, ArePlaces}
use Rattle.std.proofs.Common.{nat_eq}
use Rattle.std.proofs.lemmas.Map.Steps.{le-length_from_below}
use Rattle.std.proofs.Math.ListN.{get_or-map}
use Rattle.tree_graph.specs.Descent.{times}

-- each number below n occurs once
abbrev pub IsEachOnce : ℕ → List ℕ → Type 0
IsEachOnce n xs = (a : ℕ) → a < n → times a xs ≡ 1

-- 1 for the same number
abbrev same : ℕ → ℕ → ℕ
same c x = cond (nat_eq c x) 1 0

times-cons : (c x : ℕ) (xs : List ℕ) → times c (x ∷ xs) ≡ same c x + times c xs
times-cons c x xs = sum_by-cons (same c) x xs

is-one : (c x : ℕ) → x ≡ c → same c x ≡ 1
is-one c x e = ap (λ b. cond b 1 0) (eq-eqb c x (sym e))

some-at : (xs : List ℕ) (i c : ℕ) → i < length xs → get_or xs i 0 ≡ c → 1 ≤ times c xs
some-at [] i c l e = absurd (omega arith)
some-at (x ∷ xs) zero c l e = omega (arith, times-cons c x xs, is-one c x e)
some-at (x ∷ xs) (suc i) c l e = omega (arith, times-cons c x xs, some-at xs i c (omega arith) e)

-- a value at two indices occurs twice
twice : (xs : List ℕ) (i j c : ℕ) → i < j → j < length xs → get_or xs i 0 ≡ c → get_or xs j 0 ≡ c → 2 ≤ times c xs
twice [] i j c l m e f = absurd (omega arith)
twice (x ∷ xs) zero zero c l m e f = absurd (omega arith)
twice (x ∷ xs) zero (suc j) c l m e f = omega (arith, times-cons c x xs, is-one c x e, some-at xs j c (omega arith) f)
twice (x ∷ xs) (suc i) zero c l m e f = absurd (omega arith)
twice (x ∷ xs) (suc i) (suc j) c l m e f = omega (arith, times-cons c x xs, twice xs i j c (omega arith) (omega arith) e f)

-- an index at which the value is found
record IsFoundIn (c : ℕ) (xs : List ℕ) : Type 0 where
  place : ℕ
  within : place < length xs
  is : get_or xs place 0 ≡ c

find-it : (c : ℕ) (xs : List ℕ) → 0 < times c xs → IsFoundIn c xs
find-it c [] h = absurd (omega arith)
find-it c (x ∷ xs) h = elim (cases_Bool (nat_eq c x)) [
  | inl here ↦ record { place = 0; within = omega arith; is = sym (eqb-true c x here) }
  | inr other ↦ (
      let none : same c x ≡ 0 = ap (λ b. cond b 1 0) other in
      let r : IsFoundIn c xs = find-it c xs (omega (arith, times-cons c x xs, none)) in
      record { place = suc r.place; within = omega (arith, r.within); is = r.is })
]

abbrev without : ℕ → List ℕ → List ℕ
without i [] = []
without zero (x ∷ xs) = xs
without (suc i) (x ∷ xs) = x ∷ without i xs

length-without : (i : ℕ) (xs : List ℕ) → i < length xs → length (without i xs) + 1 ≡ length xs
length-without i [] l = absurd (omega arith)
length-without zero (x ∷ xs) l = (let e : length xs + 1 ≡ suc (length xs) = omega arith in e)
length-without (suc i) (x ∷ xs) l = omega (arith, length-without i xs (omega arith))

still-there : (i q : ℕ) (xs : List ℕ) → get_or xs i 0 ≢ q → IsFoundIn q xs → list_any (nat_eq q) (without i xs) ≡ true
still-there i q [] other found = (let l : found.place < 0 = found.within in absurd (omega arith))
still-there i q (x ∷ xs) other found = at i found.place other found.within found.is (λ j e. still-there j q xs e)
  where
    at : (i k : ℕ) → get_or (x ∷ xs) i 0 ≢ q → k < suc (length xs) → get_or (x ∷ xs) k 0 ≡ q → ((j : ℕ) → get_or xs j 0 ≢ q → IsFoundIn q xs → list_any (nat_eq q) (without j xs) ≡ true) → list_any (nat_eq q) (without i (x ∷ xs)) ≡ true
    at zero zero other l is rest = absurd (other is)
    at zero (suc k) other l is rest = list_any_at (nat_eq q) xs k 0 (omega arith) (eq-eqb q _ (sym is))
    at (suc i) zero other l is rest = ap (λ b. b || list_any (nat_eq q) (without i xs)) (eq-eqb q x (sym is))
    at (suc i) (suc k) other l is rest = ap (λ b. nat_eq q x || b) (rest i other (record { place = k; within = omega arith; is = is })) ∙ or-true (nat_eq q x)

-- if each number below the length occurs once, no other number occurs
pub each-within : (n : ℕ) (xs : List ℕ) (i : ℕ) → length xs ≡ n → IsEachOnce n xs → i < n → get_or xs i 0 < n
each-within n xs i size once l = elim (cases_lt (get_or xs i 0) n) [
  | inl lower ↦ lower
  | inr higher ↦ absurd (omega (arith, length-without i xs (omega arith), size, le-length_from_below (without i xs) n (λ q below. still-there i q xs (λ same. absurd (omega (arith, same, higher, below))) (find-it q xs (omega (arith, once q below))))))
]

-- ---- the numbers of the nodes
-- as far as the first rows go
pub record ArePlacesTo (rows : List Row) (number : ℕ) (places : List ℕ) : Type 0 where
  pub len : length places ≡ length rows
  pub each : (k : ℕ) → k < number → slice_index places (row_at rows k).node ≡ k

node-at : (rows : List Row) (k : ℕ) → get_or (nodes_of rows) k 0 ≡ (row_at rows k).node
node-at rows k = get_or-map (λ (r : Row). r.node) rows k (row 0 [] [])

length-nodes : (rows : List Row) → length (nodes_of rows) ≡ length rows
length-nodes [] = refl
length-nodes (r ∷ rows) = ap suc (length-nodes rows)

pub node-within : (rows : List Row) (k : ℕ) → IsEachOnce (length rows) (nodes_of rows) → k < length rows → (row_at rows k).node < length rows
node-within rows k once l = omega (arith, node-at rows k, each-within (length rows) (nodes_of rows) k (length-nodes rows) once l)

pub places-start : (rows : List Row) (n : ℕ) → n ≡ length rows → ArePlacesTo rows 0 (replicate n zero)
places-start rows n size = record { len = length-replicate n zero ∙ size; each = λ k l. absurd (omega arith) }

pub places-more : (rows : List Row) (number : ℕ) (places : List ℕ) → IsEachOnce (length rows) (nodes_of rows) → number < length rows → ArePlacesTo rows number places
    → ArePlacesTo rows (number + 1) (set places (row_at rows number).node number)
places-more rows number places once l so_far = record {
  len = length-set places (row_at rows number).node number ∙ so_far.len;
  each = λ k m. by k m (cases_eq k number);
}
  where
    own : ℕ
    own = (row_at rows number).node

    by : (k : ℕ) → k < number + 1 → (k ≡ number) ⊎ (k ≢ number) → slice_index (set places own number) (row_at rows k).node ≡ k
    by k m (inl same) =
        ap (λ j. slice_index (set places own number) (row_at rows j).node) same
        ∙ get_or-set_same places own number 0 (omega (arith, node-within rows number once l, so_far.len)) ∙ sym same
    by k m (inr other) =
        get_or-set_other places own (row_at rows k).node number 0
        (λ same. absurd (omega (arith, once own (node-within rows number once l), twice (nodes_of rows) k number own (omega (arith, other, m)) (omega (arith, l, length-nodes rows)) (node-at rows k ∙ same) (node-at rows number))))
        ∙ so_far.each k (omega (arith, other, m))

pub places-all : (rows : List Row) (number : ℕ) (places : List ℕ) → IsEachOnce (length rows) (nodes_of rows) → length rows ≤ number → ArePlacesTo rows number places → ArePlaces rows places
places-all rows number places once over so_far = record {
  len = so_far.len;
  within = λ i l. omega (arith, is i l, at i l);
  node = λ i l. ap (λ k. (row_at rows k).node) (is i l) ∙ sym (node-at rows (found i l).place) ∙ (found i l).is;
}
  where
    found : (i : ℕ) → i < length rows → IsFoundIn i (nodes_of rows)
    found i l = find-it i (nodes_of rows) (omega (arith, once i l))

    at : (i : ℕ) (l : i < length rows) → (found i l).place < length rows
    at i l = omega (arith, (found i l).within, length-nodes rows)

    is : (i : ℕ) (l : i < length rows) → slice_index places i ≡ (found i l).place
    is i l = ap (slice_index places) (sym (found i l).is ∙ node-at rows (found i l).place) ∙ so_far.each (found i l).place (omega (arith, at i l, over))
