-- The abstract queue of the queued entries: after a push, and after a pop.
use Rattle.pifo_core.proofs.Prelude.{arith, ◌≡◌, ap, ◌∙◌, false, length, ◌<◌, ◌≤◌, [], refl, sym, true, Some, map, ◌∷◌, List, get_or, suc, zero, ℕ, ◌+◌, inl, inr, insert, remove, ◌++◌, ◌≢◌, Bool, cond, drop, nat_lt, take, eq-or-lt_of_le, nat_tests, All-from_recursion, AllByRecursion, AllWithin, put, take_least, Queue, Taking, ArrivedBefore, InLeavingOrder, Leaves, in_arrival_order, pair, placed, Held}
use Rattle.std.proofs.lemmas.List.{take-append-drop}
use Rattle.tree_defs.proofs.TakeLeast.{AllAbove, AllFrom, take_least-split}
use Rattle.pifo_core.specs.Held.{queue_of}
use Rattle.pifo_core.specs.Sorted.{IsKept}

pub All-weaker : {X : Type 0} (P Q : X → Type 0) → ((x : X) → P x → Q x) → (xs : List X) → AllByRecursion P xs → AllByRecursion Q xs
All-weaker P Q f [] h = tt
All-weaker P Q f (x ∷ xs) h = (f x h.0, All-weaker P Q f xs h.1)

pub All-append : {X : Type 0} (P : X → Type 0) (xs ys : List X) → AllByRecursion P xs → AllByRecursion P ys → AllByRecursion P (xs ++ ys)
All-append P [] ys h k = k
All-append P (x ∷ xs) ys h k = (h.0, All-append P xs ys h.1 k)

pub All-front : {X : Type 0} (P : X → Type 0) (xs ys : List X) → AllByRecursion P (xs ++ ys) → AllByRecursion P xs
All-front P [] ys h = tt
All-front P (x ∷ xs) ys h = (h.0, All-front P xs ys h.1)

pub All-back : {X : Type 0} (P : X → Type 0) (xs ys : List X) → AllByRecursion P (xs ++ ys) → AllByRecursion P ys
All-back P [] ys h = h
All-back P (x ∷ xs) ys h = All-back P xs ys h.1

All-placed : (P : Held → Type 0) (x : Held) (q : List Held) → P x → AllByRecursion P q → AllByRecursion P (placed x q)
All-placed P x [] here h = (here, tt)
All-placed P x (e ∷ q) here h = go (nat_lt e.arrival x.arrival) (All-placed P x q here h.1)
  where
    go : (b : Bool) → AllByRecursion P (placed x q) → AllByRecursion P (cond b (e ∷ placed x q) (x ∷ e ∷ q))
    go true deeper = (h.0, deeper)
    go false deeper = (here, h)

All-in_arrival_order : (P : Held → Type 0) (held : List Held) → AllByRecursion P held → AllByRecursion P (in_arrival_order held)
All-in_arrival_order P [] h = tt
All-in_arrival_order P (e ∷ held) h = All-placed P e (in_arrival_order held) h.0 (All-in_arrival_order P held h.1)

placed-last : (x : Held) (q : List Held) → ArrivedBefore x.arrival q → placed x q ≡ q ++ x ∷ []
placed-last x [] h = refl
placed-last x (e ∷ q) h = grind (arith, nat_tests, placed-last x q h.1)

pub placed-placed : (x y : Held) (q : List Held) → x.arrival ≢ y.arrival → placed x (placed y q) ≡ placed y (placed x q)
placed-placed x y [] ne = grind (arith, nat_tests)
placed-placed x y (e ∷ q) ne = grind (arith, nat_tests, placed-placed x y q ne)

-- a new entry goes to its place in order of arrival, wherever it is stored
in_arrival_order-insert : (x : Held) (front back : List Held) → ArrivedBefore x.arrival front → in_arrival_order (front ++ x ∷ back) ≡ placed x (in_arrival_order (front ++ back))
in_arrival_order-insert x [] back h = refl
in_arrival_order-insert x (e ∷ front) back h =
    let ne : e.arrival ≢ x.arrival = λ same. absurd (omega (arith, h.0, same)) in
    ap (placed e) (in_arrival_order-insert x front back h.1) ∙ placed-placed e x (in_arrival_order (front ++ back)) ne

map-append_one : (xs : List Held) (x : Held) → map pair (xs ++ x ∷ []) ≡ map pair xs ++ pair x ∷ []
map-append_one [] x = refl
map-append_one (y ∷ xs) x = ap (λ l. pair y ∷ l) (map-append_one xs x)

pub queue_of-insert : (x : Held) (front back : List Held) → ArrivedBefore x.arrival (front ++ back) → queue_of (front ++ x ∷ back) ≡ put (queue_of (front ++ back)) x.rank x.value
unfolding queue_of
queue_of-insert x front back h =
    ap (map pair) (in_arrival_order-insert x front back (All-front _ front back h)
    ∙ placed-last x (in_arrival_order (front ++ back)) (All-in_arrival_order _ (front ++ back) h))
    ∙ map-append_one (in_arrival_order (front ++ back)) x

-- the first to be dequeued has only higher ranks before it, and no lower rank after it
record Splits (x : Held) (q : List Held) : Type 0 where
  before : List Held
  after : List Held
  placed_is : placed x q ≡ before ++ x ∷ after
  others : q ≡ before ++ after
  above : AllAbove x.rank (map pair before)
  from : AllFrom x.rank (map pair after)

from_leaving : (x : Held) (q : List Held) → AllByRecursion (Leaves x) q → AllFrom x.rank (map pair q)
from_leaving x [] h = tt
from_leaving x (e ∷ q) h = (omega (arith, h.0), from_leaving x q h.1)

placed-split : (x : Held) (q : List Held) → AllByRecursion (Leaves x) q → Splits x q
placed-split x [] h = record { before = []; after = []; placed_is = refl; others = refl; above = tt; from = tt }
placed-split x (e ∷ q) h = go (nat_lt e.arrival x.arrival) refl (placed-split x q h.1)
  where
    go : (b : Bool) → nat_lt e.arrival x.arrival ≡ b → Splits x q → Splits x (e ∷ q)
    go true t s = record {
      before = e ∷ s.before;
      after = s.after;
      placed_is = rw t (ap (λ l. e ∷ l) s.placed_is);
      others = ap (λ l. e ∷ l) s.others;
      above = (grind (arith, nat_tests, h.0), s.above);
      from = s.from;
    }
    go false t s = record { before = []; after = e ∷ q; placed_is = rw t refl; others = refl; above = tt; from = from_leaving x (e ∷ q) h }

map-append : (xs ys : List Held) → map pair (xs ++ ys) ≡ map pair xs ++ map pair ys
map-append [] ys = refl
map-append (x ∷ xs) ys = ap (λ l. pair x ∷ l) (map-append xs ys)

abbrev pub taking : Held → Queue → Taking
taking x q = record { rank = x.rank; value = x.value; rest = q }

taken_at : (x : Held) (q : List Held) → Splits x q → take_least (map pair (placed x q)) ≡ Some (taking x (map pair q))
taken_at x q s =
    ap (λ l. take_least (map pair l)) s.placed_is
    ∙ ap take_least (map-append s.before (x ∷ s.after))
    ∙ take_least-split x.rank x.value (map pair s.before) (map pair s.after) s.above s.from
    ∙ ap (λ l. Some (taking x l)) (sym (map-append s.before s.after) ∙ ap (map pair) (sym s.others))

pub queue_of-first : (x : Held) (others : List Held) → AllByRecursion (Leaves x) others → take_least (queue_of (x ∷ others)) ≡ Some (taking x (queue_of others))
unfolding queue_of
queue_of-first x others h = taken_at x (in_arrival_order others) (placed-split x (in_arrival_order others) (All-in_arrival_order _ others h))

pub queue_of-empty : queue_of [] ≡ []
unfolding queue_of
queue_of-empty = refl

length-placed : (x : Held) (q : List Held) → length (placed x q) ≡ suc (length q)
length-placed x [] = refl
length-placed x (e ∷ q) = grind (arith, nat_tests, length-placed x q)

length-in_arrival_order : (held : List Held) → length (in_arrival_order held) ≡ length held
length-in_arrival_order [] = refl
length-in_arrival_order (e ∷ held) = length-placed e (in_arrival_order held) ∙ ap suc (length-in_arrival_order held)

length-pairs : (held : List Held) → length (map pair held) ≡ length held
length-pairs [] = refl
length-pairs (e ∷ held) = ap suc (length-pairs held)

pub length-queue_of : (held : List Held) → length (queue_of held) ≡ length held
unfolding queue_of
length-queue_of held = length-pairs (in_arrival_order held) ∙ length-in_arrival_order held

-- an entry inserted between those dequeued before it and those dequeued after it
pub InLeavingOrder-insert : (x : Held) (front back : List Held) → InLeavingOrder (front ++ back) → AllByRecursion (λ e. Leaves e x) front → AllByRecursion (Leaves x) back → InLeavingOrder (front ++ x ∷ back)
InLeavingOrder-insert x [] back ordered first last = (last, ordered)
InLeavingOrder-insert x (e ∷ front) back ordered first last =
    (All-append (Leaves e) front (x ∷ back) (All-front _ front back ordered.0) (first.0, All-back _ front back ordered.0), InLeavingOrder-insert x front back ordered.1 first.1 last)

pub leave_before : (x : Held) (xs : List Held) → AllByRecursion (λ (e : Held). e.arrival < x.arrival) xs → AllByRecursion (λ (e : Held). e.rank ≤ x.rank) xs → AllByRecursion (λ e. Leaves e x) xs
leave_before x [] h k = tt
leave_before x (e ∷ xs) h k = (elim (eq-or-lt_of_le k.0) [ inl same ↦ inr (same, h.0) | inr less ↦ inl less ], leave_before x xs h.1 k.1)

-- the result and the effect of `remove(0)`
pub queue_of-removed : (held : List Held) (d : Held) → 0 < length held → InLeavingOrder held → take_least (queue_of held) ≡ Some (taking (get_or held 0 d) (queue_of (remove held 0)))
queue_of-removed [] d some ordered = absurd (omega (arith, some))
queue_of-removed (x ∷ others) d some ordered = queue_of-first x others ordered.0

pub IsKept-removed : (held : List Held) (n : ℕ) → 0 < length held → IsKept held n → IsKept (remove held 0) n
IsKept-removed [] n some kept = absurd (omega (arith, some))
IsKept-removed (x ∷ others) n some kept = record { in_order = kept.in_order.1; earlier = kept.earlier.1 }

-- an entry that arrives now, inserted after those of its rank or a lower one
module _ (held : List Held) (place : ℕ) (x : Held) (kept : IsKept held x.arrival)
    (before : AllByRecursion (λ (e : Held). e.rank ≤ x.rank) (take place held)) (behind : AllByRecursion (λ (e : Held). x.rank < e.rank) (drop place held)) where
  pub queue_of-inserted : queue_of (insert held place x) ≡ put (queue_of held) x.rank x.value
  queue_of-inserted =
      let whole : take place held ++ drop place held ≡ held = take-append-drop place held in
      queue_of-insert x (take place held) (drop place held) (rw whole kept.earlier) ∙ ap (λ l. put (queue_of l) x.rank x.value) whole

  pub IsKept-inserted : IsKept (insert held place x) (x.arrival + 1)
  IsKept-inserted =
      let whole : take place held ++ drop place held ≡ held = take-append-drop place held in
      let earlier : ArrivedBefore x.arrival (take place held ++ drop place held) = rw whole kept.earlier in
      let first : AllByRecursion (λ (e : Held). e.arrival < x.arrival) (take place held) = All-front _ (take place held) (drop place held) earlier in
      let later : AllByRecursion (λ (e : Held). e.arrival < x.arrival + 1) (take place held ++ drop place held) = All-weaker _ _ (λ e h. omega (arith, h)) _ earlier in
      record {
        in_order = InLeavingOrder-insert x (take place held) (drop place held) (rw whole kept.in_order) (leave_before x (take place held) first before) (All-weaker _ (Leaves x) (λ e h. inl h) _ behind);
        earlier = All-append _ (take place held) (x ∷ drop place held) (All-front _ (take place held) (drop place held) later) (omega arith, All-back _ (take place held) (drop place held) later);
      }

pub queue_of-none : (held : List Held) → length held ≡ 0 → queue_of held ≡ []
queue_of-none [] none = queue_of-empty
queue_of-none (x ∷ others) none = absurd (omega (arith, none))

-- from facts by index to facts about the elements in order
pub All-take : {X : Type 0} (P : X → Type 0) (i : ℕ) (xs : List X) → AllWithin P xs 0 i → i ≤ length xs → AllByRecursion P (take i xs)
All-take P zero xs h short = tt
All-take P (suc i) [] h short = tt
All-take P (suc i) (x ∷ xs) h short = (h 0 x (omega arith) (omega arith), All-take P i xs (λ k d low high. h (suc k) d (omega arith) (omega (arith, high))) (omega (arith, short)))

pub All-drop : {X : Type 0} (P : X → Type 0) (i : ℕ) (xs : List X) → AllWithin P xs i (length xs) → AllByRecursion P (drop i xs)
All-drop P zero [] h = tt
All-drop P zero (x ∷ xs) h = (h 0 x (omega arith) (omega arith), All-drop P zero xs (λ k d low high. h (suc k) d (omega arith) (omega (arith, high))))
All-drop P (suc i) [] h = tt
All-drop P (suc i) (x ∷ xs) h = All-drop P i xs (λ k d low high. h (suc k) d (omega (arith, low)) (omega (arith, high)))

-- the ranks never decrease
pub ranks_rise : (held : List Held) → InLeavingOrder held → (i j : ℕ) (d : Held) → i ≤ j → j < length held → (get_or held i d).rank ≤ (get_or held j d).rank
ranks_rise [] ordered i j d le inside = absurd (omega (arith, inside))
ranks_rise (x ∷ others) ordered zero zero d le inside = omega arith
ranks_rise (x ∷ others) ordered zero (suc j) d le inside = omega (arith, All-from_recursion (Leaves x) others ordered.0 j d (omega (arith, inside)))
ranks_rise (x ∷ others) ordered (suc i) zero d le inside = absurd (omega (arith, le))
ranks_rise (x ∷ others) ordered (suc i) (suc j) d le inside = ranks_rise others ordered.1 i j d (omega (arith, le)) (omega (arith, inside))
