-- The order of arrival with one more entry.
use Rattle.block_core.proofs.Prelude.{arith, ◌≡◌, sym, length, subst, ℕ, ◌∙◌, ap, [], refl, List, map, ◌+◌, ◌<◌, ◌∷◌, suc, zero, ◌++◌, ◌≤◌, Some, inl, inr, eqb, false, ltb, ◌&&◌, cond, ◌≢◌, cases_lt, le-ltb, lt-ltb, cases_Bool, eq-eqb, eqb-true, ne_eqb, nat_tests, append_assoc, AllByRecursion, put, take_least, weight, Precedes, came_as, in_order, pair, coming, IsNumbered, Waiting}
use Rattle.std.proofs.Math.Nat.{eq-or-lt_of_le}
use Rattle.tree_defs.proofs.TakeLeast.{AllAbove, AllFrom, take_least-split}
use Rattle.block_core.specs.Arrival.{queue_of}
use Rattle.block_core.proofs.Weights.{weight-append, weight-none, none-weight}

pub All-append : {X : Type 0} (P : X → Type 0) (xs ys : List X) → AllByRecursion P xs → AllByRecursion P ys → AllByRecursion P (xs ++ ys)
All-append P [] ys h k = k
All-append P (x ∷ xs) ys h k = (h.0, All-append P xs ys h.1 k)

pub All-weaker : {X : Type 0} (P Q : X → Type 0) → ((x : X) → P x → Q x) → (xs : List X) → AllByRecursion P xs → AllByRecursion Q xs
All-weaker P Q f [] h = tt
All-weaker P Q f (x ∷ xs) h = (f x h.0, All-weaker P Q f xs h.1)

-- ---- the identity of an entry
abbrev pub same : Waiting → Waiting → ℕ
same u v = cond (eqb u.rank v.rank && (eqb u.arrival v.arrival && eqb u.value v.value)) 1 0

pub same-self : (u : Waiting) → same u u ≡ 1
same-self u = rw (eq-eqb u.rank u.rank refl) (rw (eq-eqb u.arrival u.arrival refl) (rw (eq-eqb u.value u.value refl) refl))

abbrev made : ℕ → ℕ → ℕ → Waiting
made r a v = record { rank = r; arrival = a; value = v }

pub same-is : (u v : Waiting) → 1 ≤ same u v → u ≡ v
same-is u v h =
    elim (cases_Bool (eqb u.rank v.rank)) [
      | inl r ↦ elim (cases_Bool (eqb u.arrival v.arrival)) [
        | inl a ↦ elim (cases_Bool (eqb u.value v.value)) [
          | inl w ↦ ap (λ z. made z u.arrival u.value) (eqb-true u.rank v.rank r) ∙ ap (λ z. made v.rank z u.value) (eqb-true u.arrival v.arrival a) ∙ ap (λ z. made v.rank v.arrival z) (eqb-true u.value v.value w)
          | inr w ↦ absurd (let k : 1 ≤ cond (eqb u.rank v.rank && (eqb u.arrival v.arrival && false)) 1 0 = subst (λ z. 1 ≤ cond (eqb u.rank v.rank && (eqb u.arrival v.arrival && z)) 1 0) w h in grind (arith, k))
        ]
        | inr a ↦ absurd (let k : 1 ≤ cond (eqb u.rank v.rank && false) 1 0 = subst (λ z. 1 ≤ cond (eqb u.rank v.rank && (z && eqb u.value v.value)) 1 0) a h in grind (arith, k))
      ]
      | inr r ↦ absurd (let k : 1 ≤ 0 = subst (λ z. 1 ≤ cond (z && (eqb u.arrival v.arrival && eqb u.value v.value)) 1 0) r h in omega (arith, k))
    ]

-- a list of at most one entry is determined by its weights
pub short-same : (us vs : List Waiting) → length us ≤ 1 → ((f : Waiting → ℕ) → weight f us ≡ weight f vs) → us ≡ vs
short-same [] [] l h = refl
short-same [] (v ∷ vs) l h = absurd (omega (arith, h (λ _. 1)))
short-same (u ∷ []) [] l h = absurd (omega (arith, h (λ _. 1)))
short-same (u ∷ []) (v ∷ []) l h = ap (λ z. z ∷ []) (same-is u v (omega (arith, h (same u), same-self u)))
short-same (u ∷ []) (v ∷ w ∷ vs) l h = absurd (omega (arith, h (λ _. 1)))
short-same (u ∷ t ∷ us) vs l h = absurd (omega (arith, l))

-- ---- the entries with one arrival number
abbrev at_number : ℕ → (Waiting → ℕ) → Waiting → ℕ
at_number n f w = cond (eqb w.arrival n) (f w) 0

abbrev below_number : ℕ → (Waiting → ℕ) → Waiting → ℕ
below_number n f w = cond (ltb w.arrival n) (f w) 0

weight-coming : (f : Waiting → ℕ) (n : ℕ) (ws : List Waiting) → weight f (coming n ws) ≡ weight (at_number n f) ws
weight-coming f n [] = refl
weight-coming f n (w ∷ ws) =
    elim (cases_Bool (eqb w.arrival n)) [
      | inl t ↦ rw t (ap (λ k. f w + k) (weight-coming f n ws))
      | inr t ↦ rw t (omega (arith, weight-coming f n ws))
    ]

length-coming : (n : ℕ) (ws : List Waiting) → length (coming n ws) ≡ weight (came_as n) ws
length-coming n [] = refl
length-coming n (w ∷ ws) =
    elim (cases_Bool (eqb w.arrival n)) [
      | inl t ↦ rw t (omega (arith, length-coming n ws))
      | inr t ↦ rw t (omega (arith, length-coming n ws))
    ]

All-coming : (P : Waiting → Type 0) (n : ℕ) (ws : List Waiting) → AllByRecursion P ws → AllByRecursion P (coming n ws)
All-coming P n [] h = tt
All-coming P n (w ∷ ws) h =
    elim (cases_Bool (eqb w.arrival n)) [
      | inl t ↦ rw t (h.0, All-coming P n ws h.1)
      | inr t ↦ rw t (All-coming P n ws h.1)
    ]

All-in_order : (P : Waiting → Type 0) (n : ℕ) (ws : List Waiting) → AllByRecursion P ws → AllByRecursion P (in_order n ws)
All-in_order P zero ws h = tt
All-in_order P (suc n) ws h = All-append P (in_order n ws) (coming n ws) (All-in_order P n ws h) (All-coming P n ws h)

came_then : (n : ℕ) (ws : List Waiting) → AllByRecursion (λ (w : Waiting). w.arrival ≡ n) (coming n ws)
came_then n [] = tt
came_then n (w ∷ ws) =
    elim (cases_Bool (eqb w.arrival n)) [
      | inl t ↦ rw t (eqb-true w.arrival n t, came_then n ws)
      | inr t ↦ rw t (came_then n ws)
    ]

came_before : (n : ℕ) (ws : List Waiting) → AllByRecursion (λ (w : Waiting). w.arrival < n) (in_order n ws)
came_before zero ws = tt
came_before (suc n) ws =
    All-append _ (in_order n ws) (coming n ws) (All-weaker (λ (w : Waiting). w.arrival < n) (λ (w : Waiting). w.arrival < suc n) (λ w h. omega (arith, h)) _ (came_before n ws))
    (All-weaker (λ (w : Waiting). w.arrival ≡ n) (λ (w : Waiting). w.arrival < suc n) (λ w h. omega (arith, h)) _ (came_then n ws))

-- ---- numbers
at_most_one : (n pushed : ℕ) (ws : List Waiting) → IsNumbered pushed ws → weight (came_as n) ws ≤ 1
at_most_one n pushed ws h =
    elim (cases_lt n pushed) [
      | inl l ↦ let k : weight (came_as n) ws ≤ 1 = subst (λ z. weight (came_as n) ws ≤ cond z 1 0) (lt-ltb n pushed l) (h n) in k
      | inr l ↦ let k : weight (came_as n) ws ≤ 0 = subst (λ z. weight (came_as n) ws ≤ cond z 1 0) (le-ltb n pushed l) (h n) in omega (arith, k)
    ]

pub none_from : (n pushed : ℕ) (ws : List Waiting) → pushed ≤ n → IsNumbered pushed ws → weight (came_as n) ws ≡ 0
none_from n pushed ws l h = let k : weight (came_as n) ws ≤ 0 = subst (λ z. weight (came_as n) ws ≤ cond z 1 0) (le-ltb n pushed l) (h n) in omega (arith, k)

numbered_first : (pushed : ℕ) (w : Waiting) (ws : List Waiting) → IsNumbered pushed (w ∷ ws) → w.arrival < pushed
numbered_first pushed w ws h =
    elim (cases_lt w.arrival pushed) [
      | inl l ↦ l
      | inr l ↦ absurd (
          let k : came_as w.arrival w + weight (came_as w.arrival) ws ≡ 0 = none_from w.arrival pushed (w ∷ ws) l h in
          let one : came_as w.arrival w ≡ 1 = rw (eq-eqb w.arrival w.arrival refl) refl in omega (arith, k, one))
    ]

pub numbered_all : (pushed : ℕ) (ws : List Waiting) → IsNumbered pushed ws → AllByRecursion (λ (w : Waiting). w.arrival < pushed) ws
numbered_all pushed [] h = tt
numbered_all pushed (w ∷ ws) h = (numbered_first pushed w ws h, numbered_all pushed ws (λ n. omega (arith, h n)))

weight-below : (f : Waiting → ℕ) (n : ℕ) (ws : List Waiting) → weight (below_number n f) ws + weight (at_number n f) ws ≡ weight (below_number (suc n) f) ws
weight-below f n [] = refl
weight-below f n (w ∷ ws) = let one : below_number n f w + at_number n f w ≡ below_number (suc n) f w = grind (arith, nat_tests) in omega (arith, one, weight-below f n ws)

weight-in_order : (f : Waiting → ℕ) (n : ℕ) (ws : List Waiting) → weight f (in_order n ws) ≡ weight (below_number n f) ws
weight-in_order f zero ws = sym (weight-none (below_number 0 f) ws (nothing ws))
  where
    nothing : (vs : List Waiting) → AllByRecursion (λ w. below_number 0 f w ≡ 0) vs
    nothing [] = tt
    nothing (v ∷ vs) = (rw (le-ltb v.arrival 0 (omega arith)) refl, nothing vs)
weight-in_order f (suc n) ws = weight-append f (in_order n ws) (coming n ws) ∙ omega (arith, weight-in_order f n ws, weight-coming f n ws, weight-below f n ws)

-- the order of arrival has all queued entries
pub weight-ordered : (f : Waiting → ℕ) (pushed : ℕ) (ws : List Waiting) → IsNumbered pushed ws → weight f (in_order pushed ws) ≡ weight f ws
weight-ordered f pushed ws h = weight-in_order f pushed ws ∙ all ws (numbered_all pushed ws h)
  where
    all : (vs : List Waiting) → AllByRecursion (λ (w : Waiting). w.arrival < pushed) vs → weight (below_number pushed f) vs ≡ weight f vs
    all [] k = refl
    all (v ∷ vs) k = let one : below_number pushed f v ≡ f v = rw (lt-ltb v.arrival pushed k.0) refl in omega (arith, one, all vs k.1)

map-append : (xs ys : List Waiting) → map pair (xs ++ ys) ≡ map pair xs ++ map pair ys
map-append [] ys = refl
map-append (x ∷ xs) ys = ap (λ l. pair x ∷ l) (map-append xs ys)

none_long : (ws : List Waiting) → length ws ≡ 0 → ws ≡ []
none_long [] e = refl
none_long (w ∷ ws) e = absurd (omega (arith, e))

-- ---- big has one entry more than small
module _ (x : Waiting) (big small : List Waiting) (pushed : ℕ) (more : (f : Waiting → ℕ) → weight f big ≡ f x + weight f small) (numbered : IsNumbered pushed big) where
  short : (n : ℕ) → length (coming n big) ≤ 1
  short n = omega (arith, length-coming n big, at_most_one n pushed big numbered)

  elsewhere : (n : ℕ) → x.arrival ≢ n → coming n big ≡ coming n small
  elsewhere n ne =
      short-same (coming n big) (coming n small) (short n)
      (λ f. let none : at_number n f x ≡ 0 = rw (ne_eqb x.arrival n ne) refl in omega (arith, weight-coming f n big, weight-coming f n small, more (at_number n f), none))

  no_other : weight (came_as x.arrival) small ≡ 0
  no_other =
      let one : came_as x.arrival x ≡ 1 = rw (eq-eqb x.arrival x.arrival refl) refl in
      omega (arith, one, more (came_as x.arrival), at_most_one x.arrival pushed big numbered)

  nothing_there : (f : Waiting → ℕ) (ws : List Waiting) → AllByRecursion (λ w. came_as x.arrival w ≡ 0) ws → AllByRecursion (λ w. at_number x.arrival f w ≡ 0) ws
  nothing_there f [] h = tt
  nothing_there f (w ∷ ws) h =
      elim (cases_Bool (eqb w.arrival x.arrival)) [
        | inl t ↦ absurd (let one : came_as x.arrival w ≡ 1 = rw t refl in omega (arith, one, h.0))
        | inr t ↦ (rw t refl, nothing_there f ws h.1)
      ]

  here : coming x.arrival big ≡ x ∷ []
  here =
      short-same (coming x.arrival big) (x ∷ []) (short x.arrival)
      (λ f. let mine : at_number x.arrival f x ≡ f x = rw (eq-eqb x.arrival x.arrival refl) refl in
      omega (arith, weight-coming f x.arrival big, more (at_number x.arrival f), mine, weight-none (at_number x.arrival f) small (nothing_there f small (none-weight (came_as x.arrival) small no_other))))

  gone : coming x.arrival small ≡ []
  gone = none_long (coming x.arrival small) (length-coming x.arrival small ∙ no_other)

  order_before : (n : ℕ) → n ≤ x.arrival → in_order n big ≡ in_order n small
  order_before zero l = refl
  order_before (suc n) l =
      ap (λ z. z ++ coming n big) (order_before n (omega (arith, l))) ∙ ap (λ z. in_order n small ++ z) (elsewhere n (λ e. omega (arith, e, l)))

  order_here : in_order (suc x.arrival) big ≡ in_order x.arrival small ++ x ∷ []
  order_here = ap (λ z. z ++ coming x.arrival big) (order_before x.arrival (omega arith)) ∙ ap (λ z. in_order x.arrival small ++ z) here

  -- the additional entry arrived last
  pub queue-pushed : queue_of (x.arrival + 1) big ≡ put (queue_of x.arrival small) x.rank x.value
  unfolding queue_of
  queue-pushed =
      let next : x.arrival + 1 ≡ suc x.arrival = omega arith in
      ap (λ n. map pair (in_order n big)) next ∙ ap (map pair) order_here ∙ map-append (in_order x.arrival small) (x ∷ [])

-- the entries that arrived before an entry and after it
pub record Splits (x : Waiting) (big small : List Waiting) (n : ℕ) : Type 0 where
  pub after : List Waiting
  pub with_it : in_order n big ≡ in_order x.arrival small ++ x ∷ after
  pub without : in_order n small ≡ in_order x.arrival small ++ after
  pub kept : AllByRecursion (Precedes x) small → AllByRecursion (Precedes x) after

above : (x : Waiting) (ws : List Waiting) → AllByRecursion (Precedes x) ws → AllByRecursion (λ (w : Waiting). w.arrival < x.arrival) ws → AllAbove x.rank (map pair ws)
above x [] h k = tt
above x (w ∷ ws) h k =
    ((elim (eq-or-lt_of_le h.0.rank) [ inl e ↦ absurd (omega (arith, h.0.tie e, k.0)) | inr l ↦ l ]), above x ws h.1 k.1)

from : (x : Waiting) (ws : List Waiting) → AllByRecursion (Precedes x) ws → AllFrom x.rank (map pair ws)
from x [] h = tt
from x (w ∷ ws) h = (h.0.rank, from x ws h.1)

module _ (x : Waiting) (big small : List Waiting) (pushed : ℕ) (more : (f : Waiting → ℕ) → weight f big ≡ f x + weight f small) (numbered : IsNumbered pushed big) where
  split_here : Splits x big small (suc x.arrival)
  split_here = record {
    after = [];
    with_it = order_here x big small pushed more numbered;
    without = ap (λ z. in_order x.arrival small ++ z) (gone x big small pushed more numbered);
    kept = λ _. tt;
  }

  split_next : (n : ℕ) → x.arrival < n → Splits x big small n → Splits x big small (suc n)
  split_next n l s = record {
    after = s.after ++ coming n small;
    with_it =
        ap (λ z. z ++ coming n big) s.with_it
        ∙ ap (λ z. (in_order x.arrival small ++ x ∷ s.after) ++ z) (elsewhere x big small pushed more numbered n (λ e. omega (arith, e, l)))
        ∙ append_assoc (in_order x.arrival small) (x ∷ s.after) (coming n small);
    without = ap (λ z. z ++ coming n small) s.without ∙ append_assoc (in_order x.arrival small) s.after (coming n small);
    kept = λ h. All-append (Precedes x) s.after (coming n small) (s.kept h) (All-coming (Precedes x) n small h);
  }

  split : (n : ℕ) → x.arrival < n → Splits x big small n
  split zero l = absurd (omega (arith, l))
  split (suc n) l =
      let low : x.arrival ≤ n = omega (arith, l) in
      elim (eq-or-lt_of_le low) [
        | inl e ↦ subst (λ z. Splits x big small (suc z)) e split_here
        | inr k ↦ split_next n k (split n k)
      ]

  known : x.arrival < pushed
  known =
      elim (cases_lt x.arrival pushed) [
        | inl l ↦ l
        | inr l ↦ absurd (
            let one : came_as x.arrival x ≡ 1 = rw (eq-eqb x.arrival x.arrival refl) refl in
            omega (arith, one, more (came_as x.arrival), none_from x.arrival pushed big l numbered))
      ]

  -- if none of the others departs before it, the entry departs
  pub queue-popped : AllByRecursion (Precedes x) small → take_least (queue_of pushed big) ≡ Some (record { rank = x.rank; value = x.value; rest = queue_of pushed small })
  unfolding queue_of
  queue-popped h =
      let s : Splits x big small pushed = split pushed known in
      ap (λ z. take_least (map pair z)) s.with_it
      ∙ ap (λ z. take_least z) (map-append (in_order x.arrival small) (x ∷ s.after))
      ∙ take_least-split x.rank x.value (map pair (in_order x.arrival small)) (map pair s.after)
      (above x (in_order x.arrival small) (All-in_order (Precedes x) x.arrival small h) (came_before x.arrival small)) (from x s.after (s.kept h))
      ∙ ap (λ z. Some (record { rank = x.rank; value = x.value; rest = z })) (sym (map-append (in_order x.arrival small) s.after) ∙ ap (map pair) (sym s.without))

-- the additional entry has the next arrival number
pub numbered_more : (x : Waiting) (big small : List Waiting) → ((f : Waiting → ℕ) → weight f big ≡ f x + weight f small) → IsNumbered x.arrival small → IsNumbered (x.arrival + 1) big
numbered_more x big small more h n =
    elim (cases_lt n x.arrival) [
      | inl l ↦ (
          let other : came_as n x ≡ 0 = rw (ne_eqb x.arrival n (λ e. omega (arith, e, l))) refl in
          let old : weight (came_as n) small ≤ 1 = at_most_one n x.arrival small h in
          rw (lt-ltb n (x.arrival + 1) (omega (arith, l))) (omega (arith, other, old, more (came_as n))))
      | inr l ↦ elim (eq-or-lt_of_le l) [
        | inl e ↦ (
            let one : came_as n x ≤ 1 = elim (cases_Bool (eqb x.arrival n)) [ inl t ↦ rw t (omega arith) | inr t ↦ rw t (omega arith) ] in
            rw (lt-ltb n (x.arrival + 1) (omega (arith, e))) (omega (arith, one, none_from n x.arrival small l h, more (came_as n))))
        | inr k ↦ (
            let other : came_as n x ≡ 0 = rw (ne_eqb x.arrival n (λ e. omega (arith, e, k))) refl in
            rw (le-ltb n (x.arrival + 1) (omega (arith, k))) (omega (arith, other, none_from n x.arrival small l h, more (came_as n))))
      ]
    ]

-- one entry fewer
pub numbered_fewer : (x : Waiting) (big small : List Waiting) (pushed : ℕ) → ((f : Waiting → ℕ) → weight f big ≡ f x + weight f small) → IsNumbered pushed big → IsNumbered pushed small
numbered_fewer x big small pushed more h n = omega (arith, h n, more (came_as n))
