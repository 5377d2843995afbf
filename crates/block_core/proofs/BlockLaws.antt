-- A queue of rank stores after a push and after a pop.
use Rattle.block_core.proofs.Prelude.{arith, ◌≡◌, sym, length, subst, ℕ, ◌∙◌, ap, [], refl, List, map, ◌+◌, ◌<◌, ◌∷◌, get_or, suc, set, zero, ◌++◌, ◌≤◌, Some, inl, inr, eqb, false, ltb, ◌&&◌, Bool, cond, length-set, ◌||◌, get_or-set_other, get_or-set_same, cases_lt, le-ltb, lt-ltb, cases_Bool, eq-eqb, eqb-true, eqb-false, nat_tests, IsUpperBound, IsHeap, AllByRecursion, list_any, IsPermutation, Reverse, put, take_least, weight, Precedes, came_as, in_order, pair, held, IsBlock, IsCounted, queue_in, IsPassed, heap_order, spills_in, all_of, head_of, last_rank, flow_of, heads_of, waiting_in, IsFifo, IsStored, Waiting}
use Rattle.std.specs.Ordering.{is_lt}
use Rattle.std.proofs.lemmas.List.Sorted.{IsPermutation-map, All-permutation}
use Rattle.std.proofs.lemmas.List.Elements.{All-from_recursion, recursion_from_All}
use Rattle.block_core.specs.Arrival.{queue_of}
use Rattle.block_core.proofs.Weights.{weight-append, weight-IsPermutation, weight-none, none-weight, weight-set, heads-set}
use Rattle.block_core.proofs.ArrivalLaws.{All-append, All-weaker, same, same-self, numbered_all, numbered_more, numbered_fewer, weight-ordered, queue-pushed, queue-popped}
use Rattle.block_core.proofs.StoreLaws.{last_rank-pushed, ranks_up_to, fifo-pushed, behind_all, last_rank-popped, stored_at, stored-set, IsHeadAt, head_found, heads_precede}

-- ---- the entry that departs first
abbrev bad : Waiting → Waiting → ℕ
bad x w = cond (ltb w.rank x.rank || (eqb w.rank x.rank && ltb w.arrival x.arrival)) 1 0

precedes-bad : (x w : Waiting) → Precedes x w → bad x w ≡ 0
precedes-bad x w p =
    rw (le-ltb w.rank x.rank p.rank) (elim (cases_Bool (eqb w.rank x.rank)) [
      | inl t ↦ rw t (rw (le-ltb w.arrival x.arrival (p.tie (sym (eqb-true w.rank x.rank t)))) refl)
      | inr t ↦ rw t refl
    ])

bad-precedes : (x w : Waiting) → bad x w ≡ 0 → Precedes x w
bad-precedes x w h = record { rank = grind (arith, nat_tests, h); tie = λ e. grind (arith, nat_tests, h, e) }

all-bad : (x : Waiting) (ws : List Waiting) → AllByRecursion (Precedes x) ws → AllByRecursion (λ w. bad x w ≡ 0) ws
all-bad x ws h = All-weaker (Precedes x) (λ w. bad x w ≡ 0) (precedes-bad x) ws h

-- also among fewer entries
precedes_fewer : (x : Waiting) (us vs : List Waiting) → ((f : Waiting → ℕ) → weight f vs ≤ weight f us) → AllByRecursion (Precedes x) us → AllByRecursion (Precedes x) vs
precedes_fewer x us vs h k =
    All-weaker (λ w. bad x w ≡ 0) (Precedes x) (bad-precedes x) vs (none-weight (bad x) vs (omega (arith, h (bad x), weight-none (bad x) us (all-bad x us k))))

pub precedes-self : (x : Waiting) → Precedes x x
precedes-self x = record { rank = omega arith; tie = λ _. omega arith }

pub precedes-trans : (x y z : Waiting) → Precedes x y → Precedes y z → Precedes x z
precedes-trans x y z p q = record { rank = omega (arith, p.rank, q.rank); tie = λ e. omega (arith, p.tie (omega (arith, e, p.rank, q.rank)), q.tie (omega (arith, e, p.rank, q.rank))) }

-- the top of a heap
top_precedes : (x w : Waiting) → is_lt (heap_order (record { 0 = x }) (record { 0 = w })) ≡ false → Precedes x w
top_precedes x w upper = record { rank = grind (arith, nat_tests, upper); tie = λ e. grind (arith, nat_tests, upper, e) }

pub heap_precedes : (x : Reverse Waiting) (items : List (Reverse Waiting)) → IsUpperBound heap_order x items → AllByRecursion (Precedes x.0) (held items)
heap_precedes x [] upper = tt
heap_precedes x (y ∷ items) upper = (top_precedes x.0 y.0 upper.0, heap_precedes x items upper.1)

pub weight-held : (f : Waiting → ℕ) (old new : List (Reverse Waiting)) → IsPermutation old new → weight f (held new) ≡ weight f (held old)
weight-held f old new p = weight-IsPermutation f (held old) (held new) (IsPermutation-map (λ (r : Reverse Waiting). r.0) old new p)

moved : (P : Waiting → Type 0) (old new : List (Reverse Waiting)) → IsPermutation old new → AllByRecursion P (held old) → AllByRecursion P (held new)
moved P old new p h =
    recursion_from_All P (held new) (All-permutation P (held old) (held new) (IsPermutation-map (λ (r : Reverse Waiting). r.0) old new p) (All-from_recursion P (held old) h))

-- ---- a spilled entry ranks below the last of its flow
abbrev pub passed_by : ℕ → List (List Waiting) → Waiting → Type 0
passed_by flows stores w = w.rank < last_rank (get_or stores (flow_of flows w.value) [])

passed-set : (flows : ℕ) (ss : List (List Waiting)) (j : ℕ) (s : List Waiting) (ws : List Waiting) → j < length ss
    → AllByRecursion (λ (w : Waiting). w.rank < last_rank (get_or ss j []) → w.rank < last_rank s) ws → AllByRecursion (passed_by flows ss) ws → AllByRecursion (passed_by flows (set ss j s)) ws
passed-set flows ss j s [] l q h = tt
passed-set flows ss j s (w ∷ ws) l q h =
    let P : List Waiting → Type 0 = λ z. w.rank < last_rank z in (
      elim (cases_Bool (eqb (flow_of flows w.value) j)) [
        | inl t ↦ (
            let e : flow_of flows w.value ≡ j = eqb-true (flow_of flows w.value) j t in
            subst (λ z. P (get_or (set ss j s) z [])) (sym e) (subst P (sym (get_or-set_same ss j s [] l)) (q.0 (subst (λ z. P (get_or ss z [])) e h.0))))
        | inr t ↦ subst P (sym (get_or-set_other ss j (flow_of flows w.value) s [] (eqb-false (flow_of flows w.value) j t))) h.0
      ],
      passed-set flows ss j s ws l q.1 h.1,
    )

passed_again : (ss : List (List Waiting)) (j : ℕ) (s : List Waiting) (ws : List Waiting) → AllByRecursion (passed_by (length ss) (set ss j s)) ws → AllByRecursion (IsPassed (set ss j s)) ws
passed_again ss j s ws h = subst (λ (n : ℕ). AllByRecursion (passed_by n (set ss j s)) ws) (sym (length-set ss j s)) h

for_all : (P : Waiting → Type 0) → ((w : Waiting) → P w) → (ws : List Waiting) → AllByRecursion P ws
for_all P h [] = tt
for_all P h (w ∷ ws) = (h w, for_all P h ws)

All-front : (P : Waiting → Type 0) (xs ys : List Waiting) → AllByRecursion P (xs ++ ys) → AllByRecursion P xs
All-front P [] ys h = tt
All-front P (x ∷ xs) ys h = (h.0, All-front P xs ys h.1)

All-back : (P : Waiting → Type 0) (xs ys : List Waiting) → AllByRecursion P (xs ++ ys) → AllByRecursion P ys
All-back P [] ys h = h
All-back P (x ∷ xs) ys h = All-back P xs ys h.1

at_store : (P : Waiting → Type 0) (ss : List (List Waiting)) (j : ℕ) → AllByRecursion P (waiting_in ss) → AllByRecursion P (get_or ss j [])
at_store P [] j h = tt
at_store P (s ∷ ss) zero h = All-front P s (waiting_in ss) h
at_store P (s ∷ ss) (suc j) h = at_store P ss j (All-back P s (waiting_in ss) h)

-- ---- an entry joins the end of its flow
module _ (ss : List (List Waiting)) (heads new_heads spilled : List (Reverse Waiting)) (x : Waiting) (j : ℕ) (b : IsBlock ss heads spilled x.arrival) (flow : flow_of (length ss) x.value ≡ j) (l : j < length ss)
    (low : last_rank (get_or ss j []) ≤ x.rank) (hs : (f : Waiting → ℕ) → weight f (held new_heads) + weight f (head_of (get_or ss j [])) ≡ weight f (held heads) + weight f (head_of (get_or ss j [] ++ x ∷ []))) (o : IsHeap heap_order new_heads) where
  pub stored_more : (f : Waiting → ℕ) → weight f (all_of (set ss j (get_or ss j [] ++ x ∷ [])) (held spilled)) ≡ f x + weight f (all_of ss (held spilled))
  stored_more f =
      omega (arith, weight-append f (waiting_in (set ss j (get_or ss j [] ++ x ∷ []))) (held spilled), weight-append f (waiting_in ss) (held spilled), weight-set f ss j (get_or ss j [] ++ x ∷ []) l, weight-append f (get_or ss j []) (x ∷ []))

  pub stored_is : IsBlock (set ss j (get_or ss j [] ++ x ∷ [])) new_heads spilled (x.arrival + 1)
  stored_is =
      let at : AllByRecursion (λ (w : Waiting). flow_of (length ss) w.value ≡ 0 + j) (get_or ss j []) × IsFifo (get_or ss j []) = stored_at (length ss) 0 ss j l b.in_flows in
      let early : AllByRecursion (λ (w : Waiting). w.arrival < x.arrival) (get_or ss j [])
      = at_store (λ (w : Waiting). w.arrival < x.arrival) ss j (All-front _ (waiting_in ss) (held spilled) (numbered_all x.arrival (all_of ss (held spilled)) b.numbered)) in
      record {
        some = omega (arith, b.some, length-set ss j (get_or ss j [] ++ x ∷ []));
        numbered = numbered_more x (all_of (set ss j (get_or ss j [] ++ x ∷ [])) (held spilled)) (all_of ss (held spilled)) stored_more b.numbered;
        in_flows = subst (λ (n : ℕ). IsStored n 0 (set ss j (get_or ss j [] ++ x ∷ []))) (sym (length-set ss j (get_or ss j [] ++ x ∷ [])))
            (stored-set (length ss) 0 ss j (get_or ss j [] ++ x ∷ []) b.in_flows (All-append _ (get_or ss j []) (x ∷ []) at.0 (omega (arith, flow), tt))
            (fifo-pushed (get_or ss j []) x at.1 (behind_all (get_or ss j []) x (ranks_up_to (get_or ss j []) at.1) low early)));
        heads_are = λ f. omega (arith, hs f, heads-set f ss j (get_or ss j [] ++ x ∷ []) l, b.heads_are f);
        passed = passed_again ss j (get_or ss j [] ++ x ∷ []) (held spilled) (passed-set (length ss) ss j (get_or ss j [] ++ x ∷ []) (held spilled) l
            (for_all _ (λ w k. omega (arith, k, low, last_rank-pushed (get_or ss j []) x)) (held spilled)) b.passed);
        heads_order = o;
        spilled_order = b.spilled_order;
      }

  pub stored_queue : queue_in (x.arrival + 1) (set ss j (get_or ss j [] ++ x ∷ [])) (held spilled) ≡ put (queue_in x.arrival ss (held spilled)) x.rank x.value
  stored_queue = queue-pushed x (all_of (set ss j (get_or ss j [] ++ x ∷ [])) (held spilled)) (all_of ss (held spilled)) (x.arrival + 1) stored_more stored_is.numbered

-- ---- an entry spills
module _ (ss : List (List Waiting)) (heads spilled new_spilled : List (Reverse Waiting)) (x : Reverse Waiting) (b : IsBlock ss heads spilled x.0.arrival)
    (p : IsPermutation (x ∷ spilled) new_spilled) (low : IsPassed ss x.0) (o : IsHeap heap_order new_spilled) where
  pub spilt_more : (f : Waiting → ℕ) → weight f (all_of ss (held new_spilled)) ≡ f x.0 + weight f (all_of ss (held spilled))
  spilt_more f = omega (arith, weight-append f (waiting_in ss) (held new_spilled), weight-append f (waiting_in ss) (held spilled), weight-held f (x ∷ spilled) new_spilled p)

  pub spilt_is : IsBlock ss heads new_spilled (x.0.arrival + 1)
  spilt_is = record {
    some = b.some;
    numbered = numbered_more x.0 (all_of ss (held new_spilled)) (all_of ss (held spilled)) spilt_more b.numbered;
    in_flows = b.in_flows;
    heads_are = b.heads_are;
    passed = moved (IsPassed ss) (x ∷ spilled) new_spilled p (low, b.passed);
    heads_order = b.heads_order;
    spilled_order = o;
  }

  pub spilt_queue : queue_in (x.0.arrival + 1) ss (held new_spilled) ≡ put (queue_in x.0.arrival ss (held spilled)) x.0.rank x.0.value
  spilt_queue = queue-pushed x.0 (all_of ss (held new_spilled)) (all_of ss (held spilled)) (x.0.arrival + 1) spilt_more spilt_is.numbered

-- ---- the first of the spilled entries departs
module _ (ss : List (List Waiting)) (heads spilled new_spilled : List (Reverse Waiting)) (pushed : ℕ) (x : Reverse Waiting) (b : IsBlock ss heads spilled pushed)
    (p : IsPermutation spilled (x ∷ new_spilled)) (upper : IsUpperBound heap_order x new_spilled) (first : AllByRecursion (Precedes x.0) (held heads)) (o : IsHeap heap_order new_spilled) where
  pub unspilt_more : (f : Waiting → ℕ) → weight f (all_of ss (held spilled)) ≡ f x.0 + weight f (all_of ss (held new_spilled))
  unspilt_more f = omega (arith, weight-append f (waiting_in ss) (held new_spilled), weight-append f (waiting_in ss) (held spilled), weight-held f spilled (x ∷ new_spilled) p)

  pub unspilt_is : IsBlock ss heads new_spilled pushed
  unspilt_is =
      let passed : AllByRecursion (IsPassed ss) (held (x ∷ new_spilled)) = moved (IsPassed ss) spilled (x ∷ new_spilled) p b.passed in
      record {
        some = b.some;
        numbered = numbered_fewer x.0 (all_of ss (held spilled)) (all_of ss (held new_spilled)) pushed unspilt_more b.numbered;
        in_flows = b.in_flows;
        heads_are = b.heads_are;
        passed = passed.1;
        heads_order = b.heads_order;
        spilled_order = o;
      }

  pub unspilt_queue : take_least (queue_in pushed ss (held spilled)) ≡ Some (record { rank = x.0.rank; value = x.0.value; rest = queue_in pushed ss (held new_spilled) })
  unspilt_queue =
      let heads_first : AllByRecursion (Precedes x.0) (heads_of ss) = precedes_fewer x.0 (held heads) (heads_of ss) (λ f. omega (arith, b.heads_are f)) first in
      queue-popped x.0 (all_of ss (held spilled)) (all_of ss (held new_spilled)) pushed unspilt_more b.numbered
      (All-append (Precedes x.0) (waiting_in ss) (held new_spilled) (heads_precede (length ss) 0 ss x.0 b.in_flows heads_first) (heap_precedes x new_spilled upper))

-- ---- the first of the heads departs
pub head_at : (ss : List (List Waiting)) (heads left spilled : List (Reverse Waiting)) (pushed : ℕ) (x : Reverse Waiting) → IsBlock ss heads spilled pushed → IsPermutation heads (x ∷ left) → IsHeadAt (length ss) 0 ss x.0
head_at ss heads left spilled pushed x b p =
    head_found (length ss) 0 ss x.0 b.in_flows (omega (arith, b.heads_are (same x.0), weight-held (same x.0) heads (x ∷ left) p, same-self x.0))

module _ (ss : List (List Waiting)) (heads left new_heads spilled : List (Reverse Waiting)) (pushed : ℕ) (x : Reverse Waiting) (j : ℕ) (rest : List Waiting) (b : IsBlock ss heads spilled pushed)
    (p : IsPermutation heads (x ∷ left)) (upper : IsUpperBound heap_order x left) (first : AllByRecursion (Precedes x.0) (held spilled)) (l : j < length ss) (at : get_or ss j [] ≡ x.0 ∷ rest)
    (hs : (f : Waiting → ℕ) → weight f (held new_heads) ≡ weight f (held left) + weight f (head_of rest)) (o : IsHeap heap_order new_heads) where
  pub led_more : (f : Waiting → ℕ) → weight f (all_of ss (held spilled)) ≡ f x.0 + weight f (all_of (set ss j rest) (held spilled))
  led_more f =
      omega (arith, weight-append f (waiting_in (set ss j rest)) (held spilled), weight-append f (waiting_in ss) (held spilled), weight-set f ss j rest l, ap (λ z. weight f z) at)

  all_precede : AllByRecursion (Precedes x.0) (all_of ss (held spilled))
  all_precede =
      let heads_first : AllByRecursion (Precedes x.0) (heads_of ss) = precedes_fewer x.0 (held (x ∷ left)) (heads_of ss) (λ f. omega (arith, b.heads_are f, weight-held f heads (x ∷ left) p)) (precedes-self x.0, heap_precedes x left upper) in
      All-append (Precedes x.0) (waiting_in ss) (held spilled) (heads_precede (length ss) 0 ss x.0 b.in_flows heads_first) first

  pub led_is : IsBlock (set ss j rest) new_heads spilled pushed
  led_is =
      let there : AllByRecursion (λ (w : Waiting). flow_of (length ss) w.value ≡ 0 + j) (x.0 ∷ rest) × IsFifo (x.0 ∷ rest)
      = subst (λ z. AllByRecursion (λ (w : Waiting). flow_of (length ss) w.value ≡ 0 + j) z × IsFifo z) at (stored_at (length ss) 0 ss j l b.in_flows) in
      record {
        some = omega (arith, b.some, length-set ss j rest);
        numbered = numbered_fewer x.0 (all_of ss (held spilled)) (all_of (set ss j rest) (held spilled)) pushed led_more b.numbered;
        in_flows = subst (λ (n : ℕ). IsStored n 0 (set ss j rest)) (sym (length-set ss j rest)) (stored-set (length ss) 0 ss j rest b.in_flows there.0.1 there.1.1);
        heads_are = λ f. omega (arith, hs f, heads-set f ss j rest l, ap (λ z. weight f (head_of z)) at, b.heads_are f, weight-held f heads (x ∷ left) p);
        passed = passed_again ss j rest (held spilled) (passed-set (length ss) ss j rest (held spilled) l
            (All-weaker (Precedes x.0) (λ (w : Waiting). w.rank < last_rank (get_or ss j []) → w.rank < last_rank rest) (λ w q k. last_rank-popped x.0 w rest q.rank (subst (λ z. w.rank < last_rank z) at k)) (held spilled) first) b.passed);
        heads_order = o;
        spilled_order = b.spilled_order;
      }

  pub led_queue : take_least (queue_in pushed ss (held spilled)) ≡ Some (record { rank = x.0.rank; value = x.0.value; rest = queue_in pushed (set ss j rest) (held spilled) })
  led_queue =
      queue-popped x.0 (all_of ss (held spilled)) (all_of (set ss j rest) (held spilled)) pushed led_more b.numbered
      (precedes_fewer x.0 (all_of ss (held spilled)) (all_of (set ss j rest) (held spilled)) (λ f. omega (arith, led_more f)) all_precede)

-- ---- the pushes that spill
abbrev spilling : ℕ → ℕ → ℕ → Waiting → Bool
spilling flows j rank w = eqb (flow_of flows w.value) j && ltb rank w.rank

abbrev spilling_one : ℕ → ℕ → ℕ → Waiting → ℕ
spilling_one flows j rank w = cond (spilling flows j rank w) 1 0

any-pairs : (flows j rank : ℕ) (ws : List Waiting) → list_any (λ (e : ℕ × ℕ). eqb (flow_of flows e.1) j && ltb rank e.0) (map pair ws) ≡ ltb 0 (weight (spilling_one flows j rank) ws)
any-pairs flows j rank [] = sym (le-ltb 0 0 (omega arith))
any-pairs flows j rank (w ∷ ws) =
    elim (cases_Bool (spilling flows j rank w)) [
      | inl t ↦ rw t (sym (lt-ltb 0 (1 + weight (spilling_one flows j rank) ws) (omega arith)))
      | inr t ↦ rw t (any-pairs flows j rank ws ∙ ap (λ (n : ℕ). ltb 0 n) (let n : weight (spilling_one flows j rank) ws ≡ 0 + weight (spilling_one flows j rank) ws = omega arith in n))
    ]

-- a flow whose last entry has a greater rank has an entry with a greater rank
some_above : (flows j rank : ℕ) (s : List Waiting) → AllByRecursion (λ (w : Waiting). flow_of flows w.value ≡ j) s → rank < last_rank s → 1 ≤ weight (spilling_one flows j rank) s
some_above flows j rank [] a l = absurd (omega (arith, l))
some_above flows j rank (w ∷ []) a l =
    let one : spilling_one flows j rank w ≡ 1 = rw (eq-eqb (flow_of flows w.value) j a.0) (rw (lt-ltb rank w.rank l) refl) in omega (arith, one)
some_above flows j rank (w ∷ v ∷ s) a l = omega (arith, some_above flows j rank (v ∷ s) a.1 l)

-- if the last entry of the flow doesn't have a greater rank, no store has such an entry
none_there : (flows j rank k : ℕ) (s : List Waiting) → AllByRecursion (λ (w : Waiting). flow_of flows w.value ≡ k) s → (k ≡ j → AllByRecursion (λ (w : Waiting). w.rank ≤ rank) s) → AllByRecursion (λ w. spilling_one flows j rank w ≡ 0) s
none_there flows j rank k [] a h = tt
none_there flows j rank k (w ∷ s) a h = (
  elim (cases_Bool (eqb (flow_of flows w.value) j)) [
    | inl t ↦ rw t (rw (le-ltb rank w.rank (h (sym a.0 ∙ eqb-true (flow_of flows w.value) j t)).0) refl)
    | inr t ↦ rw t refl
  ],
  none_there flows j rank k s a.1 (λ e. (h e).1),
)

none_stored : (flows j rank k : ℕ) (ss : List (List Waiting)) → IsStored flows k ss → ((i : ℕ) → k + i ≡ j → last_rank (get_or ss i []) ≤ rank) → AllByRecursion (λ w. spilling_one flows j rank w ≡ 0) (waiting_in ss)
none_stored flows j rank k [] i h = tt
none_stored flows j rank k (s ∷ ss) i h =
    All-append _ s (waiting_in ss)
    (none_there flows j rank k s i.0 (λ e. All-weaker (λ (w : Waiting). w.rank ≤ last_rank s) (λ (w : Waiting). w.rank ≤ rank) (λ w l. omega (arith, l, h 0 (omega (arith, e)))) s (ranks_up_to s i.1)))
    (none_stored flows j rank (k + 1) ss i.2 (λ n e. h (suc n) (omega (arith, e))))

none_spilled : (flows j rank : ℕ) (ss : List (List Waiting)) (ws : List Waiting) → AllByRecursion (passed_by flows ss) ws → last_rank (get_or ss j []) ≤ rank → AllByRecursion (λ w. spilling_one flows j rank w ≡ 0) ws
none_spilled flows j rank ss [] p l = tt
none_spilled flows j rank ss (w ∷ ws) p l = (
  elim (cases_Bool (eqb (flow_of flows w.value) j)) [
    | inl t ↦ (
        let at : w.rank < last_rank (get_or ss j []) = subst (λ z. w.rank < last_rank (get_or ss z [])) (eqb-true (flow_of flows w.value) j t) p.0 in
        rw t (rw (le-ltb rank w.rank (omega (arith, at, l))) refl))
    | inr t ↦ rw t refl
  ],
  none_spilled flows j rank ss ws p.1 l,
)

-- the last entry of the flow decides whether any of its entries has a greater rank
pub spills-by_last : (ss : List (List Waiting)) (heads spilled : List (Reverse Waiting)) (pushed rank value j : ℕ) → IsBlock ss heads spilled pushed → j < length ss → flow_of (length ss) value ≡ j
    → ltb rank (last_rank (get_or ss j [])) ≡ spills_in (length ss) rank value (queue_in pushed ss (held spilled))
unfolding queue_of
spills-by_last ss heads spilled pushed rank value j b l e =
    let told : ltb rank (last_rank (get_or ss j [])) ≡ ltb 0 (weight (spilling_one (length ss) j rank) (all_of ss (held spilled)))
    = elim (cases_lt rank (last_rank (get_or ss j []))) [
      | inl above ↦ (
          let some : 1 ≤ weight (spilling_one (length ss) j rank) (get_or ss j [])
          = some_above (length ss) j rank (get_or ss j []) (All-weaker _ (λ (w : Waiting). flow_of (length ss) w.value ≡ j) (λ w f. omega (arith, f)) (get_or ss j []) (stored_at (length ss) 0 ss j l b.in_flows).0) above in
          lt-ltb rank (last_rank (get_or ss j [])) above
          ∙ sym (lt-ltb 0 (weight (spilling_one (length ss) j rank) (all_of ss (held spilled)))
          (omega (arith, some, weight-append (spilling_one (length ss) j rank) (waiting_in ss) (held spilled), weight-set (spilling_one (length ss) j rank) ss j [] l))))
      | inr low ↦ (
          let none : weight (spilling_one (length ss) j rank) (all_of ss (held spilled)) ≡ 0
          = weight-none (spilling_one (length ss) j rank) (all_of ss (held spilled))
          (All-append _ (waiting_in ss) (held spilled) (none_stored (length ss) j rank 0 ss b.in_flows (λ i f. subst (λ z. last_rank (get_or ss z []) ≤ rank) (let g : j ≡ i = omega (arith, f) in g) low)) (none_spilled (length ss) j rank ss (held spilled) b.passed low)) in
          le-ltb rank (last_rank (get_or ss j [])) low ∙ sym (le-ltb 0 (weight (spilling_one (length ss) j rank) (all_of ss (held spilled))) (omega (arith, none))))
    ] in
    told
    ∙ ap (λ (n : ℕ). ltb 0 n) (sym (weight-ordered (spilling_one (length ss) j rank) pushed (all_of ss (held spilled)) b.numbered))
    ∙ sym (any-pairs (length ss) j rank (in_order pushed (all_of ss (held spilled))))
    ∙ ap (λ (z : ℕ). list_any (λ (e : ℕ × ℕ). eqb (flow_of (length ss) e.1) z && ltb rank e.0) (map pair (in_order pushed (all_of ss (held spilled))))) (sym e)

-- ---- the first entry of an empty flow becomes its head
pub heads_led : (s : List Waiting) (old new : List (Reverse Waiting)) (x : Reverse Waiting) → length s ≡ 0 → IsPermutation (x ∷ old) new
    → (f : Waiting → ℕ) → weight f (held new) + weight f (head_of s) ≡ weight f (held old) + weight f (head_of (s ++ x.0 ∷ []))
heads_led [] old new x e p f = omega (arith, weight-held f (x ∷ old) new p)
heads_led (w ∷ s) old new x e p f = absurd (omega (arith, e))

-- the next entry of a flow becomes its head
pub heads_next : (s : List Waiting) (old new : List (Reverse Waiting)) (x : Reverse Waiting) → 0 < length s → x.0 ≡ get_or s 0 x.0 → IsPermutation (x ∷ old) new
    → (f : Waiting → ℕ) → weight f (held new) ≡ weight f (held old) + weight f (head_of s)
heads_next [] old new x l e p f = absurd (omega (arith, l))
heads_next (w ∷ s) old new x l e p f = omega (arith, weight-held f (x ∷ old) new p, ap f e)

-- ---- the first of a heap
pub top_is : (items : List (Reverse Waiting)) (x d : Reverse Waiting) → 0 < length items → x ≡ get_or items 0 x → get_or items 0 d ≡ x
top_is [] x d l e = absurd (omega (arith, l))
top_is (y ∷ items) x d l e = sym e

pub heap_behind : (x : Waiting) (top : Reverse Waiting) (items : List (Reverse Waiting)) → Precedes x top.0 → IsUpperBound heap_order top items → AllByRecursion (Precedes x) (held items)
heap_behind x top items p upper = All-weaker (Precedes top.0) (Precedes x) (λ w q. precedes-trans x top.0 w p q) (held items) (heap_precedes top items upper)

-- ---- if no flow has a head, no entry is queued in the flows
no_heads : (ss : List (List Waiting)) → weight (λ _. 1) (heads_of ss) ≡ 0 → (waiting_in ss ≡ []) × ((j : ℕ) → last_rank (get_or ss j []) ≡ 0)
no_heads [] e = (refl, λ j. refl)
no_heads ([] ∷ ss) e = let ih = no_heads ss e in (ih.0, λ j. go j ih.1)
  where
    go : (j : ℕ) → ((k : ℕ) → last_rank (get_or ss k []) ≡ 0) → last_rank (get_or ([] ∷ ss) j []) ≡ 0
    go zero h = refl
    go (suc j) h = h j
no_heads ((w ∷ s) ∷ ss) e = absurd (omega (arith, e))

none_passed : (flows : ℕ) (ss : List (List Waiting)) (ws : List Waiting) → ((j : ℕ) → last_rank (get_or ss j []) ≡ 0) → AllByRecursion (passed_by flows ss) ws → ws ≡ []
none_passed flows ss [] h p = refl
none_passed flows ss (w ∷ ws) h p = absurd (omega (arith, p.0, h (flow_of flows w.value)))

in_order-none : (n : ℕ) → in_order n [] ≡ []
in_order-none zero = refl
in_order-none (suc n) = ap (λ z. z ++ []) (in_order-none n)

pub nothing_waits : (ss : List (List Waiting)) (heads spilled : List (Reverse Waiting)) (pushed : ℕ) → IsBlock ss heads spilled pushed → length heads ≡ 0 → queue_in pushed ss (held spilled) ≡ []
unfolding queue_of
nothing_waits ss [] spilled pushed b e =
    let none = no_heads ss (sym (b.heads_are (λ _. 1))) in
    ap (λ z. map pair (in_order pushed (z ++ held spilled))) none.0 ∙ ap (λ z. map pair (in_order pushed z)) (none_passed (length ss) ss (held spilled) none.1 b.passed) ∙ ap (map pair) (in_order-none pushed)
nothing_waits ss (x ∷ heads) spilled pushed b e = absurd (omega (arith, e))

-- ---- the number of queued entries
length-pairs : (ws : List Waiting) → length (map pair ws) ≡ weight (λ _. 1) ws
length-pairs [] = refl
length-pairs (w ∷ ws) = omega (arith, length-pairs ws)

pub length-queue_in : (ss : List (List Waiting)) (heads spilled : List (Reverse Waiting)) (pushed : ℕ) → IsBlock ss heads spilled pushed → length (queue_in pushed ss (held spilled)) ≡ weight (λ _. 1) (all_of ss (held spilled))
unfolding queue_of
length-queue_in ss heads spilled pushed b = length-pairs (in_order pushed (all_of ss (held spilled))) ∙ weight-ordered (λ _. 1) pushed (all_of ss (held spilled)) b.numbered

-- ---- a queue without arrivals
nothing_in : (flows k : ℕ) (ss : List (List Waiting)) → AllByRecursion (λ (s : List Waiting). s ≡ []) ss → (waiting_in ss ≡ []) × (heads_of ss ≡ []) × IsStored flows k ss
nothing_in flows k [] h = (refl, refl, tt)
nothing_in flows k ([] ∷ ss) h = let ih = nothing_in flows (k + 1) ss h.1 in (ih.0, ih.1, (tt, tt, ih.2))
nothing_in flows k ((w ∷ s) ∷ ss) h = cc

pub new_is : (ss : List (List Waiting)) (heads spilled : List (Reverse Waiting)) → 1 ≤ length ss → AllByRecursion (λ (s : List Waiting). s ≡ []) ss → heads ≡ [] → spilled ≡ [] → IsHeap heap_order heads → IsHeap heap_order spilled → IsBlock ss heads spilled 0
new_is ss [] [] some h e d o q =
    let none = nothing_in (length ss) 0 ss h in
    record {
      some = some;
      numbered = λ n. omega (arith, ap (λ z. weight (came_as n) (z ++ [])) none.0);
      in_flows = none.2;
      heads_are = λ f. sym (ap (λ z. weight f z) none.1);
      passed = tt;
      heads_order = o;
      spilled_order = q;
    }
new_is ss (x ∷ heads) spilled some h e d o q = cc
new_is ss [] (x ∷ spilled) some h e d o q = cc

pub new_counted : (ss : List (List Waiting)) (spilled : List (Reverse Waiting)) → AllByRecursion (λ (s : List Waiting). s ≡ []) ss → spilled ≡ [] → IsCounted 0 0 ss (held spilled)
new_counted ss [] h e = record { all = ap (λ z. weight (λ _. 1) (z ++ [])) (nothing_in 0 0 ss h).0; few = omega arith }
new_counted ss (x ∷ spilled) h e = cc

pub queue_in-new : (ss : List (List Waiting)) (ws : List Waiting) → queue_in 0 ss ws ≡ []
unfolding queue_of
queue_in-new ss ws = refl

pub more_counted : (x : Waiting) (big small : List Waiting) (waiting pushed : ℕ) → ((f : Waiting → ℕ) → weight f big ≡ f x + weight f small) → weight (λ _. 1) small ≡ waiting → weight (λ _. 1) big ≡ waiting + 1
more_counted x big small waiting pushed more e = omega (arith, more (λ _. 1), e)
