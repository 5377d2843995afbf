-- A queue in a run and a heap: after a push, and after a pop.
use Rattle.pifo_core.proofs.Prelude.{top_of, arith, ◌≡◌, ap, ◌∙◌, false, length, ◌<◌, ◌≤◌, [], refl, sym, true, Some, map, ◌∷◌, List, get_or, suc, ℕ, ◌+◌, inl, inr, ◌++◌, subst, eq-or-lt_of_le, nat_tests, All-from_recursion, recursion_from_All, IsDistinct-IsPermutation, AllByRecursion, IsPermutation, Reverse, put, take_least, held_of_both, IsHeaped, IsUpTo, TopIsFirst, arrived_together, leads, heap_order, held_of, leaving_order, queue_of, ArrivedBefore, InLeavingOrder, Leaves, wide, Held, take, drop, ◌-◌}
use Rattle.std.specs.List.{IsDistinct, slice_get}
use Rattle.std.proofs.lemmas.Option.{slice_get_within, get_or_from_slice_get}
use Rattle.std.proofs.Math.Seq.{take_all}
use Rattle.std.specs.Ordering.{is_lt}
use Rattle.std.specs.BinaryHeap.{IsHeap, IsUpperBound}
use Rattle.std.proofs.lemmas.List.{append-nil, map-append, length-append, length-drop, get_or-drop, drop_more}
use Rattle.std.proofs.lemmas.List.Sorted.{IsPermutation-refl, IsPermutation-sym, IsPermutation-trans, IsPermutation-middle, IsPermutation-append_right, IsPermutation-map, All-permutation}
use Rattle.pifo_core.specs.declared.held.Brief.{Brief}
use Rattle.pifo_core.proofs.HeldLaws.{taking, All-weaker, All-append, All-front, All-back, leave_before, InLeavingOrder-insert, queue_of-empty, queue_of-insert, queue_of-first, length-queue_of}
use Rattle.pifo_core.proofs.Exchanges.{queue_of-IsPermutation}

flips : (x y : Held) → arrived_together x y ≡ arrived_together y x
flips x y = grind (arith, nat_tests)

moved : (P : Held → Type 0) (xs ys : List Held) → IsPermutation xs ys → AllByRecursion P xs → AllByRecursion P ys
moved P xs ys p h = recursion_from_All P ys (All-permutation P xs ys p (All-from_recursion P xs h))

apart_from : (x : Held) (xs : List Held) → ArrivedBefore x.arrival xs → AllByRecursion (λ y. arrived_together x y ≡ false) xs
apart_from x [] h = tt
apart_from x (y ∷ xs) h = (grind (arith, nat_tests, h.0), apart_from x xs h.1)

later : (n : ℕ) (xs : List Held) → ArrivedBefore n xs → ArrivedBefore (n + 1) xs
later n [] h = tt
later n (y ∷ xs) h = (omega (arith, h.0), later n xs h.1)

-- an entry that arrives now, wherever it is stored
module _ (x : Held) (front back new : List Held) (apart : IsDistinct arrived_together (front ++ back)) (earlier : ArrivedBefore x.arrival (front ++ back)) (p : IsPermutation (front ++ x ∷ back) new) where
  between : IsPermutation (x ∷ (front ++ back)) (front ++ x ∷ back)
  between = IsPermutation-sym (front ++ x ∷ back) (x ∷ (front ++ back)) (IsPermutation-middle front x back)

  distinct : IsDistinct arrived_together (front ++ x ∷ back)
  unfolding IsDistinct
  distinct = IsDistinct-IsPermutation arrived_together flips (x ∷ (front ++ back)) (front ++ x ∷ back) between (apart_from x (front ++ back) earlier, apart)

  pub queue_of-arrived : queue_of new ≡ put (queue_of (front ++ back)) x.rank x.value
  queue_of-arrived = queue_of-IsPermutation (front ++ x ∷ back) new p distinct ∙ queue_of-insert x front back earlier

  pub apart-arrived : IsDistinct arrived_together new
  apart-arrived = IsDistinct-IsPermutation arrived_together flips (front ++ x ∷ back) new p distinct

  pub earlier-arrived : ArrivedBefore (x.arrival + 1) new
  earlier-arrived =
      moved (λ (e : Held). e.arrival < x.arrival + 1) (x ∷ (front ++ back)) new
      (IsPermutation-trans (x ∷ (front ++ back)) (front ++ x ∷ back) new between p) (omega arith, later x.arrival (front ++ back) earlier)

behind_all : (run : List Brief) (b : Brief) (rest : List Held) → map wide (run ++ b ∷ []) ++ rest ≡ map wide run ++ wide b ∷ rest
behind_all [] b rest = refl
behind_all (e ∷ run) b rest = ap (λ l. wide e ∷ l) (behind_all run b rest)

behind : (run : List Brief) (b : Brief) → map wide (run ++ b ∷ []) ≡ map wide run ++ wide b ∷ []
behind run b = map-append wide run (b ∷ [])

-- no rank in the run is above that of an entry appended to it
pub IsUpTo-followed : (b : Brief) (run : List Brief) → IsUpTo b.rank run → IsUpTo b.rank (run ++ b ∷ [])
IsUpTo-followed b run before = rw (behind run b) (All-append (λ (e : Held). e.rank ≤ b.rank) (map wide run) (wide b ∷ []) before (omega arith, tt))

-- an entry that arrives now, appended to the run
module _ (b : Brief) (run : List Brief) (items : List (Reverse Held)) (kept : IsHeaped run items b.arrival) (before : IsUpTo b.rank run) where
  joined_behind : IsPermutation (map wide run ++ wide b ∷ held_of items) (held_of_both (run ++ b ∷ []) items)
  joined_behind = rw (behind_all run b (held_of items)) (IsPermutation-refl _)

  queue_of-behind : queue_of (held_of_both (run ++ b ∷ []) items) ≡ put (queue_of (held_of_both run items)) b.rank b.value
  queue_of-behind = queue_of-arrived (wide b) (map wide run) (held_of items) (held_of_both (run ++ b ∷ []) items) kept.apart kept.earlier joined_behind

  IsHeaped-behind : IsHeaped (run ++ b ∷ []) items (b.arrival + 1)
  IsHeaped-behind =
      let first : AllByRecursion (λ (e : Held). e.arrival < b.arrival) (map wide run) = All-front _ (map wide run) (held_of items) kept.earlier in
      record {
        in_order = rw (behind run b) (InLeavingOrder-insert (wide b) (map wide run) [] (rw append-nil kept.in_order) (leave_before (wide b) (map wide run) first before) tt);
        in_heap = kept.in_heap;
        apart = apart-arrived (wide b) (map wide run) (held_of items) (held_of_both (run ++ b ∷ []) items) kept.apart kept.earlier joined_behind;
        earlier = earlier-arrived (wide b) (map wide run) (held_of items) (held_of_both (run ++ b ∷ []) items) kept.apart kept.earlier joined_behind;
      }

module _ (x : Held) (b : Brief) (same : wide b ≡ x) (run : List Brief) (items : List (Reverse Held)) (kept : IsHeaped run items x.arrival) (before : IsUpTo x.rank run) where
  pub queue_of-followed : queue_of (held_of_both (run ++ b ∷ []) items) ≡ put (queue_of (held_of_both run items)) x.rank x.value
  queue_of-followed =
      subst (λ (z : Held). IsHeaped run items z.arrival → IsUpTo z.rank run → queue_of (held_of_both (run ++ b ∷ []) items) ≡ put (queue_of (held_of_both run items)) z.rank z.value)
      same (queue_of-behind b run items) kept before

  pub IsHeaped-followed : IsHeaped (run ++ b ∷ []) items (x.arrival + 1)
  IsHeaped-followed =
      subst (λ (z : Held). IsHeaped run items z.arrival → IsUpTo z.rank run → IsHeaped (run ++ b ∷ []) items (z.arrival + 1))
      same (IsHeaped-behind b run items) kept before

-- an entry that arrives now, added to the heap
module _ (x : Reverse Held) (run : List Brief) (items new : List (Reverse Held)) (kept : IsHeaped run items x.0.arrival) (p : IsPermutation (x ∷ items) new) where
  joined : IsPermutation (map wide run ++ x.0 ∷ held_of items) (held_of_both run new)
  joined = IsPermutation-append_right (map wide run) (x.0 ∷ held_of items) (held_of new) (IsPermutation-map (λ (r : Reverse Held). r.0) (x ∷ items) new p)

  pub queue_of-pushed : queue_of (held_of_both run new) ≡ put (queue_of (held_of_both run items)) x.0.rank x.0.value
  queue_of-pushed = queue_of-arrived x.0 (map wide run) (held_of items) (held_of_both run new) kept.apart kept.earlier joined

  pub IsHeaped-pushed : IsHeap heap_order new → IsHeaped run new (x.0.arrival + 1)
  IsHeaped-pushed ordered = record {
    in_order = kept.in_order;
    in_heap = ordered;
    apart = apart-arrived x.0 (map wide run) (held_of items) (held_of_both run new) kept.apart kept.earlier joined;
    earlier = earlier-arrived x.0 (map wide run) (held_of items) (held_of_both run new) kept.apart kept.earlier joined;
  }

-- no entry of a heap is dequeued before the one on top
leaves : (x y : Held) → is_lt (leaving_order y x) ≡ false → arrived_together x y ≡ false → Leaves x y
leaves x y upper other =
    let low : x.rank ≤ y.rank = grind (arith, nat_tests, upper) in
    elim (eq-or-lt_of_le low) [
      | inl same ↦ inr (same, grind (arith, nat_tests, upper, other, same))
      | inr less ↦ inl less
    ]

leaves_first : (x y : Held) → is_lt (leaving_order x y) ≡ true → arrived_together x y ≡ false → Leaves x y
leaves_first x y lower other =
    let low : x.rank ≤ y.rank = grind (arith, nat_tests, lower) in
    elim (eq-or-lt_of_le low) [
      | inl same ↦ inr (same, grind (arith, nat_tests, lower, other, same))
      | inr less ↦ inl less
    ]

Leaves-trans : (x y z : Held) → Leaves x y → Leaves y z → Leaves x z
Leaves-trans x y z (inl h) (inl k) = inl (omega (arith, h, k))
Leaves-trans x y z (inl h) (inr k) = inl (omega (arith, h, k.0))
Leaves-trans x y z (inr h) (inl k) = inl (omega (arith, h.0, k))
Leaves-trans x y z (inr h) (inr k) = inr (h.0 ∙ k.0, omega (arith, h.1, k.1))

-- an entry dequeued before the top is dequeued before each entry that is not before the top
leaves_too : (x top z : Held) → Leaves x top → is_lt (leaving_order z top) ≡ false → Leaves x z
leaves_too x top z (inl h) upper = inl (grind (arith, nat_tests, h, upper))
leaves_too x top z (inr h) upper =
    let low : top.rank ≤ z.rank = grind (arith, nat_tests, upper) in
    elim (eq-or-lt_of_le low) [
      | inl same ↦ inr (h.0 ∙ same, grind (arith, nat_tests, upper, h.1, same))
      | inr less ↦ inl (omega (arith, h.0, less))
    ]

leave_too : (x : Held) (top : Reverse Held) (items : List (Reverse Held)) → Leaves x top.0 → IsUpperBound heap_order top items → AllByRecursion (Leaves x) (held_of items)
leave_too x top [] h upper = tt
leave_too x top (z ∷ items) h upper = (leaves_too x top.0 z.0 h upper.0, leave_too x top items h upper.1)

all_leave : (x : Reverse Held) (items : List (Reverse Held)) → IsUpperBound heap_order x items → AllByRecursion (λ y. arrived_together x.0 y ≡ false) (held_of items) → AllByRecursion (Leaves x.0) (held_of items)
all_leave x [] upper apart = tt
all_leave x (y ∷ items) upper apart = (leaves x.0 y.0 upper.0 apart.0, all_leave x items upper.1 apart.1)

-- if the first of the run leads, it is dequeued before every entry of the heap
heap_behind : (b : Brief) (run : List Brief) (items : List (Reverse Held)) → leads (b ∷ run) items ≡ true → TopIsFirst items → AllByRecursion (λ y. arrived_together (wide b) y ≡ false) (held_of items) → AllByRecursion (Leaves (wide b)) (held_of items)
heap_behind b run [] first top apart = tt
heap_behind b run (t ∷ items) first top apart = leave_too (wide b) t (t ∷ items) (leaves_first (wide b) t.0 first apart.0) top

module _ (b : Brief) (run : List Brief) (items : List (Reverse Held)) (n : ℕ) (kept : IsHeaped (b ∷ run) items n) where
  pub queue_of-led : leads (b ∷ run) items ≡ true → TopIsFirst items → take_least (queue_of (held_of_both (b ∷ run) items)) ≡ Some (taking (wide b) (queue_of (held_of_both run items)))
  unfolding IsDistinct
  queue_of-led first top =
      let others : AllByRecursion (λ y. arrived_together (wide b) y ≡ false) (held_of items) = All-back _ (map wide run) (held_of items) kept.apart.0 in
      queue_of-first (wide b) (held_of_both run items) (All-append (Leaves (wide b)) (map wide run) (held_of items) kept.in_order.0 (heap_behind b run items first top others))

  pub IsHeaped-led : IsHeaped run items n
  unfolding IsDistinct
  IsHeaped-led = record { in_order = kept.in_order.1; in_heap = kept.in_heap; apart = kept.apart.1; earlier = kept.earlier.1 }

-- if the first of the run doesn't lead, the top is dequeued before every entry of the run
run_behind : (run : List Brief) (t : Reverse Held) (items : List (Reverse Held)) → leads run (t ∷ items) ≡ false → InLeavingOrder (map wide run) → AllByRecursion (λ y. arrived_together t.0 y ≡ false) (map wide run) → AllByRecursion (Leaves t.0) (map wide run)
run_behind [] t items behind_top ordered apart = tt
run_behind (b ∷ run) t items behind_top ordered apart =
    let first : Leaves t.0 (wide b) = leaves t.0 (wide b) behind_top apart.0 in
    (first, All-weaker (Leaves (wide b)) (Leaves t.0) (λ z h. Leaves-trans t.0 (wide b) z first h) (map wide run) ordered.0)

run_behind_top : (run : List Brief) (x : Reverse Held) (items : List (Reverse Held)) → leads run items ≡ false → 0 < length items → x ≡ get_or items 0 x → InLeavingOrder (map wide run) → AllByRecursion (λ y. arrived_together x.0 y ≡ false) (map wide run) → AllByRecursion (Leaves x.0) (map wide run)
run_behind_top run x [] behind_top some top ordered apart = absurd (omega (arith, some))
run_behind_top run x (t ∷ items) behind_top some top ordered apart = run_behind run x items (rw top behind_top) ordered apart

module _ (x : Reverse Held) (run : List Brief) (items new : List (Reverse Held)) (n : ℕ) (kept : IsHeaped run items n) (p : IsPermutation items (x ∷ new)) where
  parted : IsPermutation (held_of_both run items) (x.0 ∷ held_of_both run new)
  parted =
      IsPermutation-trans (held_of_both run items) (map wide run ++ x.0 ∷ held_of new) (x.0 ∷ held_of_both run new)
      (IsPermutation-append_right (map wide run) (held_of items) (x.0 ∷ held_of new) (IsPermutation-map (λ (r : Reverse Held). r.0) items (x ∷ new) p))
      (IsPermutation-middle (map wide run) x.0 (held_of new))

  distinct_after : IsDistinct arrived_together (x.0 ∷ held_of_both run new)
  distinct_after = IsDistinct-IsPermutation arrived_together flips (held_of_both run items) (x.0 ∷ held_of_both run new) parted kept.apart

  pub queue_of-popped : leads run items ≡ false → 0 < length items → x ≡ get_or items 0 x → IsUpperBound heap_order x new → take_least (queue_of (held_of_both run items)) ≡ Some (taking x.0 (queue_of (held_of_both run new)))
  unfolding IsDistinct
  queue_of-popped behind_top some top upper =
      let all : AllByRecursion (Leaves x.0) (held_of_both run new) =
      All-append (Leaves x.0) (map wide run) (held_of new)
      (run_behind_top run x items behind_top some top kept.in_order (All-front _ (map wide run) (held_of new) distinct_after.0))
      (all_leave x new upper (All-back _ (map wide run) (held_of new) distinct_after.0)) in
      ap take_least (sym (queue_of-IsPermutation (held_of_both run items) (x.0 ∷ held_of_both run new) parted kept.apart))
      ∙ queue_of-first x.0 (held_of_both run new) all

  pub IsHeaped-popped : IsHeap heap_order new → IsHeaped run new n
  unfolding IsDistinct
  IsHeaped-popped ordered =
      let all : ArrivedBefore n (x.0 ∷ held_of_both run new) = moved (λ (e : Held). e.arrival < n) (held_of_both run items) (x.0 ∷ held_of_both run new) parted kept.earlier in
      record { in_order = kept.in_order; in_heap = ordered; apart = distinct_after.1; earlier = all.1 }

pub IsHeaped-empty : (run : List Brief) (items : List (Reverse Held)) → run ≡ [] → items ≡ [] → IsHeap heap_order items → IsHeaped run items 0
unfolding IsDistinct
IsHeaped-empty [] [] no_run none ordered = record { in_order = tt; in_heap = ordered; apart = tt; earlier = tt }
IsHeaped-empty [] (x ∷ items) no_run none ordered = cc
IsHeaped-empty (b ∷ run) items no_run none ordered = cc

-- the entry that stands first is the one on top
pub top-is : (items : List (Reverse Held)) (x : Reverse Held) → 0 < length items → x ≡ get_or items 0 x → x ≡ top_of items
top-is [] x some is = absurd (omega (arith, some))
top-is (y ∷ items) x some is = is

pub first-is : (items : List (Reverse Held)) → 0 < length items → top_of items ≡ get_or items 0 (top_of items)
first-is [] some = absurd (omega (arith, some))
first-is (y ∷ items) some = refl

-- if the run doesn't lead and the heap is empty, the queue is empty
pub queue_of-neither : (run : List Brief) (items : List (Reverse Held)) → leads run items ≡ false → length items ≡ 0 → queue_of (held_of_both run items) ≡ []
queue_of-neither [] [] behind_top none = queue_of-empty
queue_of-neither (b ∷ run) [] behind_top none = cc
queue_of-neither run (x ∷ items) behind_top none = absurd (omega (arith, none))

length-held_of : (items : List (Reverse Held)) → length (held_of items) ≡ length items
length-held_of [] = refl
length-held_of (x ∷ items) = ap suc (length-held_of items)

length-wide : (run : List Brief) → length (map wide run) ≡ length run
length-wide [] = refl
length-wide (b ∷ run) = ap suc (length-wide run)

pub length-queue_of_both : (run : List Brief) (items : List (Reverse Held)) → length (queue_of (held_of_both run items)) ≡ length run + length items
length-queue_of_both run items =
    length-queue_of (held_of_both run items) ∙ length-append (map wide run) (held_of items) ∙ omega (arith, length-wide run, length-held_of items)

-- the entries of the run from `head` on
pub from_on : (run : List Brief) (head : ℕ) → take (length run - head) (drop head run) ≡ drop head run
from_on run head = let long = length-drop head run in take_all (length run - head) (drop head run) (omega (arith, long))

pub first_on : (run : List Brief) (head : ℕ) (b : Brief) → slice_get (take (length run - head) (drop head run)) 0 ≡ Some b → drop head run ≡ b ∷ drop (head + 1) run
first_on run head b h =
    let at : slice_get (drop head run) 0 ≡ Some b = ap (λ (l : List Brief). slice_get l 0) (sym (from_on run head)) ∙ h in
    let some : 0 < length (drop head run) = slice_get_within (drop head run) 0 b at in
    let long = length-drop head run in
    let is : get_or run head b ≡ b = ap (λ k. get_or run k b) (omega arith) ∙ sym (get_or-drop head run 0 b) ∙ get_or_from_slice_get (drop head run) 0 b b at in
    drop_more run head b (omega (arith, some, long)) ∙ ap (λ x. x ∷ drop (head + 1) run) is
