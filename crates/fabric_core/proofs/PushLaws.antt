-- A push in the array is a push of the family of its queues, and takes a free slot at each node on
-- its path.
use Rattle.fabric_core.proofs.Prelude.{ℕ, arith, ◌≡◌, List, ◌+◌, [], length, sym, ap, get_or, ◌∙◌, subst, ◌<◌, ◌∷◌, ◌*◌, ◌≤◌, refl, drop, set, inl, inr, suc, eqb, get_or-set_other, zero, get_or-set_same, length-set, ◌≢◌, ◌-◌, cases_Bool, eqb-false, eqb-true, cases_lt, eq-eqb, ne_eqb, same_from_place, slice_index, if◌then◌else◌, nat_eq, fun_ext, Address, IsLeafAddress, Family, below, push_along, less_room_along, Queue, put, nodes, queues_at, room_at, array_push, read}
use Rattle.fabric_core.proofs.ArrayReads.{read-below, read-outside, read-same, child_place, next_nodes, place_within}

pub push_along-same : (x : ℕ) (a : Address) (ranks : List ℕ) (item : ℕ) (F : Family) (b : Address) → push_along (x ∷ a) ranks item F (x ∷ b) ≡ push_along a (drop 1 ranks) item (below F x) b
push_along-same x a ranks item F b = rw (eq-eqb x x refl) refl

pub push_along-other : (x y : ℕ) (a : Address) (ranks : List ℕ) (item : ℕ) (F : Family) (b : Address) → x ≢ y → push_along (x ∷ a) ranks item F (y ∷ b) ≡ F (y ∷ b)
push_along-other x y a ranks item F b n = rw (ne_eqb x y n) refl

-- ---- a change at each node on the path to an address, which depends on the level
module _ {A : Type 0} where
  -- in the item at each address
  abbrev pub changed_along : Address → (ℕ → A → A) → (Address → A) → Address → A
  changed_along [] f F [] = f 0 (F [])
  changed_along [] f F (y ∷ b) = F (y ∷ b)
  changed_along (x ∷ a) f F [] = f 0 (F [])
  changed_along (x ∷ a) f F (y ∷ b) = if nat_eq x y then changed_along a (λ n. f (suc n)) (λ c. F (x ∷ c)) b else F (y ∷ b)

  abbrev pub change_at : A → (A → A) → List A → ℕ → List A
  change_at none f items n = set items n (f (get_or items n none))

  -- in the array
  abbrev pub array_change : List ℕ → A → (ℕ → A → A) → List A → ℕ → ℕ → ℕ → Address → List A
  array_change [] none f items begin width place a = change_at none (f 0) items (begin + place)
  array_change (d ∷ ar) none f items begin width place [] = items
  array_change (d ∷ ar) none f items begin width place (x ∷ a) = array_change ar none (λ n. f (suc n)) (change_at none (f 0) items (begin + place)) (begin + width) (width * d) (place * d + x) a

  changed_along-same : (x : ℕ) (a : Address) (f : ℕ → A → A) (F : Address → A) (b : Address) → changed_along (x ∷ a) f F (x ∷ b) ≡ changed_along a (λ n. f (suc n)) (λ c. F (x ∷ c)) b
  changed_along-same x a f F b = rw (eq-eqb x x refl) refl

  changed_along-other : (x y : ℕ) (a : Address) (f : ℕ → A → A) (F : Address → A) (b : Address) → x ≢ y → changed_along (x ∷ a) f F (y ∷ b) ≡ F (y ∷ b)
  changed_along-other x y a f F b n = rw (ne_eqb x y n) refl

  length-change_at : (none : A) (f : A → A) (items : List A) (n : ℕ) → length (change_at none f items n) ≡ length items
  length-change_at none f items n = length-set items n (f (get_or items n none))

  change_at-other : (none : A) (f : A → A) (items : List A) (n j : ℕ) → j ≢ n → get_or (change_at none f items n) j none ≡ get_or items j none
  change_at-other none f items n j e = get_or-set_other items n j (f (get_or items n none)) none e

  length-change : (ar : List ℕ) (none : A) (f : ℕ → A → A) (items : List A) (begin width place : ℕ) (a : Address) → length (array_change ar none f items begin width place a) ≡ length items
  length-change [] none f items begin width place a = length-change_at none (f 0) items (begin + place)
  length-change (d ∷ ar) none f items begin width place [] = refl
  length-change (d ∷ ar) none f items begin width place (x ∷ a) =
      length-change ar none (λ n. f (suc n)) (change_at none (f 0) items (begin + place)) (begin + width) (width * d) (place * d + x) a ∙ length-change_at none (f 0) items (begin + place)

  -- items before the level are unchanged
  change-before : (ar : List ℕ) (none : A) (f : ℕ → A → A) (items : List A) (begin width place : ℕ) (a : Address) (j : ℕ) → j < begin
      → get_or (array_change ar none f items begin width place a) j none ≡ get_or items j none
  change-before [] none f items begin width place a j l = change_at-other none (f 0) items (begin + place) j (omega arith)
  change-before (d ∷ ar) none f items begin width place [] j l = refl
  change-before (d ∷ ar) none f items begin width place (x ∷ a) j l =
      change-before ar none (λ n. f (suc n)) (change_at none (f 0) items (begin + place)) (begin + width) (width * d) (place * d + x) a j (omega arith)
      ∙ change_at-other none (f 0) items (begin + place) j (omega arith)

  -- items below another node of the level are unchanged
  change-beside : (ar : List ℕ) (none : A) (f : ℕ → A → A) (items : List A) (begin width p q : ℕ) (a : Address) (b : Address) → p < width → q < width → p ≢ q → IsLeafAddress ar a
      → read ar (array_change ar none f items begin width p a) none begin width q b ≡ read ar items none begin width q b
  change-beside [] none f items begin width p q [] [] l m n h = change_at-other none (f 0) items (begin + p) (begin + q) (λ e. n (omega (arith, e)))
  change-beside [] none f items begin width p q [] (y ∷ b) l m n h = refl
  change-beside [] none f items begin width p q (x ∷ a) b l m n h = absurd h
  change-beside (d ∷ ar) none f items begin width p q [] b l m n h = absurd h
  change-beside (d ∷ ar) none f items begin width p q (x ∷ a) [] l m n h =
      change-before ar none (λ n. f (suc n)) (change_at none (f 0) items (begin + p)) (begin + width) (width * d) (p * d + x) a (begin + q) (omega arith)
      ∙ change_at-other none (f 0) items (begin + p) (begin + q) (λ e. n (omega (arith, e)))
  change-beside (d ∷ ar) none f items begin width p q (x ∷ a) (y ∷ b) l m n h =
      let here : List A = change_at none (f 0) items (begin + p) in
      let after : List A = array_change ar none (λ n. f (suc n)) (change_at none (f 0) items (begin + p)) (begin + width) (width * d) (p * d + x) a in
      elim (cases_lt y d) [
        | inl t ↦
            read-below ar after none d begin width q y b t
            ∙ change-beside ar none (λ n. f (suc n)) here (begin + width) (width * d) (p * d + x) (q * d + y) a b
            (child_place p d x width l h.0) (child_place q d y width m t) (λ e. n ((same_from_place p x q y d h.0 t e).0)) h.1
            ∙ read-same ar here items none (begin + width) (width * d) (q * d + y) b (λ j k. change_at-other none (f 0) items (begin + p) j (omega arith))
            ∙ sym (read-below ar items none d begin width q y b t)
        | inr t ↦ read-outside ar after none d begin width q y b t ∙ sym (read-outside ar items none d begin width q y b t)
      ]

  -- items below another child are unchanged
  beside_child : (ar : List ℕ) (none : A) (f : ℕ → A → A) (items : List A) (d begin width place x y : ℕ) (a : Address) (b : Address) → place < width → IsLeafAddress (d ∷ ar) (x ∷ a) → y < d → x ≢ y
      → read ar (array_change ar none f items begin (width * d) (place * d + x) a) none begin (width * d) (place * d + y) b ≡ read ar items none begin (width * d) (place * d + y) b
  beside_child ar none f items d begin width place x y a b l h k n =
      change-beside ar none f items begin (width * d) (place * d + x) (place * d + y) a b (child_place place d x width l h.0) (child_place place d y width l k) (λ e. n (omega (arith, e))) h.1

  pub array_change-along : (ar : List ℕ) (none : A) (f : ℕ → A → A) (items : List A) (begin width place : ℕ) (a : Address) (b : Address) → place < width → begin + width * nodes ar ≤ length items → IsLeafAddress ar a
      → read ar (array_change ar none f items begin width place a) none begin width place b ≡ changed_along a f (read ar items none begin width place) b
  array_change-along [] none f items begin width place [] [] l m h = get_or-set_same items (begin + place) (f 0 (get_or items (begin + place) none)) none (place_within [] begin width place (length items) l m)
  array_change-along [] none f items begin width place [] (y ∷ b) l m h = refl
  array_change-along [] none f items begin width place (x ∷ a) b l m h = absurd h
  array_change-along (d ∷ ar) none f items begin width place [] b l m h = absurd h
  array_change-along (d ∷ ar) none f items begin width place (x ∷ a) [] l m h =
      change-before ar none (λ n. f (suc n)) (change_at none (f 0) items (begin + place)) (begin + width) (width * d) (place * d + x) a (begin + place) (omega arith)
      ∙ get_or-set_same items (begin + place) (f 0 (get_or items (begin + place) none)) none (place_within (d ∷ ar) begin width place (length items) l m)
  array_change-along (d ∷ ar) none f items begin width place (x ∷ a) (y ∷ b) l m h =
      let here : List A = change_at none (f 0) items (begin + place) in
      let after : List A = array_change ar none (λ n. f (suc n)) (change_at none (f 0) items (begin + place)) (begin + width) (width * d) (place * d + x) a in
      let untouched : (z : ℕ) (c : Address) → read ar (change_at none (f 0) items (begin + place)) none (begin + width) (width * d) (place * d + z) c ≡ read ar items none (begin + width) (width * d) (place * d + z) c
      = λ z c. read-same ar (change_at none (f 0) items (begin + place)) items none (begin + width) (width * d) (place * d + z) c (λ j k. change_at-other none (f 0) items (begin + place) j (omega arith)) in
      elim (cases_Bool (eqb x y)) [
        | inl t ↦ subst (λ (z : ℕ). read (d ∷ ar) (array_change (d ∷ ar) none f items begin width place (x ∷ a)) none begin width place (z ∷ b) ≡ changed_along (x ∷ a) f (read (d ∷ ar) items none begin width place) (z ∷ b)) (eqb-true x y t) (
            read-below ar after none d begin width place x b h.0
            ∙ array_change-along ar none (λ n. f (suc n)) here (begin + width) (width * d) (place * d + x) a b (child_place place d x width l h.0)
            (omega (arith, m, length-change_at none (f 0) items (begin + place), next_nodes ar d begin width)) h.1
            ∙ ap (λ (G : Address → A). changed_along a (λ n. f (suc n)) G b) (fun_ext (λ c. untouched x c ∙ sym (read-below ar items none d begin width place x c h.0)))
            ∙ sym (changed_along-same x a f (read (d ∷ ar) items none begin width place) b))
        | inr t ↦ elim (cases_lt y d) [
          | inl k ↦
              read-below ar after none d begin width place y b k
              ∙ beside_child ar none (λ n. f (suc n)) here d (begin + width) width place x y a b l h k (eqb-false x y t)
              ∙ untouched y b ∙ sym (read-below ar items none d begin width place y b k)
              ∙ sym (changed_along-other x y a f (read (d ∷ ar) items none begin width place) b (eqb-false x y t))
          | inr k ↦
              read-outside ar after none d begin width place y b k
              ∙ sym (read-outside ar items none d begin width place y b k)
              ∙ sym (changed_along-other x y a f (read (d ∷ ar) items none begin width place) b (eqb-false x y t))
        ]
      ]

-- ---- a push puts a pair at each node
abbrev put_along : Address → List ℕ → ℕ → ℕ → Queue → Queue
put_along [] ranks item n q = put q (slice_index ranks 0) item
put_along (x ∷ a) ranks item zero q = put q (slice_index ranks 0) x
put_along (x ∷ a) ranks item (suc n) q = put_along a (drop 1 ranks) item n q

push_is_change : (a : Address) (ranks : List ℕ) (item : ℕ) (F : Family) (b : Address) → push_along a ranks item F b ≡ changed_along a (put_along a ranks item) F b
push_is_change [] ranks item F [] = refl
push_is_change [] ranks item F (y ∷ b) = refl
push_is_change (x ∷ a) ranks item F [] = refl
push_is_change (x ∷ a) ranks item F (y ∷ b) = ap (λ (q : Queue). if nat_eq x y then q else F (y ∷ b)) (push_is_change a (drop 1 ranks) item (below F x) b)

array_push_is_change : (ar : List ℕ) (qs : List Queue) (begin width place : ℕ) (a : Address) (ranks : List ℕ) (item : ℕ) → IsLeafAddress ar a
    → array_push ar qs begin width place a ranks item ≡ array_change ar [] (put_along a ranks item) qs begin width place a
array_push_is_change [] qs begin width place [] ranks item h = refl
array_push_is_change [] qs begin width place (x ∷ a) ranks item h = absurd h
array_push_is_change (d ∷ ar) qs begin width place [] ranks item h = absurd h
array_push_is_change (d ∷ ar) qs begin width place (x ∷ a) ranks item h =
    array_push_is_change ar (change_at [] (λ q. put q (slice_index ranks 0) x) qs (begin + place)) (begin + width) (width * d) (place * d + x) a (drop 1 ranks) item h.1

pub length-array_push : (ar : List ℕ) (qs : List Queue) (begin width place : ℕ) (a : Address) (ranks : List ℕ) (item : ℕ) → IsLeafAddress ar a → length (array_push ar qs begin width place a ranks item) ≡ length qs
length-array_push ar qs begin width place a ranks item h =
    ap (λ (z : List Queue). length z) (array_push_is_change ar qs begin width place a ranks item h) ∙ length-change ar [] (put_along a ranks item) qs begin width place a

pub array_push-along : (ar : List ℕ) (qs : List Queue) (begin width place : ℕ) (a : Address) (ranks : List ℕ) (item : ℕ) (b : Address) → place < width → begin + width * nodes ar ≤ length qs → IsLeafAddress ar a
    → queues_at ar (array_push ar qs begin width place a ranks item) begin width place b ≡ push_along a ranks item (queues_at ar qs begin width place) b
array_push-along ar qs begin width place a ranks item b l m h =
    ap (λ (z : List Queue). queues_at ar z begin width place b) (array_push_is_change ar qs begin width place a ranks item h)
    ∙ array_change-along ar [] (put_along a ranks item) qs begin width place a b l m h
    ∙ sym (push_is_change a ranks item (queues_at ar qs begin width place) b)

-- ---- and takes a free slot there
abbrev pub one_fewer : ℕ → ℕ → ℕ
one_fewer level n = n - 1

abbrev pub array_take : List ℕ → List ℕ → ℕ → ℕ → ℕ → Address → List ℕ
array_take ar spare = array_change ar 0 one_fewer spare

taking_is_change : (a : Address) (room : Address → ℕ) (b : Address) → less_room_along a room b ≡ changed_along a one_fewer room b
taking_is_change [] room [] = refl
taking_is_change [] room (y ∷ b) = refl
taking_is_change (x ∷ a) room [] = refl
taking_is_change (x ∷ a) room (y ∷ b) = ap (λ (n : ℕ). if nat_eq x y then n else room (y ∷ b)) (taking_is_change a (λ c. room (x ∷ c)) b)

pub array_take-along : (ar : List ℕ) (spare : List ℕ) (begin width place : ℕ) (a : Address) (b : Address) → place < width → begin + width * nodes ar ≤ length spare → IsLeafAddress ar a
    → room_at ar (array_take ar spare begin width place a) begin width place b ≡ less_room_along a (room_at ar spare begin width place) b
array_take-along ar spare begin width place a b l m h =
    array_change-along ar 0 one_fewer spare begin width place a b l m h ∙ sym (taking_is_change a (room_at ar spare begin width place) b)
