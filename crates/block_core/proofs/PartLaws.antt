-- The stores as the code keeps them: reads and writes of one flow's store.
use Rattle.block_core.proofs.Prelude.{arith, ◌≡◌, sym, length, subst, ℕ, ◌∙◌, ap, [], refl, List, map, ◌+◌, ◌<◌, ◌∷◌, get_or, suc, set, zero, ◌++◌, ◌≤◌, take, length-map, map-set, get_or-map, AllByRecursion, HasSpare, IsPassed, rooms, last_rank, flow_of, Waiting}
use Rattle.std.specs.declared.collections.VecDeque.{VecDeque}

module _ {A : Type 0} (items : A → List Waiting) (stores : List A) where
  -- the store that was read
  pub store_at : (n flow : ℕ) (d : A) → n ≡ length stores → flow < n → d ≡ get_or stores flow d → get_or (map items stores) flow [] ≡ items d
  store_at n flow d e l is = get_or-map items stores flow d [] (omega (arith, e, l)) ∙ ap items (sym is)

  pub flow_at : (n flow value : ℕ) → n ≡ length stores → flow ≡ flow_of n value → flow_of (length (map items stores)) value ≡ flow
  flow_at n flow value e f = ap (λ z. flow_of z value) (length-map stores items ∙ sym e) ∙ sym f

  pub within : (n flow : ℕ) → n ≡ length stores → flow < n → flow < length (map items stores)
  within n flow e l = omega (arith, e, l, length-map stores items)

  pub passed_at : (n flow value : ℕ) (w : Waiting) (d : A) → w.value ≡ value → n ≡ length stores → flow ≡ flow_of n value → flow < n → d ≡ get_or stores flow d → w.rank < last_rank (items d) → IsPassed (map items stores) w
  passed_at n flow value w d v e f l is h =
      subst (λ z. w.rank < last_rank (get_or (map items stores) z [])) (sym (ap (λ z. flow_of (length (map items stores)) z) v ∙ flow_at n flow value e f)) (subst (λ z. w.rank < last_rank z) (sym (store_at n flow d e l is)) h)

  -- the store that is written
  pub stores-set : (flow : ℕ) (new : A) (s : List Waiting) → items new ≡ s → map items (set stores flow new) ≡ set (map items stores) flow s
  stores-set flow new s e = map-set items stores flow new ∙ ap (λ z. set (map items stores) flow z) e

-- ---- room
pub spare_less : (n m : ℕ) (rooms : List (ℕ × ℕ)) → m ≤ n → HasSpare n rooms → HasSpare m rooms
spare_less n m [] l h = tt
spare_less n m (r ∷ rooms) l h = (omega (arith, l, h.0), spare_less n m rooms l h.1)

spare_at : (n : ℕ) (rooms : List (ℕ × ℕ)) (j : ℕ) (d : ℕ × ℕ) → j < length rooms → HasSpare n rooms → (get_or rooms j d).0 + n ≤ (get_or rooms j d).1
spare_at n [] j d l h = absurd (omega (arith, l))
spare_at n (r ∷ rooms) zero d l h = h.0
spare_at n (r ∷ rooms) (suc j) d l h = spare_at n rooms j d (omega (arith, l)) h.1

spare_set : (n : ℕ) (rooms : List (ℕ × ℕ)) (j : ℕ) (r : ℕ × ℕ) → r.0 + n ≤ r.1 → HasSpare n rooms → HasSpare n (set rooms j r)
spare_set n [] j r l h = tt
spare_set n (q ∷ rooms) zero r l h = (l, h.1)
spare_set n (q ∷ rooms) (suc j) r l h = (h.0, spare_set n rooms j r l h.1)

module _ {A : Type 0} (room : A → ℕ × ℕ) (stores : List A) where
  pub room_at : (spare n flow : ℕ) (d : A) → n ≡ length stores → flow < n → d ≡ get_or stores flow d → HasSpare spare (map room stores) → (room d).0 + spare ≤ (room d).1
  room_at spare n flow d e l is h =
      let at : get_or (map room stores) flow (room d) ≡ room d = get_or-map room stores flow d (room d) (omega (arith, e, l)) ∙ ap room (sym is) in
      subst (λ (z : ℕ × ℕ). z.0 + spare ≤ z.1) at (spare_at spare (map room stores) flow (room d) (omega (arith, e, l, length-map stores room)) h)

  pub room_set : (spare less flow : ℕ) (new : A) → less ≤ spare → (room new).0 + less ≤ (room new).1 → HasSpare spare (map room stores) → HasSpare less (map room (set stores flow new))
  room_set spare less flow new l r h = subst (λ z. HasSpare less z) (sym (map-set room stores flow new)) (spare_set less (map room stores) flow (room new) r (spare_less spare less (map room stores) l h))

-- each store has room for its entries
pub no_room : {Z : Type 0} (stores : List (VecDeque Waiting Z)) → HasSpare 0 (rooms stores)
no_room [] = tt
no_room (s ∷ stores) = (omega (arith, s.small.1), no_room stores)

-- ---- the loop over the stores
pub room_done : (n : ℕ) (rooms : List (ℕ × ℕ)) (i : ℕ) (r : ℕ × ℕ) → HasSpare n (take i rooms) → i < length rooms → r.0 + n ≤ r.1 → HasSpare n (take (suc i) (set rooms i r))
room_done n [] i r h l f = absurd (omega (arith, l))
room_done n (q ∷ rooms) zero r h l f = (f, tt)
room_done n (q ∷ rooms) (suc i) r h l f = (h.0, room_done n rooms i r h.1 (omega (arith, l)) f)

-- one more store, which is still empty
pub one_more_empty : (ss : List (List Waiting)) → AllByRecursion (λ (s : List Waiting). s ≡ []) ss → AllByRecursion (λ (s : List Waiting). s ≡ []) (ss ++ [] ∷ [])
one_more_empty [] h = (refl, tt)
one_more_empty (s ∷ ss) h = (h.0, one_more_empty ss h.1)
