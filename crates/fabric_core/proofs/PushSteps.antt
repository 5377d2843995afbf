-- The loop of a push.
use Rattle.fabric_core.proofs.Prelude.{ℕ, arith, ◌≡◌, List, ◌+◌, [], length, sym, ap, get_or, ◌∙◌, subst, ◌<◌, ◌∷◌, ◌*◌, ◌≤◌, map, refl, drop, set, get_or-set_other, length-set, ◌^◌, drop_more, drop_all, get_or-drop, AllByRecursion, fun_ext, Address, IsLeafAddress, HasRoomAlong, Queue, put, nodes, room_at, array_push, put_at, Ghosts}
use Rattle.fabric_core.proofs.ArrayReads.{read-below, read-same}
use Rattle.fabric_core.proofs.ChildSteps.{first_level}
use Rattle.fabric_core.proofs.LevelWalks.{IsAt, at_index, at_child, leaf_length, digit_below}
use Rattle.fabric_core.proofs.ArrayUpdates.{entries-put, spare-at, pushes-at, pushes-set, spare-set, bound-at, bound-set, bound-more}

-- the rest of the push, from the node reached, is the whole push
pub record IsPushing {Q : Type 0} (node : Ghosts Q) (arities digits ranks : List ℕ) (item : ℕ) (old now : List Q) (level begin width place : ℕ) : Type 0 where
  pub here : IsAt arities (length now) level begin width place
  pub count : length now ≡ length old
  pub room : HasRoomAlong (room_at (drop level arities) (map node.spare now) begin width place) (drop level digits)
  pub pushing : array_push (drop level arities) (map node.entries now) begin width place (drop level digits) (drop level ranks) item ≡ array_push arities (map node.entries old) 0 1 0 digits ranks item
  pub few : (j : ℕ) → begin ≤ j → get_or (map node.pushes now) j 0 < 2 ^ 62
  pub before : (n : ℕ) → AllByRecursion (λ k. k ≤ n) (map node.pushes old) → AllByRecursion (λ k. k ≤ n + 1) (map node.pushes now)
  pub behind : (n : ℕ) → AllByRecursion (λ k. k ≤ n) (map node.pushes old) → (j : ℕ) → begin ≤ j → get_or (map node.pushes now) j 0 ≤ n

-- room below a child is unchanged by a change to a queue before its level
pub room_below : (d : ℕ) (ar : List ℕ) (spare : List ℕ) (begin width place n k x : ℕ) (a : Address) → n < begin + width → x < d
    → HasRoomAlong (room_at (d ∷ ar) spare begin width place) (x ∷ a) → HasRoomAlong (room_at ar (set spare n k) (begin + width) (width * d) (place * d + x)) a
room_below d ar spare begin width place n k x a l m h =
    subst (λ (f : Address → ℕ). HasRoomAlong f a)
    (fun_ext (λ b. read-below ar spare 0 d begin width place x b m ∙ sym (read-same ar (set spare n k) spare 0 (begin + width) (width * d) (place * d + x) b (λ j i. get_or-set_other spare n j k 0 (omega arith)))))
    h.1

-- there is room at the node reached
pub room_here : (ar : List ℕ) (spare : List ℕ) (begin width place : ℕ) (a : Address) → HasRoomAlong (room_at ar spare begin width place) a → 0 < get_or spare (begin + place) 0
room_here [] spare begin width place [] h = h
room_here [] spare begin width place (x ∷ a) h = h.0
room_here (d ∷ ar) spare begin width place [] h = h
room_here (d ∷ ar) spare begin width place (x ∷ a) h = h.0

module _ {Q : Type 0} (node : Ghosts Q) where
  -- the push counts of the queues after it are unchanged
  pushes-behind : (qs : List Q) (n j : ℕ) (c : Q) → n < j → get_or (map node.pushes (set qs n c)) j 0 ≡ get_or (map node.pushes qs) j 0
  pushes-behind qs n j c l = subst (λ (z : List ℕ). get_or z j 0 ≡ get_or (map node.pushes qs) j 0) (sym (pushes-set node qs n c)) (get_or-set_other (map node.pushes qs) n j (node.pushes c) 0 (omega arith))

  pub pushing_next : (arities digits ranks : List ℕ) (item : ℕ) (old qs : List Q) (level begin width place v : ℕ) (c e : Q) → IsLeafAddress arities digits → length ranks ≡ length digits + 1 → level < length digits
      → IsPushing node arities digits ranks item old qs level begin width place → v ≡ get_or digits level 0
      → node.entries c ≡ put (node.entries (get_or qs (begin + place) e)) (get_or ranks level 0) v → node.pushes c ≡ node.pushes (get_or qs (begin + place) e) + 1
      → IsPushing node arities digits ranks item old (set qs (begin + place) c) (level + 1) (begin + width) (width * get_or arities level 0) (place * get_or arities level 0 + get_or digits level 0)
  pushing_next arities digits ranks item old qs level begin width place v c e leaf long l s ev entries pushes =
      let la : level < length arities = omega (arith, leaf_length arities digits leaf) in
      let lr : level < length ranks = omega (arith, long) in
      let m : get_or digits level 0 < get_or arities level 0 = digit_below level arities digits leaf l in
      let within : begin + place < length qs = at_index arities (length qs) level begin width place s.here in
      let inside : place < width = s.here.within in
      record {
        here = subst (λ (n : ℕ). IsAt arities n (level + 1) (begin + width) (width * get_or arities level 0) (place * get_or arities level 0 + get_or digits level 0)) (sym (length-set qs (begin + place) c))
            (at_child arities (length qs) level begin width place (get_or digits level 0) la m s.here);
        count = length-set qs (begin + place) c ∙ s.count;
        room = subst (λ (z : List ℕ). HasRoomAlong (room_at (drop (level + 1) arities) z (begin + width) (width * get_or arities level 0) (place * get_or arities level 0 + get_or digits level 0)) (drop (level + 1) digits)) (sym (spare-set node qs (begin + place) c))
            (room_below (get_or arities level 0) (drop (level + 1) arities) (map node.spare qs) begin width place (begin + place) (node.spare c) (get_or digits level 0) (drop (level + 1) digits) (omega arith) m
            (subst (λ (z : List ℕ). HasRoomAlong (room_at z (map node.spare qs) begin width place) (get_or digits level 0 ∷ drop (level + 1) digits)) (drop_more arities level 0 la)
            (subst (λ (z : List ℕ). HasRoomAlong (room_at (drop level arities) (map node.spare qs) begin width place) z) (drop_more digits level 0 l) s.room)));
        pushing =
            ap (λ (z : List Queue). array_push (drop (level + 1) arities) z (begin + width) (width * get_or arities level 0) (place * get_or arities level 0 + get_or digits level 0) (drop (level + 1) digits) (drop (level + 1) ranks) item)
            (entries-put node qs (begin + place) (get_or ranks level 0) (get_or digits level 0) c e within (entries ∙ ap (λ (z : ℕ). put (node.entries (get_or qs (begin + place) e)) (get_or ranks level 0) z) ev))
            ∙ subst (λ (z : List ℕ). array_push (get_or arities level 0 ∷ drop (level + 1) arities) (map node.entries qs) begin width place (get_or digits level 0 ∷ drop (level + 1) digits) z item ≡ array_push arities (map node.entries old) 0 1 0 digits ranks item) (drop_more ranks level 0 lr)
            (subst (λ (z : List ℕ). array_push z (map node.entries qs) begin width place (get_or digits level 0 ∷ drop (level + 1) digits) (drop level ranks) item ≡ array_push arities (map node.entries old) 0 1 0 digits ranks item) (drop_more arities level 0 la)
            (subst (λ (z : List ℕ). array_push (drop level arities) (map node.entries qs) begin width place z (drop level ranks) item ≡ array_push arities (map node.entries old) 0 1 0 digits ranks item) (drop_more digits level 0 l) s.pushing));
        few = λ j k. omega (arith, pushes-behind qs (begin + place) j c (omega arith), s.few j (omega arith));
        before = λ n a. subst (λ (z : List ℕ). AllByRecursion (λ k. k ≤ n + 1) z) (sym (pushes-set node qs (begin + place) c))
            (bound-set (λ k. k ≤ n + 1) (map node.pushes qs) (begin + place) (node.pushes c) (s.before n a) (omega (arith, pushes, pushes-at node qs (begin + place) e within, s.behind n a (begin + place) (omega arith))));
        behind = λ n a j k. omega (arith, pushes-behind qs (begin + place) j c (omega arith), s.behind n a j (omega arith));
      }

  -- the last step, at the leaf
  pub pushed_last : (arities digits ranks : List ℕ) (item : ℕ) (old qs : List Q) (level begin width place rank : ℕ) (c e : Q) → IsLeafAddress arities digits → length digits ≤ level
      → IsPushing node arities digits ranks item old qs level begin width place → rank ≡ get_or ranks level 0
      → node.entries c ≡ put (node.entries (get_or qs (begin + place) e)) rank item → map node.entries (set qs (begin + place) c) ≡ array_push arities (map node.entries old) 0 1 0 digits ranks item
  pushed_last arities digits ranks item old qs level begin width place rank c e leaf l s er entries =
      let within : begin + place < length qs = at_index arities (length qs) level begin width place s.here in
      let first : get_or (drop level ranks) 0 0 ≡ rank = get_or-drop level ranks 0 0 ∙ (let n : level + 0 ≡ level = omega arith in ap (λ (z : ℕ). get_or ranks z 0) n) ∙ sym er in
      entries-put node qs (begin + place) rank item c e within entries
      ∙ ap (λ (z : ℕ). put_at (map node.entries qs) (begin + place) z item) (sym first)
      ∙ subst (λ (z : List ℕ). array_push z (map node.entries qs) begin width place (drop level digits) (drop level ranks) item ≡ array_push arities (map node.entries old) 0 1 0 digits ranks item) (drop_all level arities (omega (arith, l, leaf_length arities digits leaf))) s.pushing

  pub pushed_counts : (arities digits ranks : List ℕ) (item : ℕ) (old qs : List Q) (level begin width place : ℕ) (c e : Q)
      → IsPushing node arities digits ranks item old qs level begin width place → node.pushes c ≡ node.pushes (get_or qs (begin + place) e) + 1
      → (n : ℕ) → AllByRecursion (λ k. k ≤ n) (map node.pushes old) → AllByRecursion (λ k. k ≤ n + 1) (map node.pushes (set qs (begin + place) c))
  pushed_counts arities digits ranks item old qs level begin width place c e s pushes n a =
      let within : begin + place < length qs = at_index arities (length qs) level begin width place s.here in
      subst (λ (z : List ℕ). AllByRecursion (λ k. k ≤ n + 1) z) (sym (pushes-set node qs (begin + place) c))
      (bound-set (λ k. k ≤ n + 1) (map node.pushes qs) (begin + place) (node.pushes c) (s.before n a) (omega (arith, pushes, pushes-at node qs (begin + place) e within, s.behind n a (begin + place) (omega arith))))

  pub pushing_first : (arities digits ranks : List ℕ) (item : ℕ) (old : List Q) → nodes arities ≡ length old → HasRoomAlong (room_at arities (map node.spare old) 0 1 0) digits
      → AllByRecursion (λ n. n < 2 ^ 62) (map node.pushes old) → IsPushing node arities digits ranks item old old 0 0 1 0
  pushing_first arities digits ranks item old count room few =
      record {
        here = record { within = omega arith; counted = omega (arith, count); children = first_level arities };
        count = refl;
        room = room;
        pushing = refl;
        few = λ j k. bound-at (λ n. n < 2 ^ 62) (map node.pushes old) j few (omega arith);
        before = λ n a. bound-more (λ k. k ≤ n) (λ k. k ≤ n + 1) (map node.pushes old) (λ k h. omega arith) a;
        behind = λ n a j k. bound-at (λ i. i ≤ n) (map node.pushes old) j a (omega arith);
      }

  -- the queue at the node reached may be pushed
  pub room_for : (arities digits ranks : List ℕ) (item : ℕ) (old qs : List Q) (level begin width place : ℕ) (e : Q) → IsPushing node arities digits ranks item old qs level begin width place
      → 1 ≤ node.spare (get_or qs (begin + place) e)
  room_for arities digits ranks item old qs level begin width place e s =
      let within : begin + place < length qs = at_index arities (length qs) level begin width place s.here in
      let here : 0 < get_or (map node.spare qs) (begin + place) 0 = room_here (drop level arities) (map node.spare qs) begin width place (drop level digits) s.room in
      omega (arith, here, spare-at node qs (begin + place) e within)

  pub few_for : (arities digits ranks : List ℕ) (item : ℕ) (old qs : List Q) (level begin width place : ℕ) (e : Q) → IsPushing node arities digits ranks item old qs level begin width place
      → node.pushes (get_or qs (begin + place) e) < 2 ^ 62
  few_for arities digits ranks item old qs level begin width place e s =
      let within : begin + place < length qs = at_index arities (length qs) level begin width place s.here in
      omega (arith, s.few (begin + place) (omega arith), pushes-at node qs (begin + place) e within)
