-- Ranks stay in range.
use Rattle.sched_defs.proofs.Prelude.{◌≡◌, List, [], arith, ℕ, ◌∷◌, Some, subst, suc, zero, ◌≤◌, drop, AllByRecursion, slice_index, option_map, max_rank, All-added, All-taken, option_bind-some, option_map-some, OneMore-put, OneMore-taken, Queue, Taking, put, take_least, Entry, pop, empty_tree, empty_trees, push, of_first, of_inner, of_later, of_leaf, pop_child, push_child, Topology, Tree, Trees, inner, leaf, more, none, Popping, HasLowRanks, HasRanks, HaveLowRanks}

abbrev pub AreLow : List ℕ → Type 0
AreLow ranks = AllByRecursion (λ r. r ≤ max_rank) ranks

pub first_low : (ranks : List ℕ) → AreLow ranks → slice_index ranks 0 ≤ max_rank
first_low [] h = omega arith
first_low (r ∷ ranks) h = h.0

pub rest_low : (ranks : List ℕ) → AreLow ranks → AreLow (drop 1 ranks)
rest_low [] h = tt
rest_low (r ∷ ranks) h = h.1

HasRanks-put : (q : Queue) (r v : ℕ) → r ≤ max_rank → HasRanks q → HasRanks (put q r v)
HasRanks-put q r v l h = All-added (λ (e : Entry). e.0 ≤ max_rank) (r, v) q (put q r v) (OneMore-put q r v) l h

HasRanks-taken : (q : Queue) (t : Taking) → take_least q ≡ Some t → HasRanks q → (t.rank ≤ max_rank) × HasRanks t.rest
HasRanks-taken q t p h = All-taken (λ (e : Entry). e.0 ≤ max_rank) (t.rank, t.value) t.rest q (OneMore-taken q t p) h

mutual
  pub HasLowRanks-push : (t : Tree Queue) (digits ranks : List ℕ) (item : ℕ) → AreLow ranks → HasLowRanks t → HasLowRanks (push t digits ranks item)
  HasLowRanks-push (leaf q) digits ranks item l h = HasRanks-put q (slice_index ranks 0) item (first_low ranks l) h
  HasLowRanks-push (inner q ts) [] ranks item l h = h
  HasLowRanks-push (inner q ts) (i ∷ digits) ranks item l h =
      (HasRanks-put q (slice_index ranks 0) i (first_low ranks l) h.0, HaveLowRanks-push ts i digits (drop 1 ranks) item (rest_low ranks l) h.1)

  pub HaveLowRanks-push : (ts : Trees Queue) (i : ℕ) (digits ranks : List ℕ) (item : ℕ) → AreLow ranks → HaveLowRanks ts → HaveLowRanks (push_child ts i digits ranks item)
  HaveLowRanks-push none i digits ranks item l h = h
  HaveLowRanks-push (more t ts) zero digits ranks item l h = (HasLowRanks-push t digits ranks item l h.0, h.1)
  HaveLowRanks-push (more t ts) (suc i) digits ranks item l h = (h.0, HaveLowRanks-push ts i digits ranks item l h.1)

pub record IsLowPopping (r : Popping (Tree Queue)) : Type 0 where
  pub ranks : AreLow r.ranks
  pub left : HasLowRanks r.left

record IsLowPoppingBelow (r : Popping (Trees Queue)) : Type 0 where
  ranks : AreLow r.ranks
  left : HaveLowRanks r.left

mutual
  pub HasLowRanks-pop : (t : Tree Queue) (r : Popping (Tree Queue)) → pop t ≡ Some r → HasLowRanks t → IsLowPopping r
  HasLowRanks-pop (leaf q) r p h =
      let w : (x : Taking) × (take_least q ≡ Some x) × (of_leaf x ≡ r) = option_map-some of_leaf (take_least q) r p in
      let k : (w.0.rank ≤ max_rank) × HasRanks w.0.rest = HasRanks-taken q w.0 w.1 h in
      subst IsLowPopping w.2 (record { ranks = (k.0, tt); left = k.1 })
  HasLowRanks-pop (inner q ts) r p h =
      let w : (x : Taking) × (take_least q ≡ Some x) × (option_map (of_inner x) (pop_child ts x.value) ≡ Some r) = option_bind-some _ (take_least q) r p in
      let v : (y : Popping (Trees Queue)) × (pop_child ts w.0.value ≡ Some y) × (of_inner w.0 y ≡ r) = option_map-some (of_inner w.0) (pop_child ts w.0.value) r w.2 in
      let k : (w.0.rank ≤ max_rank) × HasRanks w.0.rest = HasRanks-taken q w.0 w.1 h.0 in
      let b : IsLowPoppingBelow v.0 = HaveLowRanks-pop ts w.0.value v.0 v.1 h.1 in
      subst IsLowPopping v.2 (record { ranks = (k.0, b.ranks); left = (k.1, b.left) })

  HaveLowRanks-pop : (ts : Trees Queue) (i : ℕ) (r : Popping (Trees Queue)) → pop_child ts i ≡ Some r → HaveLowRanks ts → IsLowPoppingBelow r
  HaveLowRanks-pop none i r p h = cc
  HaveLowRanks-pop (more t ts) zero r p h =
      let v : (y : Popping (Tree Queue)) × (pop t ≡ Some y) × (of_first ts y ≡ r) = option_map-some (of_first ts) (pop t) r p in
      let k : IsLowPopping v.0 = HasLowRanks-pop t v.0 v.1 h.0 in
      subst IsLowPoppingBelow v.2 (record { ranks = k.ranks; left = (k.left, h.1) })
  HaveLowRanks-pop (more t ts) (suc i) r p h =
      let v : (y : Popping (Trees Queue)) × (pop_child ts i ≡ Some y) × (of_later t y ≡ r) = option_map-some (of_later t) (pop_child ts i) r p in
      let k : IsLowPoppingBelow v.0 = HaveLowRanks-pop ts i v.0 v.1 h.1 in
      subst IsLowPoppingBelow v.2 (record { ranks = k.ranks; left = (h.0, k.left) })

mutual
  pub HasLowRanks-empty : (t : Topology) → HasLowRanks (empty_tree t)
  HasLowRanks-empty (leaf u) = tt
  HasLowRanks-empty (inner u ts) = (tt, HaveLowRanks-empty ts)

  pub HaveLowRanks-empty : (ts : Trees (Unit {0})) → HaveLowRanks (empty_trees ts)
  HaveLowRanks-empty none = tt
  HaveLowRanks-empty (more t ts) = (HasLowRanks-empty t, HaveLowRanks-empty ts)
