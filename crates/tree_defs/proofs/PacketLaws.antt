-- The packets that a push adds and a pop removes.
use Rattle.tree_defs.proofs.Prelude.{◌≡◌, Some, [], ap, arith, refl, subst, ℕ, ◌∙◌, ◌∷◌, suc, List, length, sym, zero, ◌+◌, ◌++◌, ◌≢◌, map, drop, slice_index, OneMore, Placed, below, packets, packets_below, queue_at, queue_in, values, values_below, Queue, Taking, take_least, put, Entry, LeavesFrom, empty_tree, empty_trees, of_first, of_inner, of_later, of_leaf, pop, pop_child, push, push_child, Topology, leaf, Address, LeadsToLeaf, Trees, inner, more, none, LeadsBelow, Tree, Popping}
use Rattle.std.specs.Prelude.{option_map}
use Rattle.std.proofs.lemmas.List.{map-append}
use Rattle.tree_defs.proofs.TakeLeast.{take_least-splits}
use Rattle.tree_defs.proofs.Options.{option_map-some, option_bind-some}

module _ {X : Type 0} where
  append_assoc : (xs ys zs : List X) → (xs ++ ys) ++ zs ≡ xs ++ (ys ++ zs)
  append_assoc [] ys zs = refl
  append_assoc (x ∷ xs) ys zs = ap (λ (l : List X). x ∷ l) (append_assoc xs ys zs)

  pub OneMore-front : (x : X) (front xs ys : List X) → OneMore x xs ys → OneMore x (front ++ xs) (front ++ ys)
  OneMore-front x front xs ys o = record {
    before = front ++ o.before;
    behind = o.behind;
    without = ap (λ (l : List X). front ++ l) o.without ∙ sym (append_assoc front o.before o.behind);
    with_it = ap (λ (l : List X). front ++ l) o.with_it ∙ sym (append_assoc front o.before (x ∷ o.behind));
  }

  pub OneMore-back : (x : X) (back xs ys : List X) → OneMore x xs ys → OneMore x (xs ++ back) (ys ++ back)
  OneMore-back x back xs ys o = record {
    before = o.before;
    behind = o.behind ++ back;
    without = ap (λ (l : List X). l ++ back) o.without ∙ append_assoc o.before o.behind back;
    with_it = ap (λ (l : List X). l ++ back) o.with_it ∙ append_assoc o.before (x ∷ o.behind) back;
  }

pub OneMore-map : {X Y : Type 0} (f : X → Y) (x : X) (xs ys : List X) → OneMore x xs ys → OneMore (f x) (map f xs) (map f ys)
OneMore-map f x xs ys o = record {
  before = map f o.before;
  behind = map f o.behind;
  without = ap (map f) o.without ∙ map-append f o.before o.behind;
  with_it = ap (map f) o.with_it ∙ map-append f o.before (x ∷ o.behind);
}

append_none : {X : Type 0} (xs : List X) → xs ++ [] ≡ xs
append_none [] = refl
append_none {X} (x ∷ xs) = ap (λ (l : List X). x ∷ l) (append_none xs)

pub OneMore-put : (q : Queue) (r v : ℕ) → OneMore (r, v) q (put q r v)
OneMore-put q r v = record { before = q; behind = []; without = sym (append_none q); with_it = refl }

pub OneMore-taken : (q : Queue) (t : Taking) → take_least q ≡ Some t → OneMore (t.rank, t.value) t.rest q
OneMore-taken q t p =
    let l : LeavesFrom q t = take_least-splits q t p in
    record { before = l.before; behind = l.after; without = l.rest; with_it = l.stands }

-- the packets' numbers are the values
map-below : (i : ℕ) (xs : List Placed) → map (λ (p : Placed). p.1) (map (below i) xs) ≡ map (λ (p : Placed). p.1) xs
map-below i [] = refl
map-below i (p ∷ xs) = ap (λ (l : List ℕ). p.1 ∷ l) (map-below i xs)

map-entries : (q : Queue) → map (λ (p : Placed). p.1) (map (λ (e : Entry). ([], e.1)) q) ≡ map (λ (e : Entry). e.1) q
map-entries [] = refl
map-entries (e ∷ q) = ap (λ (l : List ℕ). e.1 ∷ l) (map-entries q)

mutual
  pub values-packets : (t : Tree Queue) → map (λ (p : Placed). p.1) (packets t) ≡ values t
  values-packets (leaf q) = map-entries q
  values-packets (inner q ts) = values_below-packets ts 0

  pub values_below-packets : (ts : Trees Queue) (k : ℕ) → map (λ (p : Placed). p.1) (packets_below ts k) ≡ values_below ts
  values_below-packets none k = refl
  values_below-packets (more t ts) k =
      map-append (λ (p : Placed). p.1) (map (below k) (packets t)) (packets_below ts (suc k))
      ∙ ap (λ (l : List ℕ). l ++ map (λ (p : Placed). p.1) (packets_below ts (suc k))) (map-below k (packets t) ∙ values-packets t)
      ∙ ap (λ (l : List ℕ). values t ++ l) (values_below-packets ts (suc k))

-- ---- push
mutual
  pub packets-push : (t : Tree Queue) (digits ranks : List ℕ) (item : ℕ) → LeadsToLeaf t digits → OneMore (digits, item) (packets t) (packets (push t digits ranks item))
  packets-push (leaf q) [] ranks item l = OneMore-map (λ (e : Entry). ([], e.1)) (slice_index ranks 0, item) q (put q (slice_index ranks 0) item) (OneMore-put q (slice_index ranks 0) item)
  packets-push (leaf q) (i ∷ digits) ranks item l = absurd l
  packets-push (inner q ts) [] ranks item l = absurd l
  packets-push (inner q ts) (i ∷ digits) ranks item l = packets_below-push ts i digits (drop 1 ranks) item 0 i (omega arith) l

  pub packets_below-push : (ts : Trees Queue) (i : ℕ) (digits ranks : List ℕ) (item k v : ℕ) → v ≡ i + k → LeadsBelow ts i digits → OneMore (v ∷ digits, item) (packets_below ts k) (packets_below (push_child ts i digits ranks item) k)
  packets_below-push none i digits ranks item k v e l = absurd l
  packets_below-push (more t ts) zero digits ranks item k v e l =
      let n : k ≡ v = omega arith in
      subst (λ (z : ℕ). OneMore (z ∷ digits, item) (packets_below (more t ts) k) (packets_below (push_child (more t ts) zero digits ranks item) k)) n
      (OneMore-back (k ∷ digits, item) (packets_below ts (suc k)) (map (below k) (packets t)) (map (below k) (packets (push t digits ranks item)))
      (OneMore-map (below k) (digits, item) (packets t) (packets (push t digits ranks item)) (packets-push t digits ranks item l)))
  packets_below-push (more t ts) (suc i) digits ranks item k v e l =
      OneMore-front (v ∷ digits, item) (map (below k) (packets t)) (packets_below ts (suc k)) (packets_below (push_child ts i digits ranks item) (suc k))
      (packets_below-push ts i digits ranks item (suc k) v (omega arith) l)

-- ---- pop
mutual
  pub packets-pop : (t : Tree Queue) (r : Popping (Tree Queue)) → pop t ≡ Some r → OneMore (r.digits, r.value) (packets r.left) (packets t)
  packets-pop (leaf q) r p =
      let w : (x : Taking) × (take_least q ≡ Some x) × (of_leaf x ≡ r) = option_map-some of_leaf (take_least q) r p in
      subst (λ (z : Popping (Tree Queue)). OneMore (z.digits, z.value) (packets z.left) (packets (leaf q))) w.2
      (OneMore-map (λ (e : Entry). ([], e.1)) (w.0.rank, w.0.value) w.0.rest q (OneMore-taken q w.0 w.1))
  packets-pop (inner q ts) r p =
      let w : (x : Taking) × (take_least q ≡ Some x) × (option_map (of_inner x) (pop_child ts x.value) ≡ Some r) = option_bind-some _ (take_least q) r p in
      let v : (y : Popping (Trees Queue)) × (pop_child ts w.0.value ≡ Some y) × (of_inner w.0 y ≡ r) = option_map-some (of_inner w.0) (pop_child ts w.0.value) r w.2 in
      subst (λ (z : Popping (Tree Queue)). OneMore (z.digits, z.value) (packets z.left) (packets (inner q ts))) v.2 (packets_below-pop ts w.0.value v.0 0 w.0.value (omega arith) v.1)

  pub packets_below-pop : (ts : Trees Queue) (i : ℕ) (r : Popping (Trees Queue)) (k v : ℕ) → v ≡ i + k → pop_child ts i ≡ Some r → OneMore (v ∷ r.digits, r.value) (packets_below r.left k) (packets_below ts k)
  packets_below-pop none i r k v e p = cc
  packets_below-pop (more t ts) zero r k v e p =
      let w : (y : Popping (Tree Queue)) × (pop t ≡ Some y) × (of_first ts y ≡ r) = option_map-some (of_first ts) (pop t) r p in
      let n : k ≡ v = omega arith in
      subst (λ (z : Popping (Trees Queue)). OneMore (v ∷ z.digits, z.value) (packets_below z.left k) (packets_below (more t ts) k)) w.2
      (subst (λ (z : ℕ). OneMore (z ∷ w.0.digits, w.0.value) (packets_below (more w.0.left ts) k) (packets_below (more t ts) k)) n
      (OneMore-back (k ∷ w.0.digits, w.0.value) (packets_below ts (suc k)) (map (below k) (packets w.0.left)) (map (below k) (packets t))
      (OneMore-map (below k) (w.0.digits, w.0.value) (packets w.0.left) (packets t) (packets-pop t w.0 w.1))))
  packets_below-pop (more t ts) (suc i) r k v e p =
      let w : (y : Popping (Trees Queue)) × (pop_child ts i ≡ Some y) × (of_later t y ≡ r) = option_map-some (of_later t) (pop_child ts i) r p in
      subst (λ (z : Popping (Trees Queue)). OneMore (v ∷ z.digits, z.value) (packets_below z.left k) (packets_below (more t ts) k)) w.2
      (OneMore-front (v ∷ w.0.digits, w.0.value) (map (below k) (packets t)) (packets_below w.0.left (suc k)) (packets_below ts (suc k))
      (packets_below-pop ts i w.0 (suc k) v (omega arith) w.1))

pub values-push : (t : Tree Queue) (digits ranks : List ℕ) (item : ℕ) → LeadsToLeaf t digits → OneMore item (values t) (values (push t digits ranks item))
values-push t digits ranks item l =
    subst (λ (z : List ℕ). OneMore item z (values (push t digits ranks item))) (values-packets t)
    (subst (λ (z : List ℕ). OneMore item (map (λ (p : Placed). p.1) (packets t)) z) (values-packets (push t digits ranks item))
    (OneMore-map (λ (p : Placed). p.1) (digits, item) (packets t) (packets (push t digits ranks item)) (packets-push t digits ranks item l)))

pub values-pop : (t : Tree Queue) (r : Popping (Tree Queue)) → pop t ≡ Some r → OneMore r.value (values r.left) (values t)
values-pop t r p =
    subst (λ (z : List ℕ). OneMore r.value z (values t)) (values-packets r.left)
    (subst (λ (z : List ℕ). OneMore r.value (map (λ (p : Placed). p.1) (packets r.left)) z) (values-packets t)
    (OneMore-map (λ (p : Placed). p.1) (r.digits, r.value) (packets r.left) (packets t) (packets-pop t r p)))

-- ---- an empty tree
mutual
  pub packets-empty : (t : Topology) → packets (empty_tree t) ≡ []
  packets-empty (leaf u) = refl
  packets-empty (inner u ts) = packets_below-empty ts 0

  pub packets_below-empty : (ts : Trees (Unit {0})) (k : ℕ) → packets_below (empty_trees ts) k ≡ []
  packets_below-empty none k = refl
  packets_below-empty (more t ts) k = ap (λ (l : List Placed). map (below k) l ++ packets_below (empty_trees ts) (suc k)) (packets-empty t) ∙ packets_below-empty ts (suc k)

pub values-empty : (t : Topology) → values (empty_tree t) ≡ []
values-empty t = sym (values-packets (empty_tree t)) ∙ ap (map (λ (p : Placed). p.1)) (packets-empty t)

-- ---- the queue at a leaf
later_rank : (ranks : List ℕ) (n : ℕ) → slice_index (drop 1 ranks) n ≡ slice_index ranks (suc n)
later_rank [] n = refl
later_rank (r ∷ ranks) n = refl

mutual
  pub queue_at-push : (t : Tree Queue) (digits ranks : List ℕ) (item : ℕ) → LeadsToLeaf t digits → queue_at (push t digits ranks item) digits ≡ put (queue_at t digits) (slice_index ranks (length digits)) item
  queue_at-push (leaf q) [] ranks item l = refl
  queue_at-push (leaf q) (i ∷ digits) ranks item l = absurd l
  queue_at-push (inner q ts) [] ranks item l = absurd l
  queue_at-push (inner q ts) (i ∷ digits) ranks item l = queue_in-push ts i digits (drop 1 ranks) item l ∙ ap (λ (r : ℕ). put (queue_in ts i digits) r item) (later_rank ranks (length digits))

  pub queue_in-push : (ts : Trees Queue) (i : ℕ) (digits ranks : List ℕ) (item : ℕ) → LeadsBelow ts i digits → queue_in (push_child ts i digits ranks item) i digits ≡ put (queue_in ts i digits) (slice_index ranks (length digits)) item
  queue_in-push none i digits ranks item l = absurd l
  queue_in-push (more t ts) zero digits ranks item l = queue_at-push t digits ranks item l
  queue_in-push (more t ts) (suc i) digits ranks item l = queue_in-push ts i digits ranks item l

mutual
  pub queue_at-push_elsewhere : (t : Tree Queue) (digits ranks : List ℕ) (item : ℕ) (a : Address) → LeadsToLeaf t digits → a ≢ digits → queue_at (push t digits ranks item) a ≡ queue_at t a
  queue_at-push_elsewhere (leaf q) [] ranks item [] l n = absurd (n refl)
  queue_at-push_elsewhere (leaf q) [] ranks item (j ∷ a) l n = refl
  queue_at-push_elsewhere (leaf q) (i ∷ digits) ranks item a l n = absurd l
  queue_at-push_elsewhere (inner q ts) [] ranks item a l n = absurd l
  queue_at-push_elsewhere (inner q ts) (i ∷ digits) ranks item [] l n = refl
  queue_at-push_elsewhere (inner q ts) (i ∷ digits) ranks item (j ∷ a) l n = queue_in-push_elsewhere ts i digits (drop 1 ranks) item j a l (λ s e. n (ap (λ (z : ℕ). z ∷ a) s ∙ ap (λ (z : List ℕ). i ∷ z) e))

  pub queue_in-push_elsewhere : (ts : Trees Queue) (i : ℕ) (digits ranks : List ℕ) (item j : ℕ) (a : Address) → LeadsBelow ts i digits → (j ≡ i → a ≢ digits) → queue_in (push_child ts i digits ranks item) j a ≡ queue_in ts j a
  queue_in-push_elsewhere none i digits ranks item j a l n = absurd l
  queue_in-push_elsewhere (more t ts) zero digits ranks item zero a l n = queue_at-push_elsewhere t digits ranks item a l (n refl)
  queue_in-push_elsewhere (more t ts) zero digits ranks item (suc j) a l n = refl
  queue_in-push_elsewhere (more t ts) (suc i) digits ranks item zero a l n = refl
  queue_in-push_elsewhere (more t ts) (suc i) digits ranks item (suc j) a l n = queue_in-push_elsewhere ts i digits ranks item j a l (λ s. n (ap suc s))

abbrev taken_here : Popping (Tree Queue) → Taking
taken_here r = record { rank = slice_index r.ranks (length r.digits); value = r.value; rest = queue_at r.left r.digits }

abbrev taken_in : ℕ → Popping (Trees Queue) → Taking
taken_in i r = record { rank = slice_index r.ranks (length r.digits); value = r.value; rest = queue_in r.left i r.digits }

mutual
  pub queue_at-pop : (t : Tree Queue) (r : Popping (Tree Queue)) → pop t ≡ Some r
      → take_least (queue_at t r.digits) ≡ Some (record { rank = slice_index r.ranks (length r.digits); value = r.value; rest = queue_at r.left r.digits })
  queue_at-pop (leaf q) r p =
      let w : (x : Taking) × (take_least q ≡ Some x) × (of_leaf x ≡ r) = option_map-some of_leaf (take_least q) r p in
      subst (λ (z : Popping (Tree Queue)). take_least (queue_at (leaf q) z.digits) ≡ Some (taken_here z)) w.2 w.1
  queue_at-pop (inner q ts) r p =
      let w : (x : Taking) × (take_least q ≡ Some x) × (option_map (of_inner x) (pop_child ts x.value) ≡ Some r) = option_bind-some _ (take_least q) r p in
      let v : (y : Popping (Trees Queue)) × (pop_child ts w.0.value ≡ Some y) × (of_inner w.0 y ≡ r) = option_map-some (of_inner w.0) (pop_child ts w.0.value) r w.2 in
      subst (λ (z : Popping (Tree Queue)). take_least (queue_at (inner q ts) z.digits) ≡ Some (taken_here z)) v.2 (queue_in-pop ts w.0.value v.0 v.1)

  pub queue_in-pop : (ts : Trees Queue) (i : ℕ) (r : Popping (Trees Queue)) → pop_child ts i ≡ Some r
      → take_least (queue_in ts i r.digits) ≡ Some (record { rank = slice_index r.ranks (length r.digits); value = r.value; rest = queue_in r.left i r.digits })
  queue_in-pop none i r p = cc
  queue_in-pop (more t ts) zero r p =
      let w : (y : Popping (Tree Queue)) × (pop t ≡ Some y) × (of_first ts y ≡ r) = option_map-some (of_first ts) (pop t) r p in
      subst (λ (z : Popping (Trees Queue)). take_least (queue_in (more t ts) zero z.digits) ≡ Some (taken_in zero z)) w.2 (queue_at-pop t w.0 w.1)
  queue_in-pop (more t ts) (suc i) r p =
      let w : (y : Popping (Trees Queue)) × (pop_child ts i ≡ Some y) × (of_later t y ≡ r) = option_map-some (of_later t) (pop_child ts i) r p in
      subst (λ (z : Popping (Trees Queue)). take_least (queue_in (more t ts) (suc i) z.digits) ≡ Some (taken_in (suc i) z)) w.2 (queue_in-pop ts i w.0 w.1)

mutual
  pub queue_at-pop_elsewhere : (t : Tree Queue) (r : Popping (Tree Queue)) (a : Address) → pop t ≡ Some r → a ≢ r.digits → queue_at r.left a ≡ queue_at t a
  queue_at-pop_elsewhere (leaf q) r a p n =
      let w : (x : Taking) × (take_least q ≡ Some x) × (of_leaf x ≡ r) = option_map-some of_leaf (take_least q) r p in
      subst (λ (z : Popping (Tree Queue)). a ≢ z.digits → queue_at z.left a ≡ queue_at (leaf q) a) w.2 (away w.0.rest a) n
    where
      away : (rest : Queue) (a : Address) → a ≢ [] → queue_at (leaf rest) a ≡ queue_at (leaf q) a
      away rest [] m = absurd (m refl)
      away rest (j ∷ a) m = refl
  queue_at-pop_elsewhere (inner q ts) r [] p n =
      let w : (x : Taking) × (take_least q ≡ Some x) × (option_map (of_inner x) (pop_child ts x.value) ≡ Some r) = option_bind-some _ (take_least q) r p in
      let v : (y : Popping (Trees Queue)) × (pop_child ts w.0.value ≡ Some y) × (of_inner w.0 y ≡ r) = option_map-some (of_inner w.0) (pop_child ts w.0.value) r w.2 in
      subst (λ (z : Popping (Tree Queue)). queue_at z.left [] ≡ []) v.2 refl
  queue_at-pop_elsewhere (inner q ts) r (j ∷ a) p n =
      let w : (x : Taking) × (take_least q ≡ Some x) × (option_map (of_inner x) (pop_child ts x.value) ≡ Some r) = option_bind-some _ (take_least q) r p in
      let v : (y : Popping (Trees Queue)) × (pop_child ts w.0.value ≡ Some y) × (of_inner w.0 y ≡ r) = option_map-some (of_inner w.0) (pop_child ts w.0.value) r w.2 in
      subst (λ (z : Popping (Tree Queue)). j ∷ a ≢ z.digits → queue_at z.left (j ∷ a) ≡ queue_in ts j a) v.2
      (λ m. queue_in-pop_elsewhere ts w.0.value v.0 j a v.1 (λ s e. m (ap (λ (z : ℕ). z ∷ a) s ∙ ap (λ (z : List ℕ). w.0.value ∷ z) e))) n

  pub queue_in-pop_elsewhere : (ts : Trees Queue) (i : ℕ) (r : Popping (Trees Queue)) (j : ℕ) (a : Address) → pop_child ts i ≡ Some r → (j ≡ i → a ≢ r.digits) → queue_in r.left j a ≡ queue_in ts j a
  queue_in-pop_elsewhere none i r j a p n = cc
  queue_in-pop_elsewhere (more t ts) zero r zero a p n =
      let w : (y : Popping (Tree Queue)) × (pop t ≡ Some y) × (of_first ts y ≡ r) = option_map-some (of_first ts) (pop t) r p in
      subst (λ (z : Popping (Trees Queue)). a ≢ z.digits → queue_in z.left zero a ≡ queue_at t a) w.2 (queue_at-pop_elsewhere t w.0 a w.1) (n refl)
  queue_in-pop_elsewhere (more t ts) zero r (suc j) a p n =
      let w : (y : Popping (Tree Queue)) × (pop t ≡ Some y) × (of_first ts y ≡ r) = option_map-some (of_first ts) (pop t) r p in
      subst (λ (z : Popping (Trees Queue)). queue_in z.left (suc j) a ≡ queue_in ts j a) w.2 refl
  queue_in-pop_elsewhere (more t ts) (suc i) r zero a p n =
      let w : (y : Popping (Trees Queue)) × (pop_child ts i ≡ Some y) × (of_later t y ≡ r) = option_map-some (of_later t) (pop_child ts i) r p in
      subst (λ (z : Popping (Trees Queue)). queue_in z.left zero a ≡ queue_at t a) w.2 refl
  queue_in-pop_elsewhere (more t ts) (suc i) r (suc j) a p n =
      let w : (y : Popping (Trees Queue)) × (pop_child ts i ≡ Some y) × (of_later t y ≡ r) = option_map-some (of_later t) (pop_child ts i) r p in
      subst (λ (z : Popping (Trees Queue)). (suc j ≡ suc i → a ≢ z.digits) → queue_in z.left (suc j) a ≡ queue_in ts j a) w.2
      (λ m. queue_in-pop_elsewhere ts i w.0 j a w.1 (λ s. m (ap suc s))) n
