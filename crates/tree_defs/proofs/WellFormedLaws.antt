-- A push and a pop keep a tree well formed.
use Rattle.tree_defs.proofs.Prelude.{◌≡◌, Some, [], ap, arith, refl, subst, ℕ, ◌∙◌, ◌∷◌, suc, List, length, sym, zero, ◌+◌, None, inl, inr, ◌<◌, eq-eqb, ◌≢◌, ◌≤◌, ◌↔◌, cases_lt, ne_eqb, drop, slice_index, Queue, Taking, take_least, put, take_from, empty_tree, empty_trees, of_first, of_inner, of_later, of_leaf, pop, pop_child, push, push_child, AreWellFormed, IsWellFormed, size, times, AreInRange, IsInRange, NamesChildren, sizes, Topology, leaf, LeadsToLeaf, Trees, inner, more, none, LeadsBelow, Tree, Popping, HasChild, root_of}
use Rattle.std.specs.Prelude.{option_map}
use Rattle.tree_defs.proofs.TakeLeast.{take_from-front, take_from-behind, length-put, length-rest}
use Rattle.tree_defs.proofs.Options.{option_map-some, option_bind-some}

pub times-put_same : (i r : ℕ) (q : Queue) → times i (put q r i) ≡ times i q + 1
times-put_same i r [] = rw (eq-eqb i i refl) refl
times-put_same i r (e ∷ q) = omega (arith, times-put_same i r q)

pub times-put_other : (i r v : ℕ) (q : Queue) → v ≢ i → times i (put q r v) ≡ times i q
times-put_other i r v [] n = rw (ne_eqb v i n) refl
times-put_other i r v (e ∷ q) n = omega (arith, times-put_other i r v q n)

pub times-taken_same : (i r v : ℕ) (q : Queue) → (take_from r v q).value ≡ i → times i ((r, v) ∷ q) ≡ times i (take_from r v q).rest + 1
times-taken_same i r v [] p = rw (eq-eqb v i p) refl
times-taken_same i r v (e ∷ q) p =
    let P : Taking → Type 0 = λ t. t.value ≡ i → times i ((r, v) ∷ e ∷ q) ≡ times i t.rest + 1 in
    elim (cases_lt (take_from e.0 e.1 q).rank r) [
      | inl k ↦ subst P (sym (take_from-behind r v e q k)) (λ m. omega (arith, times-taken_same i e.0 e.1 q m)) p
      | inr k ↦ subst P (sym (take_from-front r v e q k)) (λ m. rw (eq-eqb v i m) (omega arith)) p
    ]

pub times-taken_other : (i r v : ℕ) (q : Queue) → (take_from r v q).value ≢ i → times i ((r, v) ∷ q) ≡ times i (take_from r v q).rest
times-taken_other i r v [] n = rw (ne_eqb v i n) refl
times-taken_other i r v (e ∷ q) n =
    let P : Taking → Type 0 = λ t. t.value ≢ i → times i ((r, v) ∷ e ∷ q) ≡ times i t.rest in
    elim (cases_lt (take_from e.0 e.1 q).rank r) [
      | inl k ↦ subst P (sym (take_from-behind r v e q k)) (λ m. omega (arith, times-taken_other i e.0 e.1 q m)) n
      | inr k ↦ subst P (sym (take_from-front r v e q k)) (λ m. rw (ne_eqb v i m) (omega arith)) n
    ]

-- the children's conditions depend on the queue only through the number of times each index occurs
pub AreWellFormed-same : (ts : Trees Queue) (q w : Queue) (k : ℕ) → ((j : ℕ) → k ≤ j → times j w ≡ times j q) → AreWellFormed ts q k → AreWellFormed ts w k
AreWellFormed-same none q w k e h = tt
AreWellFormed-same (more t ts) q w k e h = (h.0, e k (omega arith) ∙ h.1, AreWellFormed-same ts q w (suc k) (λ j l. e j (omega arith)) h.2)

pub NamesChildren-put : (ts : Trees Queue) (q : Queue) (r i : ℕ) → NamesChildren ts q → HasChild ts i → NamesChildren ts (put q r i)
NamesChildren-put ts [] r i n h = (h, tt)
NamesChildren-put ts (e ∷ q) r i n h = (n.0, NamesChildren-put ts q r i n.1 h)

pub NamesChildren-child : (ts us : Trees Queue) (q : Queue) → ((i : ℕ) → HasChild ts i → HasChild us i) → NamesChildren ts q → NamesChildren us q
NamesChildren-child ts us [] f n = tt
NamesChildren-child ts us (e ∷ q) f n = (f e.1 n.0, NamesChildren-child ts us q f n.1)

pub push_child-has : (ts : Trees Queue) (i : ℕ) (digits ranks : List ℕ) (item j : ℕ) → HasChild ts j → HasChild (push_child ts i digits ranks item) j
push_child-has none i digits ranks item j h = h
push_child-has (more t ts) zero digits ranks item zero h = tt
push_child-has (more t ts) zero digits ranks item (suc j) h = h
push_child-has (more t ts) (suc i) digits ranks item zero h = tt
push_child-has (more t ts) (suc i) digits ranks item (suc j) h = push_child-has ts i digits ranks item j h

pub leads_has : {Q : Type 0} (ts : Trees Q) (i : ℕ) (digits : List ℕ) → LeadsBelow ts i digits → HasChild ts i
leads_has none i digits l = l
leads_has (more t ts) zero digits l = tt
leads_has (more t ts) (suc i) digits l = leads_has ts i digits l

mutual
  pub size-push : (t : Tree Queue) (digits ranks : List ℕ) (item : ℕ) → LeadsToLeaf t digits → size (push t digits ranks item) ≡ size t + 1
  size-push (leaf q) digits ranks item l = length-put q (slice_index ranks 0) item
  size-push (inner q ts) [] ranks item l = absurd l
  size-push (inner q ts) (i ∷ digits) ranks item l = sizes-push ts i digits (drop 1 ranks) item l

  pub sizes-push : (ts : Trees Queue) (i : ℕ) (digits ranks : List ℕ) (item : ℕ) → LeadsBelow ts i digits → sizes (push_child ts i digits ranks item) ≡ sizes ts + 1
  sizes-push none i digits ranks item l = absurd l
  sizes-push (more t ts) zero digits ranks item l = omega (arith, size-push t digits ranks item l)
  sizes-push (more t ts) (suc i) digits ranks item l = omega (arith, sizes-push ts i digits ranks item l)

mutual
  pub IsWellFormed-push : (t : Tree Queue) (digits ranks : List ℕ) (item : ℕ) → LeadsToLeaf t digits → IsWellFormed t → IsWellFormed (push t digits ranks item)
  IsWellFormed-push (leaf q) digits ranks item l w = tt
  IsWellFormed-push (inner q ts) [] ranks item l w = absurd l
  IsWellFormed-push (inner q ts) (i ∷ digits) ranks item l w = (
    NamesChildren-put (push_child ts i digits (drop 1 ranks) item) q (slice_index ranks 0) i
        (NamesChildren-child ts (push_child ts i digits (drop 1 ranks) item) q (push_child-has ts i digits (drop 1 ranks) item) w.0)
        (push_child-has ts i digits (drop 1 ranks) item i (leads_has ts i digits l)),
    AreWellFormed-push ts i digits (drop 1 ranks) item q 0 (slice_index ranks 0) i (omega arith) l w.1,
  )

  pub AreWellFormed-push : (ts : Trees Queue) (i : ℕ) (digits ranks : List ℕ) (item : ℕ) (q : Queue) (k rank v : ℕ) → v ≡ i + k → LeadsBelow ts i digits
      → AreWellFormed ts q k → AreWellFormed (push_child ts i digits ranks item) (put q rank v) k
  AreWellFormed-push none i digits ranks item q k rank v e l w = absurd l
  AreWellFormed-push (more t ts) zero digits ranks item q k rank v e l w =
      let vk : k ≡ v = omega arith in (
        IsWellFormed-push t digits ranks item l w.0,
        subst (λ (z : ℕ). times k (put q rank z) ≡ size (push t digits ranks item)) vk (omega (arith, times-put_same k rank q, w.1, size-push t digits ranks item l)),
        AreWellFormed-same ts q (put q rank v) (suc k) (λ j m. times-put_other j rank v q (omega arith)) w.2,
      )
  AreWellFormed-push (more t ts) (suc i) digits ranks item q k rank v e l w =
      let n : v ≢ k = omega arith in
      (w.0, times-put_other k rank v q n ∙ w.1, AreWellFormed-push ts i digits ranks item q (suc k) rank v (omega arith) l w.2)

-- ---- pop
pub pop_child-has_child : (ts : Trees Queue) (i : ℕ) (r : Popping (Trees Queue)) → pop_child ts i ≡ Some r → (j : ℕ) → HasChild ts j → HasChild r.left j
pop_child-has_child none i r p j h = absurd h
pop_child-has_child (more t ts) zero r p j h =
    let v : (y : Popping (Tree Queue)) × (pop t ≡ Some y) × (of_first ts y ≡ r) = option_map-some (of_first ts) (pop t) r p in
    subst (λ (z : Popping (Trees Queue)). HasChild z.left j) v.2 (same v.0.left j h)
  where
    same : (u : Tree Queue) (j : ℕ) → HasChild (more t ts) j → HasChild (more u ts) j
    same u zero h = tt
    same u (suc j) h = h
pop_child-has_child (more t ts) (suc i) r p j h =
    let v : (y : Popping (Trees Queue)) × (pop_child ts i ≡ Some y) × (of_later t y ≡ r) = option_map-some (of_later t) (pop_child ts i) r p in
    subst (λ (z : Popping (Trees Queue)). HasChild z.left j) v.2 (later v.0.left (pop_child-has_child ts i v.0 v.1) j h)
  where
    later : (us : Trees Queue) → ((k : ℕ) → HasChild ts k → HasChild us k) → (j : ℕ) → HasChild (more t ts) j → HasChild (more t us) j
    later us f zero h = tt
    later us f (suc k) h = f k h

pub taken_names : (ts : Trees Queue) (r v : ℕ) (q : Queue) → HasChild ts v → NamesChildren ts q → HasChild ts (take_from r v q).value
taken_names ts r v [] h n = h
taken_names ts r v (e ∷ q) h n =
    let P : Taking → Type 0 = λ t. HasChild ts t.value in
    elim (cases_lt (take_from e.0 e.1 q).rank r) [
      | inl k ↦ subst P (sym (take_from-behind r v e q k)) (taken_names ts e.0 e.1 q n.0 n.1)
      | inr k ↦ subst P (sym (take_from-front r v e q k)) h
    ]

pub NamesChildren-rest : (ts : Trees Queue) (r v : ℕ) (q : Queue) → HasChild ts v → NamesChildren ts q → NamesChildren ts (take_from r v q).rest
NamesChildren-rest ts r v [] h n = tt
NamesChildren-rest ts r v (e ∷ q) h n =
    let P : Taking → Type 0 = λ t. NamesChildren ts t.rest in
    elim (cases_lt (take_from e.0 e.1 q).rank r) [
      | inl k ↦ subst P (sym (take_from-behind r v e q k)) (h, NamesChildren-rest ts e.0 e.1 q n.0 n.1)
      | inr k ↦ subst P (sym (take_from-front r v e q k)) n
    ]

mutual
  pub size-pop : (t : Tree Queue) (r : Popping (Tree Queue)) → pop t ≡ Some r → size t ≡ size r.left + 1
  size-pop (leaf []) r p = cc
  size-pop (leaf (e ∷ q)) r p =
      let v : of_leaf (take_from e.0 e.1 q) ≡ r = cc in
      subst (λ (z : Popping (Tree Queue)). length (e ∷ q) ≡ size z.left + 1) v (omega (arith, length-rest e.0 e.1 q))
  size-pop (inner q ts) r p =
      let w : (x : Taking) × (take_least q ≡ Some x) × (option_map (of_inner x) (pop_child ts x.value) ≡ Some r) = option_bind-some _ (take_least q) r p in
      let v : (y : Popping (Trees Queue)) × (pop_child ts w.0.value ≡ Some y) × (of_inner w.0 y ≡ r) = option_map-some (of_inner w.0) (pop_child ts w.0.value) r w.2 in
      subst (λ (z : Popping (Tree Queue)). sizes ts ≡ size z.left + 1) v.2 (sizes-pop ts w.0.value v.0 v.1)

  pub sizes-pop : (ts : Trees Queue) (i : ℕ) (r : Popping (Trees Queue)) → pop_child ts i ≡ Some r → sizes ts ≡ sizes r.left + 1
  sizes-pop none i r p = cc
  sizes-pop (more t ts) zero r p =
      let v : (y : Popping (Tree Queue)) × (pop t ≡ Some y) × (of_first ts y ≡ r) = option_map-some (of_first ts) (pop t) r p in
      subst (λ (z : Popping (Trees Queue)). size t + sizes ts ≡ sizes z.left + 1) v.2 (omega (arith, size-pop t v.0 v.1))
  sizes-pop (more t ts) (suc i) r p =
      let v : (y : Popping (Trees Queue)) × (pop_child ts i ≡ Some y) × (of_later t y ≡ r) = option_map-some (of_later t) (pop_child ts i) r p in
      subst (λ (z : Popping (Trees Queue)). size t + sizes ts ≡ sizes z.left + 1) v.2 (omega (arith, sizes-pop ts i v.0 v.1))

mutual
  pub IsWellFormed-pop : (t : Tree Queue) (r : Popping (Tree Queue)) → pop t ≡ Some r → IsWellFormed t → IsWellFormed r.left
  IsWellFormed-pop (leaf q) r p w =
      let v : (x : Taking) × (take_least q ≡ Some x) × (of_leaf x ≡ r) = option_map-some of_leaf (take_least q) r p in
      subst (λ (z : Popping (Tree Queue)). IsWellFormed z.left) v.2 tt
  IsWellFormed-pop (inner [] ts) r p w = cc
  IsWellFormed-pop (inner (e ∷ q) ts) r p w =
      let x : Taking = take_from e.0 e.1 q in
      let v : (y : Popping (Trees Queue)) × (pop_child ts (take_from e.0 e.1 q).value ≡ Some y) × (of_inner (take_from e.0 e.1 q) y ≡ r) = option_map-some (of_inner (take_from e.0 e.1 q)) (pop_child ts (take_from e.0 e.1 q).value) r p in
      subst (λ (z : Popping (Tree Queue)). IsWellFormed z.left) v.2 (
        NamesChildren-child ts v.0.left (take_from e.0 e.1 q).rest (pop_child-has_child ts (take_from e.0 e.1 q).value v.0 v.1) (NamesChildren-rest ts e.0 e.1 q w.0.0 w.0.1),
        AreWellFormed-pop ts (take_from e.0 e.1 q).value v.0 v.1 e q 0 (omega arith) w.1,
      )

  pub AreWellFormed-pop : (ts : Trees Queue) (i : ℕ) (r : Popping (Trees Queue)) → pop_child ts i ≡ Some r → (e : ℕ × ℕ) (q : Queue) (k : ℕ) → (take_from e.0 e.1 q).value ≡ i + k
      → AreWellFormed ts (e ∷ q) k → AreWellFormed r.left (take_from e.0 e.1 q).rest k
  AreWellFormed-pop none i r p e q k m w = cc
  AreWellFormed-pop (more t ts) zero r p e q k m w =
      let v : (y : Popping (Tree Queue)) × (pop t ≡ Some y) × (of_first ts y ≡ r) = option_map-some (of_first ts) (pop t) r p in
      subst (λ (z : Popping (Trees Queue)). AreWellFormed z.left (take_from e.0 e.1 q).rest k) v.2 (
        IsWellFormed-pop t v.0 v.1 w.0,
        omega (arith, times-taken_same k e.0 e.1 q (omega arith), w.1, size-pop t v.0 v.1),
        AreWellFormed-same ts (e ∷ q) (take_from e.0 e.1 q).rest (suc k) (λ j n. sym (times-taken_other j e.0 e.1 q (omega arith))) w.2,
      )
  AreWellFormed-pop (more t ts) (suc i) r p e q k m w =
      let v : (y : Popping (Trees Queue)) × (pop_child ts i ≡ Some y) × (of_later t y ≡ r) = option_map-some (of_later t) (pop_child ts i) r p in
      subst (λ (z : Popping (Trees Queue)). AreWellFormed z.left (take_from e.0 e.1 q).rest k) v.2 (
        w.0,
        sym (times-taken_other k e.0 e.1 q (omega arith)) ∙ w.1,
        AreWellFormed-pop ts i v.0 v.1 e q (suc k) (omega arith) w.2,
      )

-- ---- a child in the queue has packets to pop
-- the number of entries in a queue that name one of the children from index k on
abbrev pub all_times : Trees Queue → Queue → ℕ → ℕ
all_times none q k = 0
all_times (more t ts) q k = times k q + all_times ts q (suc k)

pub all_times-nil : (ts : Trees Queue) (k : ℕ) → all_times ts [] k ≡ 0
all_times-nil none k = refl
all_times-nil (more t ts) k = omega (arith, all_times-nil ts (suc k))

pub all_times-below : (ts : Trees Queue) (e : ℕ × ℕ) (q : Queue) (k : ℕ) → e.1 < k → all_times ts (e ∷ q) k ≡ all_times ts q k
all_times-below none e q k l = refl
all_times-below (more t ts) e q k l =
    let n : e.1 ≢ k = omega arith in
    rw (ne_eqb e.1 k n) (omega (arith, all_times-below ts e q (suc k) (omega arith)))

pub all_times-cons : (ts : Trees Queue) (e : ℕ × ℕ) (q : Queue) (i k : ℕ) → e.1 ≡ i + k → HasChild ts i → all_times ts (e ∷ q) k ≡ all_times ts q k + 1
all_times-cons none e q i k m h = absurd h
all_times-cons (more t ts) e q zero k m h =
    let n : e.1 ≡ k = omega arith in
    rw (eq-eqb e.1 k n) (omega (arith, all_times-below ts e q (suc k) (omega arith)))
all_times-cons (more t ts) e q (suc i) k m h =
    let n : e.1 ≢ k = omega arith in
    rw (ne_eqb e.1 k n) (omega (arith, all_times-cons ts e q i (suc k) (omega arith) h))

pub all_times-length : (ts : Trees Queue) (q : Queue) → NamesChildren ts q → all_times ts q 0 ≡ length q
all_times-length ts [] n = all_times-nil ts 0
all_times-length ts (e ∷ q) n = all_times-cons ts e q e.1 0 (omega arith) n.0 ∙ omega (arith, all_times-length ts q n.1)

pub all_times-sizes : (ts : Trees Queue) (q : Queue) (k : ℕ) → AreWellFormed ts q k → all_times ts q k ≡ sizes ts
all_times-sizes none q k w = refl
all_times-sizes (more t ts) q k w = omega (arith, w.1, all_times-sizes ts q (suc k) w.2)

-- an inner node's queue has as many entries as there are packets below it
pub length-size : (q : Queue) (ts : Trees Queue) → IsWellFormed (inner q ts) → length q ≡ sizes ts
length-size q ts w = sym (all_times-length ts q w.0) ∙ all_times-sizes ts q 0 w.1

-- a child that occurs in the queue has packets
pub times-taken : (r v : ℕ) (q : Queue) → 0 < times (take_from r v q).value ((r, v) ∷ q)
times-taken r v q = omega (arith, times-taken_same (take_from r v q).value r v q refl)

mutual
  pub pop-some : (t : Tree Queue) → IsWellFormed t → 0 < size t → (r : Popping (Tree Queue)) × (pop t ≡ Some r)
  pop-some (leaf []) w l = absurd (omega arith)
  pop-some (leaf (e ∷ q)) w l = (of_leaf (take_from e.0 e.1 q), refl)
  pop-some (inner [] ts) w l = absurd (omega (arith, length-size [] ts w))
  pop-some (inner (e ∷ q) ts) w l =
      let x : Taking = take_from e.0 e.1 q in
      let v : (y : Popping (Trees Queue)) × (pop_child ts (take_from e.0 e.1 q).value ≡ Some y)
      = pop_child-some ts (take_from e.0 e.1 q).value (e ∷ q) 0 (take_from e.0 e.1 q).value (omega arith) w.1 (taken_names ts e.0 e.1 q w.0.0 w.0.1) (times-taken e.0 e.1 q) in
      (of_inner (take_from e.0 e.1 q) v.0, ap (option_map (of_inner (take_from e.0 e.1 q))) v.1)

  pub pop_child-some : (ts : Trees Queue) (i : ℕ) (q : Queue) (k v : ℕ) → v ≡ i + k → AreWellFormed ts q k → HasChild ts i → 0 < times v q → (r : Popping (Trees Queue)) × (pop_child ts i ≡ Some r)
  pop_child-some none i q k v m w h l = absurd h
  pop_child-some (more t ts) zero q k v m w h l =
      let e : v ≡ k = omega arith in
      let y : (r : Popping (Tree Queue)) × (pop t ≡ Some r) = pop-some t w.0 (subst (λ (n : ℕ). 0 < n) (ap (λ (z : ℕ). times z q) e ∙ w.1) l) in
      (of_first ts y.0, ap (option_map (of_first ts)) y.1)
  pop_child-some (more t ts) (suc i) q k v m w h l =
      let y : (r : Popping (Trees Queue)) × (pop_child ts i ≡ Some r) = pop_child-some ts i q (suc k) v (omega arith) w.2 h l in
      (of_later t y.0, ap (option_map (of_later t)) y.1)

-- a well-formed tree is in range
mutual
  pub in_range : (t : Tree Queue) → IsWellFormed t → IsInRange t
  in_range (leaf q) w = tt
  in_range (inner q ts) w = (w.0, are_in_range ts q 0 w.1)

  pub are_in_range : (ts : Trees Queue) (q : Queue) (k : ℕ) → AreWellFormed ts q k → AreInRange ts
  are_in_range none q k w = tt
  are_in_range (more t ts) q k w = (in_range t w.0, are_in_range ts q (suc k) w.2)

-- ---- an empty tree, and the meaning of an empty pop
mutual
  pub IsWellFormed-empty : (t : Topology) → IsWellFormed (empty_tree t)
  IsWellFormed-empty (leaf u) = tt
  IsWellFormed-empty (inner u ts) = (tt, AreWellFormed-empty ts 0)

  pub AreWellFormed-empty : (ts : Trees (Unit {0})) (k : ℕ) → AreWellFormed (empty_trees ts) [] k
  AreWellFormed-empty none k = tt
  AreWellFormed-empty (more t ts) k = (IsWellFormed-empty t, sym (size-empty t), AreWellFormed-empty ts (suc k))

  pub size-empty : (t : Topology) → size (empty_tree t) ≡ 0
  size-empty (leaf u) = refl
  size-empty (inner u ts) = sizes-empty ts

  pub sizes-empty : (ts : Trees (Unit {0})) → sizes (empty_trees ts) ≡ 0
  sizes-empty none = refl
  sizes-empty (more t ts) = omega (arith, size-empty t, sizes-empty ts)

-- the root's queue has as many entries as there are packets
pub length-root : (t : Tree Queue) → IsWellFormed t → length (root_of t) ≡ size t
length-root (leaf q) w = refl
length-root (inner q ts) w = length-size q ts w

pub pop-none : (t : Tree Queue) → IsWellFormed t → (pop t ≡ None) ↔ (root_of t ≡ [])
pop-none t w = (empty t w, given t)
  where
    given : (t : Tree Queue) → root_of t ≡ [] → pop t ≡ None
    given (leaf []) p = refl
    given (leaf (e ∷ q)) p = cc
    given (inner [] ts) p = refl
    given (inner (e ∷ q) ts) p = cc

    empty : (t : Tree Queue) → IsWellFormed t → pop t ≡ None → root_of t ≡ []
    empty (leaf []) w p = refl
    empty (leaf (e ∷ q)) w p = cc
    empty (inner [] ts) w p = refl
    empty (inner (e ∷ q) ts) w p =
        let some : (r : Popping (Tree Queue)) × (pop (inner (e ∷ q) ts) ≡ Some r) = pop-some (inner (e ∷ q) ts) w (omega (arith, length-size (e ∷ q) ts w)) in
        let no : None ≡ Some some.0 = sym p ∙ some.1 in
        cc
