-- Trees in which no entry of a child is above the child's floor.
use Rattle.block_replay.proofs.Prelude.{◌≡◌, [], ℕ, arith, ◌∷◌, List, Some, subst, suc, zero, ◌≤◌, ◌++◌, drop, AllByRecursion, slice_index, option_map, all_mapped, Queue, Taking, put, take_least, empty_tree, pop, empty_trees, of_first, of_inner, of_later, of_leaf, pop_child, push, push_child, Topology, Address, Tree, Trees, inner, leaf, none, more, LeadsToLeaf, LeadsBelow, Popping}
use Rattle.tree_defs.specs.Queue.{Entry}
use Rattle.tree_defs.proofs.Options.{option_map-some, option_bind-some}
use Rattle.tree_defs.proofs.PacketLaws.{OneMore-put, OneMore-taken}
use Rattle.tree_defs.proofs.OneMoreLaws.{All-added, All-taken}

-- a number for each child of the node at each address; at a leaf, child 0's number is that of all
-- its packets
abbrev pub Floors : Type 0
Floors = Address → ℕ → ℕ

-- in the tree at an address, no entry is above its child's floor
abbrev mutual
  pub IsUnder : Floors → Address → Tree Queue → Type 0
  IsUnder f a (leaf q) = AllByRecursion (λ e. e.0 ≤ f a 0) q
  IsUnder f a (inner q ts) = AllByRecursion (λ e. e.0 ≤ f a e.1) q × AreUnder f (λ i. a ++ i ∷ []) ts

  -- the children, by the address of each
  pub AreUnder : Floors → (ℕ → Address) → Trees Queue → Type 0
  AreUnder f at none = Unit {0}
  AreUnder f at (more t ts) = IsUnder f (at 0) t × AreUnder f (λ i. at (suc i)) ts

-- no rank on the path from an address is above its child's floor
abbrev pub AreRanksUnder : Floors → Address → List ℕ → List ℕ → Type 0
AreRanksUnder f a [] ranks = slice_index ranks 0 ≤ f a 0
AreRanksUnder f a (i ∷ digits) ranks = (slice_index ranks 0 ≤ f a i) × AreRanksUnder f (a ++ i ∷ []) digits (drop 1 ranks)

-- no rank is below its child's floor
abbrev pub AreRanksOver : Floors → Address → List ℕ → List ℕ → Type 0
AreRanksOver f a [] ranks = f a 0 ≤ slice_index ranks 0
AreRanksOver f a (i ∷ digits) ranks = (f a i ≤ slice_index ranks 0) × AreRanksOver f (a ++ i ∷ []) digits (drop 1 ranks)

-- ---- floors that don't fall
module _ (f g : Floors) (rises : (a : Address) (i : ℕ) → f a i ≤ g a i) where
  mutual
    pub IsUnder-risen : (a : Address) (t : Tree Queue) → IsUnder f a t → IsUnder g a t
    IsUnder-risen a (leaf q) h = all_mapped (λ (e : Entry). e.0 ≤ f a 0) (λ e. e.0 ≤ g a 0) (λ e l. (let r : f a 0 ≤ g a 0 = rises a 0 in omega (arith, l, r))) q h
    IsUnder-risen a (inner q ts) h =
        (all_mapped (λ (e : Entry). e.0 ≤ f a e.1) (λ e. e.0 ≤ g a e.1) (λ e l. (let r : f a e.1 ≤ g a e.1 = rises a e.1 in omega (arith, l, r))) q h.0, AreUnder-risen (λ i. a ++ i ∷ []) ts h.1)

    pub AreUnder-risen : (at : ℕ → Address) (ts : Trees Queue) → AreUnder f at ts → AreUnder g at ts
    AreUnder-risen at none h = tt
    AreUnder-risen at (more t ts) h = (IsUnder-risen (at 0) t h.0, AreUnder-risen (λ i. at (suc i)) ts h.1)

module _ (f : Floors) where
  -- ---- pushes
  mutual
    pub IsUnder-push : (a : Address) (t : Tree Queue) (digits ranks : List ℕ) (item : ℕ) → LeadsToLeaf t digits → AreRanksUnder f a digits ranks → IsUnder f a t → IsUnder f a (push t digits ranks item)
    IsUnder-push a (leaf q) [] ranks item leads l h =
        All-added (λ (e : Entry). e.0 ≤ f a 0) (slice_index ranks 0, item) q (put q (slice_index ranks 0) item) (OneMore-put q (slice_index ranks 0) item) l h
    IsUnder-push a (leaf q) (i ∷ digits) ranks item leads l h = absurd leads
    IsUnder-push a (inner q ts) [] ranks item leads l h = absurd leads
    IsUnder-push a (inner q ts) (i ∷ digits) ranks item leads l h = (
      All-added (λ (e : Entry). e.0 ≤ f a e.1) (slice_index ranks 0, i) q (put q (slice_index ranks 0) i) (OneMore-put q (slice_index ranks 0) i) l.0 h.0,
      AreUnder-push (λ j. a ++ j ∷ []) ts i digits (drop 1 ranks) item leads l.1 h.1,
    )

    pub AreUnder-push : (at : ℕ → Address) (ts : Trees Queue) (i : ℕ) (digits ranks : List ℕ) (item : ℕ) → LeadsBelow ts i digits → AreRanksUnder f (at i) digits ranks
        → AreUnder f at ts → AreUnder f at (push_child ts i digits ranks item)
    AreUnder-push at none i digits ranks item leads l h = absurd leads
    AreUnder-push at (more t ts) zero digits ranks item leads l h = (IsUnder-push (at 0) t digits ranks item leads l h.0, h.1)
    AreUnder-push at (more t ts) (suc i) digits ranks item leads l h = (h.0, AreUnder-push (λ j. at (suc j)) ts i digits ranks item leads l h.1)

  -- ---- pops
  mutual
    pub IsUnder-pop : (a : Address) (t : Tree Queue) (r : Popping (Tree Queue)) → pop t ≡ Some r → IsUnder f a t → IsUnder f a r.left
    IsUnder-pop a (leaf q) r p h =
        let w : (x : Taking) × (take_least q ≡ Some x) × (of_leaf x ≡ r) = option_map-some of_leaf (take_least q) r p in
        subst (λ (z : Popping (Tree Queue)). IsUnder f a z.left) w.2 (All-taken (λ (e : Entry). e.0 ≤ f a 0) (w.0.rank, w.0.value) w.0.rest q (OneMore-taken q w.0 w.1) h).1
    IsUnder-pop a (inner q ts) r p h =
        let w : (x : Taking) × (take_least q ≡ Some x) × (option_map (of_inner x) (pop_child ts x.value) ≡ Some r) = option_bind-some _ (take_least q) r p in
        let v : (y : Popping (Trees Queue)) × (pop_child ts w.0.value ≡ Some y) × (of_inner w.0 y ≡ r) = option_map-some (of_inner w.0) (pop_child ts w.0.value) r w.2 in
        subst (λ (z : Popping (Tree Queue)). IsUnder f a z.left) v.2
        ((All-taken (λ (e : Entry). e.0 ≤ f a e.1) (w.0.rank, w.0.value) w.0.rest q (OneMore-taken q w.0 w.1) h.0).1, AreUnder-pop (λ j. a ++ j ∷ []) ts w.0.value v.0 v.1 h.1)

    pub AreUnder-pop : (at : ℕ → Address) (ts : Trees Queue) (i : ℕ) (r : Popping (Trees Queue)) → pop_child ts i ≡ Some r → AreUnder f at ts → AreUnder f at r.left
    AreUnder-pop at none i r p h = cc
    AreUnder-pop at (more t ts) zero r p h =
        let v : (y : Popping (Tree Queue)) × (pop t ≡ Some y) × (of_first ts y ≡ r) = option_map-some (of_first ts) (pop t) r p in
        subst (λ (z : Popping (Trees Queue)). AreUnder f at z.left) v.2 (IsUnder-pop (at 0) t v.0 v.1 h.0, h.1)
    AreUnder-pop at (more t ts) (suc i) r p h =
        let v : (y : Popping (Trees Queue)) × (pop_child ts i ≡ Some y) × (of_later t y ≡ r) = option_map-some (of_later t) (pop_child ts i) r p in
        subst (λ (z : Popping (Trees Queue)). AreUnder f at z.left) v.2 (h.0, AreUnder-pop (λ j. at (suc j)) ts i v.0 v.1 h.1)

  -- ---- empty trees
  mutual
    pub IsUnder-empty : (a : Address) (t : Topology) → IsUnder f a (empty_tree t)
    IsUnder-empty a (leaf u) = tt
    IsUnder-empty a (inner u ts) = (tt, AreUnder-empty (λ j. a ++ j ∷ []) ts)

    pub AreUnder-empty : (at : ℕ → Address) (ts : Trees (Unit {0})) → AreUnder f at (empty_trees ts)
    AreUnder-empty at none = tt
    AreUnder-empty at (more t ts) = (IsUnder-empty (at 0) t, AreUnder-empty (λ j. at (suc j)) ts)
