-- Trees of push-in first-out queues (OOPSLA 2023), with packet numbers at the leaves and children's
-- indices at the inner nodes.
use Rattle.std.specs.Prelude.{ℕ, zero, suc, ◌+◌, ◌≡◌, refl, List, [], ◌∷◌, length, Option, Some, None, option_map, nat_eq, slice_index, drop, if◌then◌else◌}
use Rattle.tree_defs.specs.Queue.{Queue, put, take_least, Taking}
use Rattle.tree_defs.specs.Tree.{Tree, leaf, inner, Trees, none, more, HasChild, Popping, option_bind}
use Rattle.tree_defs.specs.Topology.{Topology}

abbrev pub SourceTree : Type 0
SourceTree = Tree Queue

-- the tree of this topology whose queues are all empty
abbrev mutual
  pub empty_tree : Topology → SourceTree
  empty_tree (leaf u) = leaf []
  empty_tree (inner u ts) = inner [] (empty_trees ts)

  pub empty_trees : Trees (Unit {0}) → Trees Queue
  empty_trees none = none
  empty_trees (more t ts) = more (empty_tree t) (empty_trees ts)

-- puts a rank and a child's index at each inner node on the path, and the last rank and the item at
-- the leaf
abbrev mutual
  pub push : Tree Queue → List ℕ → List ℕ → ℕ → Tree Queue
  push (leaf q) digits ranks item = leaf (put q (slice_index ranks 0) item)
  push (inner q ts) [] ranks item = inner q ts
  push (inner q ts) (i ∷ digits) ranks item = inner (put q (slice_index ranks 0) i) (push_child ts i digits (drop 1 ranks) item)

  pub push_child : Trees Queue → ℕ → List ℕ → List ℕ → ℕ → Trees Queue
  push_child none i digits ranks item = none
  push_child (more t ts) zero digits ranks item = more (push t digits ranks item) ts
  push_child (more t ts) (suc i) digits ranks item = more t (push_child ts i digits ranks item)

abbrev pub of_leaf : Taking → Popping (Tree Queue)
of_leaf e = record { value = e.value; digits = []; ranks = e.rank ∷ []; left = leaf e.rest }

abbrev pub of_inner : Taking → Popping (Trees Queue) → Popping (Tree Queue)
of_inner e p = record { value = p.value; digits = e.value ∷ p.digits; ranks = e.rank ∷ p.ranks; left = inner e.rest p.left }

abbrev pub of_first : Trees Queue → Popping (Tree Queue) → Popping (Trees Queue)
of_first ts p = record { value = p.value; digits = p.digits; ranks = p.ranks; left = more p.left ts }

abbrev pub of_later : Tree Queue → Popping (Trees Queue) → Popping (Trees Queue)
of_later t p = record { value = p.value; digits = p.digits; ranks = p.ranks; left = more t p.left }

-- dequeues at the root, then below the child that the dequeued value names, down to a leaf
abbrev mutual
  pub pop : Tree Queue → Option (Popping (Tree Queue))
  pop (leaf q) = option_map of_leaf (take_least q)
  pop (inner q ts) = option_bind (take_least q) (λ e. option_map (of_inner e) (pop_child ts e.value))

  pub pop_child : Trees Queue → ℕ → Option (Popping (Trees Queue))
  pop_child none i = None
  pop_child (more t ts) zero = option_map (of_first ts) (pop t)
  pop_child (more t ts) (suc i) = option_map (of_later t) (pop_child ts i)

-- the number of packets
abbrev mutual
  pub size : Tree Queue → ℕ
  size (leaf q) = length q
  size (inner q ts) = sizes ts

  pub sizes : Trees Queue → ℕ
  sizes none = 0
  sizes (more t ts) = size t + sizes ts

-- the number of times that a child occurs in a queue
abbrev pub times : ℕ → Queue → ℕ
times i [] = 0
times i (e ∷ q) = (if nat_eq e.1 i then 1 else 0) + times i q

-- each value is a child's index
abbrev pub NamesChildren : Trees Queue → Queue → Type 0
NamesChildren ts [] = Unit {0}
NamesChildren ts (e ∷ q) = HasChild ts e.1 × NamesChildren ts q

-- at each inner node every value is a child's index, and each index occurs as often as the child
-- has packets
abbrev mutual
  pub IsWellFormed : Tree Queue → Type 0
  IsWellFormed (leaf q) = Unit {0}
  IsWellFormed (inner q ts) = NamesChildren ts q × AreWellFormed ts q 0

  -- the children from index i on
  pub AreWellFormed : Trees Queue → Queue → ℕ → Type 0
  AreWellFormed none q i = Unit {0}
  AreWellFormed (more t ts) q i = IsWellFormed t × (times i q ≡ size t) × AreWellFormed ts q (suc i)

-- every value at an inner node is a child's index
abbrev mutual
  pub IsInRange : Tree Queue → Type 0
  IsInRange (leaf q) = Unit {0}
  IsInRange (inner q ts) = NamesChildren ts q × AreInRange ts

  pub AreInRange : Trees Queue → Type 0
  AreInRange none = Unit {0}
  AreInRange (more t ts) = IsInRange t × AreInRange ts

-- two leaves below a root
abbrev pub two_leaves : SourceTree
two_leaves = empty_tree (inner tt (more (leaf tt) (more (leaf tt) none)))

-- packet 1 was pushed to child 0 with rank 5 at the root, packet 2 to child 1 with rank 3
abbrev pub after_two : SourceTree
after_two = inner ((5, 0) ∷ (3, 1) ∷ []) (more (leaf ((7, 1) ∷ [])) (more (leaf ((7, 2) ∷ [])) none))

pub push-two : push (push two_leaves (0 ∷ []) (5 ∷ 7 ∷ []) 1) (1 ∷ []) (3 ∷ 7 ∷ []) 2 ≡ after_two
push-two = refl

pub pop-two : pop after_two ≡ Some (record { value = 2; digits = 1 ∷ []; ranks = 3 ∷ 7 ∷ []; left = inner ((5, 0) ∷ []) (more (leaf ((7, 1) ∷ [])) (more (leaf []) none)) })
pop-two = refl

pub size-two : size after_two ≡ 2
size-two = refl

pub pop-of_none : pop two_leaves ≡ None
pop-of_none = refl

-- one leaf below a root: packet 2 added the least entry at the root, but packet 1 is dequeued
abbrev pub inverted : SourceTree
inverted = push (push (empty_tree (inner tt (more (leaf tt) none))) (0 ∷ []) (100 ∷ 1900 ∷ []) 1) (0 ∷ []) (60 ∷ 1940 ∷ []) 2

pub pop-inverted : pop inverted ≡ Some (record { value = 1; digits = 0 ∷ []; ranks = 60 ∷ 1900 ∷ []; left = inner ((100, 0) ∷ []) (more (leaf ((1940, 2) ∷ [])) none) })
pop-inverted = refl
