-- The packets queued in a source tree.
use Rattle.std.specs.Prelude.{ℕ, zero, suc, ◌≡◌, refl, List, [], ◌∷◌, ◌++◌, map}
use Rattle.tree_defs.specs.Queue.{Queue}
use Rattle.tree_defs.specs.Tree.{Tree, leaf, inner, Trees, none, more, Address}
use Rattle.tree_defs.specs.SourceTree.{after_two, inverted}

-- the packet numbers in the leaves' queues, in the order of the leaves
abbrev mutual
  pub values : Tree Queue → List ℕ
  values (leaf q) = map (λ e. e.1) q
  values (inner q ts) = values_below ts

  pub values_below : Trees Queue → List ℕ
  values_below none = []
  values_below (more t ts) = values t ++ values_below ts

-- a packet's number, with the address of its leaf
abbrev pub Placed : Type 0
Placed = Address × ℕ

abbrev pub below : ℕ → Placed → Placed
below i p = (i ∷ p.0, p.1)

-- the packet numbers with their leaves' addresses, in the order of the leaves
abbrev mutual
  pub packets : Tree Queue → List Placed
  packets (leaf q) = map (λ e. ([], e.1)) q
  packets (inner q ts) = packets_below ts 0

  -- the children from index i on
  pub packets_below : Trees Queue → ℕ → List Placed
  packets_below none i = []
  packets_below (more t ts) i = map (below i) (packets t) ++ packets_below ts (suc i)

-- the queue at a leaf address; an empty queue at any other address
abbrev mutual
  pub queue_at : Tree Queue → Address → Queue
  queue_at (leaf q) [] = q
  queue_at (leaf q) (i ∷ a) = []
  queue_at (inner q ts) [] = []
  queue_at (inner q ts) (i ∷ a) = queue_in ts i a

  pub queue_in : Trees Queue → ℕ → Address → Queue
  queue_in none i a = []
  queue_in (more t ts) zero a = queue_at t a
  queue_in (more t ts) (suc i) a = queue_in ts i a

-- ys is xs with one more item
pub record OneMore {X : Type 0} (x : X) (xs ys : List X) : Type 0 where
  pub before : List X
  pub behind : List X
  pub without : xs ≡ before ++ behind
  pub with_it : ys ≡ before ++ x ∷ behind

pub values-two : values after_two ≡ 1 ∷ 2 ∷ []
values-two = refl

pub packets-two : packets after_two ≡ (0 ∷ [], 1) ∷ (1 ∷ [], 2) ∷ []
packets-two = refl

pub queue_at-inverted : queue_at inverted (0 ∷ []) ≡ (1900, 1) ∷ (1940, 2) ∷ []
queue_at-inverted = refl
