-- The use of a node's queue, push by push and pop by pop.
use Rattle.std.specs.Prelude.{ℕ, ◌+◌, ◌-◌, max, min, Option, None, Some, option_map, [], ◌∷◌, length}
use Rattle.tree_defs.specs.Queue.{Queue, Taking, put, take_least}
use Rattle.size_core.specs.Stores.{Stores, store_pushed, store_popped}

-- the greatest rank of a queue, or 0 if it has no entry
abbrev pub highest : Queue → ℕ
highest [] = 0
highest (e ∷ q) = max e.0 (highest q)

-- the least rank of a queue with this rank at its front
abbrev pub lowest_from : ℕ → Queue → ℕ
lowest_from rank [] = rank
lowest_from rank (e ∷ q) = min rank (lowest_from e.0 q)

-- the greatest difference between two ranks of a queue
abbrev pub spread : Queue → ℕ
spread [] = 0
spread (e ∷ q) = highest (e ∷ q) - lowest_from e.0 q

-- A node's queue and its use so far: the number of pushes, the most entries, the greatest rank
-- pushed, and the greatest difference between two ranks that were queued together. If rank stores
-- are watched, also their contents and use.
pub record Use : Type 0 where
  pub queue : Queue
  pub pushes : ℕ
  pub most : ℕ
  pub top : ℕ
  pub span : ℕ
  pub stores : Option Stores

-- no use so far
abbrev pub unused : Option Stores → Use
unused stores = record { queue = []; pushes = 0; most = 0; top = 0; span = 0; stores = stores }

-- an entry is pushed
abbrev pub pushed : ℕ → ℕ → Use → Use
pushed rank value u =
    let queue = put u.queue rank value in
    record {
      queue = queue;
      pushes = u.pushes + 1;
      most = max u.most (length queue);
      top = max u.top rank;
      span = max u.span (spread queue);
      stores = option_map (store_pushed rank value) u.stores;
    }

-- the next entry is popped, if there is one
abbrev pub taken : Option Taking → Use → Use
taken None u = u
taken (Some t) u = record {
  queue = t.rest;
  pushes = u.pushes;
  most = u.most;
  top = u.top;
  span = u.span;
  stores = option_map (store_popped t.rank t.value) u.stores;
}

abbrev pub popped : Use → Use
popped u = taken (take_least u.queue) u
