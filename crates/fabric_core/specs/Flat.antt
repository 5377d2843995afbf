-- The contents of a flat fabric.
use Rattle.std.specs.Prelude.{ℕ, ◌≡◌, [], List, map}
use Rattle.tree_defs.specs.Queue.{Queue}
use Rattle.pifo_core.specs.Sorted.{Contents}
use Rattle.embed_defs.specs.Family.{Address, Family, IsEmpty}
use Rattle.fabric_core.specs.Array.{queues_at, room_at}

-- the state that contracts refer to
pub record Flat : Type 0 where
  pub arities : List ℕ
  pub queues : List Contents
  pub pushed : ℕ
  pub popped : ℕ

-- ---- the parts of its queues
abbrev pub entries_of : List Contents → List Queue
entries_of queues = map (λ q. q.entries) queues

abbrev pub pushes_of : List Contents → List ℕ
pushes_of queues = map (λ q. q.pushes) queues

abbrev pub spare_of : List Contents → List ℕ
spare_of queues = map (λ q. q.spare) queues

-- the queue at each address from the root
abbrev pub flat_queues : Flat → Family
flat_queues f = queues_at f.arities (entries_of f.queues) 0 1 0

-- the free slots of the queue at each address
abbrev pub flat_room : Flat → Address → ℕ
flat_room f = room_at f.arities (spare_of f.queues) 0 1 0

-- a single empty leaf, with no pushes or pops yet
pub record IsNew (f : Flat) : Type 0 where
  pub leaf : f.arities ≡ []
  pub empty : IsEmpty (flat_queues f)
  pub pushed : f.pushed ≡ 0
  pub popped : f.popped ≡ 0
