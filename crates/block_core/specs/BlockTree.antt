-- The contents of a fabric of rank stores.
use Rattle.std.specs.Prelude.{ℕ, ◌≡◌, ◌≤◌, ◌*◌, ◌^◌, [], List, map}
use Rattle.tree_defs.specs.Queue.{Queue}
use Rattle.embed_defs.specs.Family.{Address, Family, IsEmpty}
use Rattle.fabric_core.specs.Array.{queues_at, room_at, flows_at}
use Rattle.fabric_core.specs.Flow.{HasFlows, IsSound}
use Rattle.block_core.specs.Block.{Block}

-- the state that contracts refer to
pub record BlockTree : Type 0 where
  pub arities : List ℕ
  pub queues : List Block
  pub pushed : ℕ
  pub popped : ℕ
  pub spilled : ℕ

-- ---- the parts of its queues
abbrev pub entries_of : List Block → List Queue
entries_of queues = map (λ q. q.entries) queues

abbrev pub pushes_of : List Block → List ℕ
pushes_of queues = map (λ q. q.pushes) queues

abbrev pub spare_of : List Block → List ℕ
spare_of queues = map (λ q. q.spare) queues

abbrev pub flows_of : List Block → List ℕ
flows_of queues = map (λ q. q.flows) queues

-- the queue at each address from the root
abbrev pub block_queues : BlockTree → Family
block_queues f = queues_at f.arities (entries_of f.queues) 0 1 0

-- the free slots of the queue at each address
abbrev pub block_room : BlockTree → Address → ℕ
block_room f = room_at f.arities (spare_of f.queues) 0 1 0

-- The queues are those of a fabric. Each has a flow for each child, or one at a leaf. There are at
-- most 2^32 spills per push.
pub record IsBlockTree (arities : List ℕ) (queues : List Block) (pushed spilled : ℕ) : Type 0 where
  pub sound : IsSound arities (entries_of queues) (pushes_of queues) pushed
  pub flows : HasFlows arities (flows_at arities (flows_of queues) 0 1 0)
  pub few : spilled ≤ pushed * 2 ^ 32

-- a single empty leaf, with no pushes, pops or spills yet
pub record IsNew (f : BlockTree) : Type 0 where
  pub leaf : f.arities ≡ []
  pub empty : IsEmpty (block_queues f)
  pub pushed : f.pushed ≡ 0
  pub popped : f.popped ≡ 0
  pub spilled : f.spilled ≡ 0
