-- Pushes and pops along the path to a leaf: what they require, and what they leave unchanged.
use Rattle.std.specs.Prelude.{ℕ, ◌≡◌, ◌≤◌, ◌<◌, ◌+◌, ◌^◌, List, [], Option, length}
use Rattle.tree_defs.specs.Queue.{Queue}
use Rattle.embed_defs.specs.Family.{Family, SameQueues, IsLeafAddress, AreRanks}
use Rattle.embed_defs.specs.Spills.{spills_along}
use Rattle.fabric_core.specs.Array.{nodes, queues_at, flows_at}
use Rattle.fabric_core.specs.Flow.{IsFlow, HasFlows}

-- the digits lead to a leaf of the tree of these arities, with a rank for each node on the path
pub record IsPath (arities ds rs : List ℕ) : Type 0 where
  pub leaf : IsLeafAddress arities ds
  pub one_more : length rs ≡ length ds + 1
  pub ranks : AreRanks rs

-- there is a place for each digit of a path of this tree, and one for each rank
pub record HasPlaces (arities ds rs : List ℕ) : Type 0 where
  pub digits : length ds ≡ length arities
  pub ranks : length rs ≡ length arities + 1

-- a push doesn't change the shape or the number of pops
pub record KeptByPush (arities arities' : List ℕ) (pops pops' : ℕ) : Type 0 where
  pub shape : arities' ≡ arities
  pub popped : pops' ≡ pops

-- a pop doesn't change the shape or the numbers of pushes and spills
pub record KeptByPop (arities arities' : List ℕ) (pushes pushes' : ℕ) (spills spills' : Option ℕ) : Type 0 where
  pub shape : arities' ≡ arities
  pub pushed : pushes' ≡ pushes
  pub spilled : spills' ≡ spills

-- the queues, the digits and the ranks are unchanged
pub record IsUnchanged (F F' : Family) (ds ds' rs rs' : List ℕ) : Type 0 where
  pub queues : SameQueues F' F
  pub digits : ds' ≡ ds
  pub ranks : rs' ≡ rs

-- ---- the walks through the array of queues
-- the array has a queue for each node of the tree of these arities, and fewer than 2^32 queues
pub record HoldsTree (arities : List ℕ) (count : ℕ) : Type 0 where
  pub nodes : nodes arities ≡ count
  pub small : count < 2 ^ 32

-- the digits lead to a leaf, and there is one more rank
pub record LeadsToLeaf (arities ds rs : List ℕ) : Type 0 where
  pub leaf : IsLeafAddress arities ds
  pub one_more : length rs ≡ length ds + 1

-- the root's queue is empty, and nothing changed
pub record PopsNothing (arities : List ℕ) (old new : List Queue) (ds ds' rs rs' : List ℕ) : Type 0 where
  pub empty : queues_at arities old 0 1 0 [] ≡ []
  pub entries : new ≡ old
  pub digits : ds' ≡ ds
  pub ranks : rs' ≡ rs

-- A push counts its spills, if each queue has a flow for each child or one at a leaf. It spills at
-- most once for each node on its path. No queue's number of flows changes.
pub record CountsSpills (arities ds rs : List ℕ) (queues : List Queue) (told told' : List ℕ) (count : ℕ) : Type 0 where
  pub flows : told' ≡ told
  pub spilled : HasFlows arities (flows_at arities told 0 1 0) → IsFlow arities (queues_at arities queues 0 1 0) → count ≡ spills_along ds rs (queues_at arities queues 0 1 0)
  pub few_spilled : count ≤ length ds + 1
