-- The nodes of a target by index: their addresses, and the paths of packets.
use Rattle.std.specs.Prelude.{◌≡◌, ℕ, ◌+◌, Option, Some, option_map, IfSome, Vec, List, length, map, take, slice_get, slice_index}
use Rattle.std.specs.declared.alloc.Global.{Global}
use Rattle.tree_defs.specs.Tree.{Tree, Address}
use Rattle.embed_defs.specs.Images.{image_map}
use Rattle.embed_defs.specs.Lift.{lift_ranks}
use Rattle.size_core.specs.declared.hop.Hop.{Hop}

-- the address of each node, by index
abbrev pub Keys : Type 0
Keys = List (Vec ℕ Global)

abbrev pub address_in : Keys → ℕ → Option Address
address_in known i = option_map (λ b. b.items) (slice_get known i)

-- no address has two indices
abbrev pub IsOnce : Keys → Type 0
IsOnce known = (i j : ℕ) (b : Address) → address_in known i ≡ Some b → address_in known j ≡ Some b → i ≡ j

-- each address keeps its index
abbrev pub Grows : Keys → Keys → Type 0
Grows old new = (i : ℕ) (b : Address) → address_in old i ≡ Some b → address_in new i ≡ Some b

-- a node on a path to an address, at a depth: its address, the step of its rank, and the next digit
pub record IsHop (known : Keys) (a : Address) (steps : List ℕ) (depth : ℕ) (h : Hop) : Type 0 where
  pub node : address_in known h.node ≡ Some (take depth a)
  pub step : slice_get steps depth ≡ Some h.step
  pub digit : slice_get a depth ≡ h.digit

-- the nodes from the root down to an address, each with the step of its rank
pub record IsPath (known : Keys) (a : Address) (steps : List ℕ) (hops : List Hop) : Type 0 where
  pub long : length hops ≡ length a + 1
  pub each : (depth : ℕ) → IfSome (slice_get hops depth) (λ h. IsHop known a steps depth h)

-- the path to the image of a leaf; the ranks of the steps are the lifted ranks
pub record IsPathTo (known : Keys) (images : Tree Address) (leaf : Address) (hops : List Hop) : Type 0 where
  pub steps : List ℕ
  pub path : IsPath known (image_map images leaf) steps hops
  pub lifts : (ranks : List ℕ) → length ranks ≡ length leaf + 1 → map (slice_index ranks) steps ≡ lift_ranks images leaf ranks
