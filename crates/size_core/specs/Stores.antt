-- The ranks in the rank stores of a node. A node has one flow for each child, a leaf has one.
use Rattle.std.specs.Prelude.{ℕ, ◌+◌, ◌-◌, ◌==◌, nat_lt, max, Bool, false, if◌then◌else◌, Option, None, Some, List, [], ◌∷◌, ◌++◌, drop, length, replicate, slice_index_or, slice_set}
use Rattle.size_core.specs.declared.size.StoreUse.{StoreUse}

-- the ranks stored in each flow, the number of spilled entries, and the use of both so far
pub record Stores : Type 0 where
  pub flows : List (List ℕ)
  pub spilled : ℕ
  pub most : StoreUse

abbrev pub no_use : StoreUse
no_use = record { heads = 0; stored = 0; spilled = 0; spills = 0 }

-- that many flows without an entry
abbrev pub no_stores : ℕ → Stores
no_stores flows = record { flows = replicate flows []; spilled = 0; most = no_use }

-- the flow of a value; a value without a flow of its own has the last flow
abbrev pub flow_of : ℕ → ℕ → ℕ
flow_of flows value = if nat_lt value (flows - 1) then value else flows - 1

-- the last rank of a flow, or 0 if it has none
abbrev pub last_rank : List ℕ → ℕ
last_rank [] = 0
last_rank (r ∷ []) = r
last_rank (r ∷ s ∷ ranks) = last_rank (s ∷ ranks)

-- whether the first rank of a flow is this one
abbrev pub leads : ℕ → List ℕ → Bool
leads rank [] = false
leads rank (r ∷ ranks) = r == rank

-- 1 if a flow has an entry
abbrev pub head_in : List ℕ → ℕ
head_in [] = 0
head_in (r ∷ ranks) = 1

-- the number of flows with an entry
abbrev pub heads_in : List (List ℕ) → ℕ
heads_in [] = 0
heads_in (ranks ∷ flows) = head_in ranks + heads_in flows

-- one more entry spilled
abbrev pub with_spill : Stores → Stores
with_spill s = record {
  flows = s.flows;
  spilled = s.spilled + 1;
  most = record s.most { spilled = max s.most.spilled (s.spilled + 1); spills = s.most.spills + 1 };
}

-- a flow has these ranks now
abbrev pub with_flow : ℕ → List ℕ → Stores → Stores
with_flow flow ranks s =
    let flows = slice_set s.flows flow ranks in
    record {
      flows = flows;
      spilled = s.spilled;
      most = record s.most { heads = max s.most.heads (heads_in flows); stored = max s.most.stored (length ranks) };
    }

-- A push of a rank to a flow spills if the flow's last rank is greater.
abbrev pub flow_pushed : ℕ → List ℕ → ℕ → Stores → Stores
flow_pushed flow ranks rank s = if nat_lt rank (last_rank ranks) then with_spill s else with_flow flow (ranks ++ rank ∷ []) s

abbrev pub store_pushed : ℕ → ℕ → Stores → Stores
store_pushed rank value s =
    let flow = flow_of (length s.flows) value in
    flow_pushed flow (slice_index_or s.flows flow []) rank s

-- A pop of a rank from a flow takes the flow's first entry if it has this rank. Otherwise it takes
-- a spilled entry.
abbrev pub flow_popped : ℕ → List ℕ → ℕ → Stores → Stores
flow_popped flow ranks rank s = if leads rank ranks then record s { flows = slice_set s.flows flow (drop 1 ranks) } else record s { spilled = s.spilled - 1 }

abbrev pub store_popped : ℕ → ℕ → Stores → Stores
store_popped rank value s =
    let flow = flow_of (length s.flows) value in
    flow_popped flow (slice_index_or s.flows flow []) rank s

-- the number of pushes that spilled, 0 if there are no stores
abbrev pub spills_in : Option Stores → ℕ
spills_in None = 0
spills_in (Some s) = s.most.spills
