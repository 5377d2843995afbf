-- First-in first-out queues, one for each flow.
use Rattle.std.specs.Prelude.{◌≡◌, refl, ◌≤◌, ◌<◌, ℕ, ◌+◌, ◌-◌, List, [], ◌∷◌, ◌++◌, map, nat_lt, if◌then◌else◌}
use Rattle.std.specs.List.{AllByRecursion}
use Rattle.block_core.specs.declared.waiting.Waiting.{Waiting}

-- all entries queued in them
abbrev pub waiting_in : List (List Waiting) → List Waiting
waiting_in [] = []
waiting_in (s ∷ ss) = s ++ waiting_in ss

-- the head of a flow, if it has one
abbrev pub head_of : List Waiting → List Waiting
head_of [] = []
head_of (w ∷ s) = w ∷ []

-- the heads of all flows
abbrev pub heads_of : List (List Waiting) → List Waiting
heads_of [] = []
heads_of (s ∷ ss) = head_of s ++ heads_of ss

-- the rank of the last entry of a flow, or 0 if it is empty
abbrev pub last_rank : List Waiting → ℕ
last_rank [] = 0
last_rank (w ∷ []) = w.rank
last_rank (w ∷ v ∷ s) = last_rank (v ∷ s)

-- the second arrived later, with no lower rank
pub record Follows (w v : Waiting) : Type 0 where
  pub rank : w.rank ≤ v.rank
  pub arrival : w.arrival < v.arrival

abbrev pub IsFifo : List Waiting → Type 0
IsFifo [] = Unit {0}
IsFifo (w ∷ s) = AllByRecursion (Follows w) s × IsFifo s

-- the flow of a value, out of `flows`: its own, or the last
abbrev pub flow_of : ℕ → ℕ → ℕ
flow_of flows value = if nat_lt value (flows - 1) then value else flows - 1

-- in the stores from flow k on, each entry is in its flow, in order of arrival, and the ranks of a
-- flow don't fall
abbrev pub IsStored : ℕ → ℕ → List (List Waiting) → Type 0
IsStored flows k [] = Unit {0}
IsStored flows k (s ∷ ss) = AllByRecursion (λ w. flow_of flows w.value ≡ k) s × IsFifo s × IsStored flows (k + 1) ss

-- ---- three flows: two entries are queued in the first, none in the second and one in the third
abbrev pub three_flows : List (List Waiting)
three_flows =
    (record { rank = 4; arrival = 1; value = 0 } ∷ record { rank = 6; arrival = 5; value = 0 } ∷ [])
    ∷ []
    ∷ (record { rank = 3; arrival = 4; value = 2 } ∷ [])
    ∷ []

pub heads_of-one_a_flow : heads_of three_flows ≡ record { rank = 4; arrival = 1; value = 0 } ∷ record { rank = 3; arrival = 4; value = 2 } ∷ []
heads_of-one_a_flow = refl

pub waiting_in-by_flow :
    waiting_in three_flows ≡ record { rank = 4; arrival = 1; value = 0 } ∷ record { rank = 6; arrival = 5; value = 0 } ∷ record { rank = 3; arrival = 4; value = 2 } ∷ []
waiting_in-by_flow = refl

pub last_rank-of_the_last : last_rank (record { rank = 6; arrival = 1; value = 0 } ∷ record { rank = 4; arrival = 5; value = 0 } ∷ []) ≡ 4
last_rank-of_the_last = refl

pub last_rank-of_none : last_rank [] ≡ 0
last_rank-of_none = refl

-- a value without a flow of its own goes to the last flow; at a leaf all values go to the only flow
pub flow_of-three : map (flow_of 3) (0 ∷ 1 ∷ 2 ∷ 3 ∷ 4 ∷ []) ≡ 0 ∷ 1 ∷ 2 ∷ 2 ∷ 2 ∷ []
flow_of-three = refl

pub flow_of-one : map (flow_of 1) (0 ∷ 70 ∷ []) ≡ 0 ∷ 0 ∷ []
flow_of-one = refl
