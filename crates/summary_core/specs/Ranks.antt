-- How many numbers are at most a bound.
use Rattle.std.specs.Prelude.{◌<◌, ◌≤◌, ℕ, nat_le, cond, Vec, List, [], ◌∷◌, ◌++◌, length}
use Rattle.std.specs.declared.alloc.Global.{Global}
use Rattle.std.specs.Ordering.{nat_cmp}
use Rattle.std.specs.List.Sorted.{IsSorted}
use Rattle.summary_core.specs.Lists.{list_at}
use Rattle.summary_core.specs.Percentiles.{nearest_rank}
use Rattle.std.specs.List.{sum_by}

-- 1 if the number is at most the bound, and otherwise 0
abbrev pub at_most : ℕ → ℕ → ℕ
at_most bound n = cond (nat_le n bound) 1 0

abbrev pub count_to : ℕ → List ℕ → ℕ
count_to bound ns = sum_by (at_most bound) ns

-- the lists of these members, one after another
abbrev pub listed : (ℕ → List ℕ) → List ℕ → List ℕ
listed lists [] = []
listed lists (m ∷ ms) = lists m ++ listed lists ms

-- each list is in ascending order
abbrev pub AreSorted : List (Vec ℕ Global) → Type 0
AreSorted lists = (i : ℕ) → IsSorted nat_cmp (list_at lists i)

-- the number is at this rank in ascending order, counted from 1: that many numbers are at most it,
-- and fewer are at most a lower one
pub record IsAtRank (ns : List ℕ) (rank n : ℕ) : Type 0 where
  pub enough : rank ≤ count_to n ns
  pub fewer : (lower : ℕ) → lower < n → count_to lower ns < rank

-- the number is at the rank of this percentile
abbrev pub IsAtPercent : List ℕ → ℕ → ℕ → Type 0
IsAtPercent ns percent n = IsAtRank ns (nearest_rank percent (length ns)) n
