-- Percentiles of a multiset of numbers, by nearest rank.
use Rattle.std.specs.Prelude.{◌≡◌, refl, ℕ, ◌-◌, ◌*◌, map, List, [], ◌∷◌, length, slice_index_or}
use Rattle.std.specs.Int.{div_ceil}
use Rattle.std.specs.Ordering.{nat_cmp}
use Rattle.std.specs.List.Sorted.{IsPermutation, IsSorted}
use Rattle.summary_core.specs.declared.delays.Delays.{Delays}

-- The rank of a percentile among N numbers, counted from 1. It is the first rank with at least that
-- percentage of the numbers at or below it.
abbrev pub nearest_rank : ℕ → ℕ → ℕ
nearest_rank percent n = div_ceil (percent * n) 100

-- the number at the rank of this percentile, in ascending order
abbrev pub value_at : ℕ → List ℕ → ℕ
value_at percent sorted = slice_index_or sorted (nearest_rank percent (length sorted) - 1) 0

-- the minimum, the median, two high percentiles and the maximum of delays; `sorted` holds the
-- delays in ascending order
pub record ArePercentiles (delays sorted : List ℕ) (d : Delays) : Type 0 where
  pub same : IsPermutation delays sorted
  pub ascend : IsSorted nat_cmp sorted
  pub minimum : d.minimum ≡ slice_index_or sorted 0 0
  pub median : d.median ≡ value_at 50 sorted
  pub p95 : d.p95 ≡ value_at 95 sorted
  pub p99 : d.p99 ≡ value_at 99 sorted
  pub maximum : d.maximum ≡ value_at 100 sorted

-- of five and of six numbers the median is the third, and of 20 the 95th percentile is the 19th
nearest_ranks : map (λ n. nearest_rank 50 n) (1 ∷ 2 ∷ 5 ∷ 6 ∷ []) ≡ 1 ∷ 1 ∷ 3 ∷ 3 ∷ []
nearest_ranks = refl

high_ranks : nearest_rank 95 20 ∷ nearest_rank 95 21 ∷ nearest_rank 99 100 ∷ nearest_rank 99 101 ∷ nearest_rank 100 7 ∷ [] ≡ 19 ∷ 20 ∷ 99 ∷ 100 ∷ 7 ∷ []
high_ranks = refl

five_numbers : map (λ percent. value_at percent (1 ∷ 2 ∷ 4 ∷ 8 ∷ 16 ∷ [])) (50 ∷ 95 ∷ 100 ∷ []) ≡ 4 ∷ 16 ∷ 16 ∷ []
five_numbers = refl
