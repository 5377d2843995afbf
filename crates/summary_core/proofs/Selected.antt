-- Numbers at ranks are those of the sorted list.
use Rattle.summary_core.proofs.Prelude.{ℕ, length, ◌≡◌, arith, List, ap, ◌≤◌, ◌∙◌, sym, suc, ◌<◌, zero, Some, ◌-◌, get_or, length_permutation, sum_by-IsPermutation, HasPercentiles, nearest_rank, value_at, count_to, at_most, IsAtPercent, IsAtRank, Delays}
use Rattle.summary_core.proofs.Ordered.{ordered, ascend_ordered, moved_ordered, sorted_ascending, above_at, below_at}
use Rattle.summary_core.proofs.Ranks.{rank_is_some, rank_is_most}

same_count : (bound : ℕ) (ns : List ℕ) → count_to bound (ordered ns) ≡ count_to bound ns
same_count bound ns = sum_by-IsPermutation (at_most bound) ns (ordered ns) (moved_ordered ns)

same_length : (ns : List ℕ) → length (ordered ns) ≡ length ns
same_length ns = length_permutation ns (ordered ns) (moved_ordered ns)

at_rank : (ns : List ℕ) (rank n : ℕ) → 1 ≤ rank → rank ≤ length ns → IsAtRank ns rank n → n ≡ get_or (ordered ns) (rank - 1) 0
at_rank ns rank zero least most is =
    let low : get_or (ordered ns) (rank - 1) 0 ≤ 0 = below_at 0 (rank - 1) 0 (ordered ns) (ascend_ordered ns) (omega (arith, same_count 0 ns, is.enough, least)) in
    omega (arith, low)
at_rank ns rank (suc n) least most is =
    let low : get_or (ordered ns) (rank - 1) 0 ≤ suc n = below_at (suc n) (rank - 1) 0 (ordered ns) (ascend_ordered ns) (omega (arith, same_count (suc n) ns, is.enough, least)) in
    let high : n < get_or (ordered ns) (rank - 1) 0 =
    above_at n (rank - 1) 0 (ordered ns) (ascend_ordered ns) (omega (arith, same_count n ns, is.fewer n (omega arith), least)) (omega (arith, same_length ns, most, least)) in
    omega (arith, low, high)

at_percent : (ns : List ℕ) (percent n : ℕ) → 1 ≤ percent → percent ≤ 100 → 0 < length ns → IsAtPercent ns percent n → n ≡ value_at percent (ordered ns)
at_percent ns percent n least most some is =
    at_rank ns (nearest_rank percent (length ns)) n (rank_is_some percent (length ns) least some) (rank_is_most percent (length ns) most) is
    ∙ ap (λ m. get_or (ordered ns) (nearest_rank percent m - 1) 0) (sym (same_length ns))

pub are_percentiles : (ns : List ℕ) (d : Delays) → 0 < length ns → IsAtRank ns 1 d.minimum → IsAtPercent ns 50 d.median → IsAtPercent ns 95 d.p95 → IsAtPercent ns 99 d.p99 → IsAtPercent ns 100 d.maximum
    → HasPercentiles ns (Some d)
are_percentiles ns d some minimum median p95 p99 maximum = record {
  none = (λ none. cc, λ none. let empty : length ns ≡ 0 = ap (λ (l : List ℕ). length l) none in absurd (omega (arith, some, empty)));
  some = (
    ordered ns,
    record {
      same = moved_ordered ns;
      ascend = sorted_ascending (ordered ns) (ascend_ordered ns);
      minimum = at_rank ns 1 d.minimum (omega arith) some minimum;
      median = at_percent ns 50 d.median (omega arith) (omega arith) some median;
      p95 = at_percent ns 95 d.p95 (omega arith) (omega arith) some p95;
      p99 = at_percent ns 99 d.p99 (omega arith) (omega arith) some p99;
      maximum = at_percent ns 100 d.maximum (omega arith) (omega arith) some maximum;
    },
  );
}
