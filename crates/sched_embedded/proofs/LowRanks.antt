-- Lifted ranks are at most the ranks that are lifted.
use Rattle.sched_embedded.proofs.Prelude.{ℕ, List, arith, length, [], suc, ◌∷◌, zero, ◌++◌, drop, replicate, ◌-◌, ◌≤◌, slice_index, AreRanks, lift_ranks, lift_ranks_below, Address, Tree, Trees, inner, leaf, more, none, root_of}

first-low : (ranks : List ℕ) → AreRanks ranks → slice_index ranks 0 ≤ 4611686018427387903
first-low [] low = omega arith
first-low (r ∷ ranks) low = low.0

rest-low : (ranks : List ℕ) → AreRanks ranks → AreRanks (drop 1 ranks)
rest-low [] low = tt
rest-low (r ∷ ranks) low = low.1

behind-low : (n r : ℕ) (ranks : List ℕ) → r ≤ 4611686018427387903 → AreRanks ranks → AreRanks (replicate n r ++ ranks)
behind-low zero r ranks h low = low
behind-low (suc n) r ranks h low = (h, behind-low n r ranks h low)

mutual
  pub lifted-low : (m : Tree Address) (way ranks : List ℕ) → AreRanks ranks → AreRanks (lift_ranks m way ranks)
  lifted-low (leaf e) way ranks low = (first-low ranks low, tt)
  lifted-low (inner e ts) [] ranks low = (first-low ranks low, tt)
  lifted-low (inner e ts) (i ∷ way) ranks low = lifted_below-low (length e) ts i way ranks low

  lifted_below-low : (n : ℕ) (ts : Trees Address) (i : ℕ) (way ranks : List ℕ) → AreRanks ranks → AreRanks (lift_ranks_below n ts i way ranks)
  lifted_below-low n none i way ranks low = tt
  lifted_below-low n (more t ts) zero way ranks low =
      behind-low (length (root_of t) - n) (slice_index ranks 0) (lift_ranks t way (drop 1 ranks)) (first-low ranks low) (lifted-low t way (drop 1 ranks) (rest-low ranks low))
  lifted_below-low n (more t ts) (suc i) way ranks low = lifted_below-low n ts i way ranks low
