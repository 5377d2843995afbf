-- As many packets are queued as are in the leaves.
use Rattle.sched_defs.proofs.Prelude.{◌≡◌, List, [], arith, ℕ, ◌∷◌, refl, ◌+◌, length, map, length-append, values, values_below, Queue, size, sizes, Tree, Trees, inner, leaf, more, none}

length-values_of : (q : Queue) → length (map (λ (e : ℕ × ℕ). e.1) q) ≡ length q
length-values_of [] = refl
length-values_of (e ∷ q) = omega (arith, length-values_of q)

mutual
  pub length-values : (t : Tree Queue) → length (values t) ≡ size t
  length-values (leaf q) = length-values_of q
  length-values (inner q ts) = length-values_below ts

  pub length-values_below : (ts : Trees Queue) → length (values_below ts) ≡ sizes ts
  length-values_below none = refl
  length-values_below (more t ts) = let e = length-append (values t) (values_below ts) in omega (arith, e, length-values t, length-values_below ts)

pub empty_of_length : {X : Type 0} (xs : List X) → length xs ≡ 0 → xs ≡ []
empty_of_length [] e = refl
empty_of_length (x ∷ xs) e = let n : 0 ≡ length xs + 1 = omega arith in absurd (omega arith)
