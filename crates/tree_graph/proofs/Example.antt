-- A forest of four nodes.
use Rattle.tree_graph.proofs.Prelude.{arith, ℕ, ap, ◌<◌, ◌≡◌, subst, [], ◌+◌, suc, refl, ◌∷◌, ◌≤◌, inl, inr, zero, Contains, ◌≢◌, Contains-get_or, Contains-push_cases, IsChild, Leads, IsForest, IsDeep, HasOneParent, two_below_a_root}

no-member : {X : Type 0} (j : X) → Contains [] j → ⊥
no-member j there = (let l : there.0 < 0 = there.1 in absurd (omega arith))

only-member : (x j : ℕ) → Contains (x ∷ []) j → x ≡ j
only-member x j there = elim (Contains-push_cases [] x j there) [ inl none ↦ absurd (no-member j none) | inr same ↦ same ]

-- a number that is higher at a node's children
abbrev rank : ℕ → ℕ
rank zero = 1
rank (suc zero) = 1
rank (suc (suc zero)) = 0
rank (suc (suc (suc n))) = 2

record IsStep (i j : ℕ) : Type 0 where
  within : j < 4
  higher : rank i < rank j

step-at : (i x j : ℕ) → x < 4 → rank i < rank x → x ≡ j → IsStep i j
step-at i x j within up same = subst (λ (k : ℕ). IsStep i k) same (record { within = within; higher = up })

step : (i j : ℕ) → IsChild two_below_a_root i j → IsStep i j
step zero j there = step-at 0 3 j (omega arith) (omega arith) (only-member 3 j there)
step (suc zero) j there = absurd (no-member j there)
step (suc (suc zero)) j there = elim (Contains-push_cases (0 ∷ []) 1 j there) [ inl first ↦ step-at 2 0 j (omega arith) (omega arith) (only-member 0 j first) | inr same ↦ step-at 2 1 j (omega arith) (omega arith) same ]
step (suc (suc (suc zero))) j there = absurd (no-member j there)
step (suc (suc (suc (suc n)))) j there = absurd (no-member j there)

-- each step raises the rank by at least one, so a path is no longer than the difference in rank
lengths : (k a b : ℕ) → Leads two_below_a_root k a b → k + rank a ≤ rank b
lengths zero a b same = omega (arith, ap rank same)
lengths (suc k) a b way = omega (arith, (step a way.0 way.1).higher, lengths k way.0 b way.2)

one-parent : (c : ℕ) → c < 4 → c ≢ 2 → HasOneParent two_below_a_root c
one-parent zero within other = record { parent = 2; lists_it = Contains-get_or (0 ∷ 1 ∷ []) 0 0 (omega arith); once = refl; only = only }
  where
    only : (q : ℕ) → IsChild two_below_a_root q 0 → q ≡ 2
    only zero there = absurd (let e : 3 ≡ 0 = only-member 3 0 there in omega arith)
    only (suc zero) there = absurd (no-member 0 there)
    only (suc (suc zero)) there = refl
    only (suc (suc (suc zero))) there = absurd (no-member 0 there)
    only (suc (suc (suc (suc n)))) there = absurd (no-member 0 there)
one-parent (suc zero) within other = record { parent = 2; lists_it = Contains-get_or (0 ∷ 1 ∷ []) 1 0 (omega arith); once = refl; only = only }
  where
    only : (q : ℕ) → IsChild two_below_a_root q 1 → q ≡ 2
    only zero there = absurd (let e : 3 ≡ 1 = only-member 3 1 there in omega arith)
    only (suc zero) there = absurd (no-member 1 there)
    only (suc (suc zero)) there = refl
    only (suc (suc (suc zero))) there = absurd (no-member 1 there)
    only (suc (suc (suc (suc n)))) there = absurd (no-member 1 there)
one-parent (suc (suc zero)) within other = absurd (other refl)
one-parent (suc (suc (suc zero))) within other = record { parent = 0; lists_it = Contains-get_or (3 ∷ []) 0 0 (omega arith); once = refl; only = only }
  where
    only : (q : ℕ) → IsChild two_below_a_root q 3 → q ≡ 0
    only zero there = refl
    only (suc zero) there = absurd (no-member 3 there)
    only (suc (suc zero)) there = absurd (elim (Contains-push_cases (0 ∷ []) 1 3 there) [ inl first ↦ (let e : 0 ≡ 3 = only-member 0 3 first in omega arith) | inr same ↦ (let e : 1 ≡ 3 = same in omega arith) ])
    only (suc (suc (suc zero))) there = absurd (no-member 3 there)
    only (suc (suc (suc (suc n)))) there = absurd (no-member 3 there)
one-parent (suc (suc (suc (suc n)))) within other = absurd (omega arith)

pub is_forest : IsForest two_below_a_root 2
is_forest = record {
  in_range = λ i j there. (step i j there).within;
  root_is = (let l : 2 < 4 = omega arith in l);
  one = one-parent;
  acyclic = λ a below. (let first : rank a < rank below.1.0 = (step a below.1.0 below.1.1).higher in let rest : below.0 + rank below.1.0 ≤ rank a = lengths below.0 below.1.0 a below.1.2 in absurd (omega arith));
}

highest : (b : ℕ) → rank b ≤ 2
highest zero = omega arith
highest (suc zero) = omega arith
highest (suc (suc zero)) = omega arith
highest (suc (suc (suc n))) = omega arith

pub is_shallow : (a : ℕ) → IsDeep two_below_a_root 2 a → ⊥
is_shallow a deep = absurd (omega (arith, lengths deep.0 2 a deep.2, deep.1, highest a))
