-- A map without a verdict is impossible: no clause of an embedding is broken, or there is a first
-- broken clause.
use Rattle.mapcheck_core.proofs.Prelude.{◌≡◌, sym, ℕ, subst, ◌∙◌, [], refl, arith, ◌∷◌, None, inr, ◌+◌, Some, ◌<◌, false, ◌≤◌, inl, Option, ◌⊎◌, suc, zero, below_more, cases_Bool, cases_lt, Topology, nodes, Address, IsAddressOf, IsFirstBroken, IsFirstPair, is_broken, image_of, prefix, IsOutside, MissesLeaf, outside, root, HoldsNowhere, IsInside, IsLeastLine, KeepsLeaves, KeepsRoot, line_of, IsVerdict, span_at, MapFault, Given}
use Rattle.mapcheck_core.specs.declared.fault.MapFault.TheVariants as fault
use Rattle.mapcheck_core.specs.GivenMaps.{leaf}
use Rattle.mapcheck_core.proofs.MapLaws.{pair_found, all_kept, embeds}

-- ---- the least line
module _ (s : Topology) (g : Given) (P : Address → Type 0) (none : (n : ℕ) → IsLeastLine s g P n → ⊥) where
  -- no address with property P has a line number below k, by induction on k, if there is no least
  -- line number
  below : (k : ℕ) (a : Address) → IsAddressOf s a → P a → line_of s g a < k → ⊥
  below zero a inside holds low = omega (arith, low)
  below (suc k) a inside holds low = none (line_of s g a) (record {
    address = a;
    inside = inside;
    holds = holds;
    line = refl;
    least = λ b within same. elim (cases_lt (line_of s g b) (line_of s g a)) [
      | inl lower ↦ absurd (below k b within same (omega (arith, lower, low)))
      | inr higher ↦ higher
    ];
  })

  nowhere : HoldsNowhere s P
  nowhere a inside holds = below (suc (line_of s g a)) a inside holds (omega arith)

-- ---- the first pair
module _ (s : Topology) (g : Given) where
  abbrev First : ℕ → ℕ → Type 0
  First a n = (o : Option ℕ) × IsFirstBroken g a (span_at s a) n o

  next_broken : (a n : ℕ) → First a n → First a (n + 1)
  next_broken a n (Some m, found) = let low : m < n + 1 = omega (arith, found.0) in (Some m, (low, found.1, found.2))
  next_broken a n (None, all) = elim (cases_Bool (is_broken g a (span_at s a) n)) [
    | inl yes' ↦ let low : n < n + 1 = omega arith in (Some n, (low, yes', all))
    | inr no' ↦ (None, below_more (λ (k : ℕ). is_broken g a (span_at s a) k ≡ false) n all no')
  ]

  first_broken : (a n : ℕ) → First a n
  first_broken a zero = (None, λ i low. absurd (omega (arith, low)))
  first_broken a (suc n) = let same : n + 1 ≡ suc n = omega arith in subst (First a) same (next_broken a n (first_broken a n))

  -- the first k numbers have no broken pair, or there is a first broken pair
  abbrev Pairs : ℕ → ℕ → Type 0
  Pairs n k = ((a : ℕ) → a < k → IsFirstBroken g a (span_at s a) n None) ⊎ ((p : ℕ × ℕ) × IsFirstPair s g n (Some p))

  next_pairs : (n k : ℕ) → k < n → Pairs n k → First k n → Pairs n (k + 1)
  next_pairs n k low (inr found) f = inr found
  next_pairs n k low (inl all) (Some m, found) = inr ((k, m), (low, found, all))
  next_pairs n k low (inl all) (None, clean) = inl (below_more (λ (a : ℕ). IsFirstBroken g a (span_at s a) n None) k all clean)

  pairs : (n k : ℕ) → k ≤ n → Pairs n k
  pairs n zero low = inl (λ a below. absurd (omega (arith, below)))
  pairs n (suc k) low =
      let same : k + 1 ≡ suc k = omega arith in
      subst (Pairs n) same (next_pairs n k (omega (arith, low)) (pairs n k (omega (arith, low))) (first_broken k n))

-- ---- the verdict
module _ (s t : Topology) (g : Given) (none : (v : Option MapFault) → IsVerdict s t g v → ⊥) where
  within : IsInside s t g
  within = nowhere s g (IsOutside s t g) (λ n least. none (Some (fault.NoAddress n)) (outside n least))

  leaves : KeepsRoot s g → KeepsLeaves s t g
  leaves same = nowhere s g (MissesLeaf s t g) (λ n least. none (Some (fault.Leaf n)) (leaf n within same least))

  by_pairs : KeepsRoot s g → Pairs s g (nodes s) (nodes s) → ⊥
  by_pairs same (inl all) = none None (embeds s t g within same (leaves same) (all_kept s g all))
  by_pairs same (inr (p, found)) = none (Some (fault.Prefix p.0 p.1)) (prefix p.0 p.1 within same (leaves same) (pair_found s g p.0 p.1 found))

  by_root : (a : Address) → image_of s g [] ≡ a → ⊥
  by_root [] same = by_pairs same (pairs s g (nodes s) (nodes s) (omega arith))
  by_root (x ∷ a) other = none (Some (fault.Root (line_of s g []))) (root (line_of s g []) within (λ (same : image_of s g [] ≡ []). let wrong : [] ≡ x ∷ a = sym same ∙ other in cc) refl)

  pub some_verdict : ⊥
  some_verdict = by_root (image_of s g []) refl
