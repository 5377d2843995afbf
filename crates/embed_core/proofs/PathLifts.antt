-- Lifting the step numbers as if they were ranks shows whose rank is at each depth.
use Rattle.embed_core.proofs.Prelude.{◌≡◌, length, arith, sym, ◌∙◌, ap, List, ◌+◌, subst, ℕ, ◌<◌, [], refl, get_or, ◌∷◌, ◌++◌, map, suc, zero, ◌-◌, replicate, map-append, length-range_with_len, get_or-range_with_len, AllByRecursion, range_with_len, slice_index, lift_ranks, lift_ranks_below, Address, Tree, root_of, inner, leaf, Trees, more, none, IsLiftedPathTo}
use Rattle.embed_core.specs.declared.lifted_path.LiftedPath.{LiftedPath}

map-replicate : (f : ℕ → ℕ) (n x : ℕ) → map f (replicate n x) ≡ replicate n (f x)
map-replicate f zero x = refl
map-replicate f (suc n) x = ap (λ (z : List ℕ). f x ∷ z) (map-replicate f n x)

-- a lift doesn't depend on the ranks' values: mapping the ranks maps the lifted ranks
mutual
  lift-map : (f : ℕ → ℕ) (m : Tree Address) (way qs : List ℕ) → length qs ≡ length way + 1 → lift_ranks m way (map f qs) ≡ map f (lift_ranks m way qs)
  lift-map f m way [] n = absurd (omega (arith, n))
  lift-map f (leaf e) way (q ∷ qs) n = refl
  lift-map f (inner e ts) [] (q ∷ qs) n = refl
  lift-map f (inner e ts) (i ∷ way) (q ∷ qs) n = lift_below-map f (length e) ts i way q qs (omega (arith, n))

  lift_below-map : (f : ℕ → ℕ) (d : ℕ) (ts : Trees Address) (i : ℕ) (way : List ℕ) (q : ℕ) (qs : List ℕ) → length qs ≡ length way + 1
      → lift_ranks_below d ts i way (f q ∷ map f qs) ≡ map f (lift_ranks_below d ts i way (q ∷ qs))
  lift_below-map f d none i way q qs n = refl
  lift_below-map f d (more t ts) zero way q qs n =
      let a : replicate (length (root_of t) - d) (f q) ≡ map f (replicate (length (root_of t) - d) q) = sym (map-replicate f (length (root_of t) - d) q) in
      ap (λ (z : List ℕ). z ++ lift_ranks t way (map f qs)) a ∙ ap (λ (z : List ℕ). map f (replicate (length (root_of t) - d) q) ++ z) (lift-map f t way qs n)
      ∙ sym (map-append f (replicate (length (root_of t) - d) q) (lift_ranks t way qs))
  lift_below-map f d (more t ts) (suc i) way q qs n = lift_below-map f d ts i way q qs n

-- ranks are those at the step numbers
at-each : (f : ℕ → ℕ) (xs ys : List ℕ) → length ys ≡ length xs → ((k : ℕ) → k < length xs → get_or ys k 0 ≡ f (get_or xs k 0)) → map f xs ≡ ys
at-each f [] [] n h = refl
at-each f [] (y ∷ ys) n h = absurd (omega (arith, n))
at-each f (x ∷ xs) [] n h = absurd (omega (arith, n))
at-each f (x ∷ xs) (y ∷ ys) n h = let a : f x ≡ y = sym (h 0 (omega arith)) in let b : map f xs ≡ ys = at-each f xs ys (omega (arith, n)) (λ k l. h (suc k) (omega arith)) in cc

read-steps : (ranks : List ℕ) (n : ℕ) → length ranks ≡ n → map (slice_index ranks) (range_with_len 0 n) ≡ ranks
read-steps ranks n e =
    at-each (slice_index ranks) (range_with_len 0 n) ranks (e ∙ sym (length-range_with_len 0 n))
    (λ k l. ap (λ (i : ℕ). get_or ranks i 0) (sym (at k (let h : k < n = omega (arith, l, length-range_with_len 0 n) in h))))
  where
    at : (k : ℕ) → k < n → get_or (range_with_len 0 n) k 0 ≡ k
    at k l = omega (arith, get_or-range_with_len 0 n k 0 l)

-- a bound on the given ranks also bounds the lifted ranks
abbrev AreBelow : ℕ → List ℕ → Type 0
AreBelow b xs = AllByRecursion (λ x. x < b) xs

below-append : (b : ℕ) (xs ys : List ℕ) → AreBelow b xs → AreBelow b ys → AreBelow b (xs ++ ys)
below-append b [] ys u v = v
below-append b (x ∷ xs) ys u v = (u.0, below-append b xs ys u.1 v)

below-replicate : (b n x : ℕ) → x < b → AreBelow b (replicate n x)
below-replicate b zero x l = tt
below-replicate b (suc n) x l = (l, below-replicate b n x l)

mutual
  lift-below : (b : ℕ) (m : Tree Address) (way qs : List ℕ) → length qs ≡ length way + 1 → AreBelow b qs → AreBelow b (lift_ranks m way qs)
  lift-below b m way [] n u = absurd (omega (arith, n))
  lift-below b (leaf e) way (q ∷ qs) n u = (u.0, tt)
  lift-below b (inner e ts) [] (q ∷ qs) n u = (u.0, tt)
  lift-below b (inner e ts) (i ∷ way) (q ∷ qs) n u = lift_below-below b (length e) ts i way q qs (omega (arith, n)) u.0 u.1

  lift_below-below : (b d : ℕ) (ts : Trees Address) (i : ℕ) (way : List ℕ) (q : ℕ) (qs : List ℕ) → length qs ≡ length way + 1 → q < b → AreBelow b qs → AreBelow b (lift_ranks_below d ts i way (q ∷ qs))
  lift_below-below b d none i way q qs n l u = tt
  lift_below-below b d (more t ts) zero way q qs n l u = below-append b (replicate (length (root_of t) - d) q) (lift_ranks t way qs) (below-replicate b (length (root_of t) - d) q l) (lift-below b t way qs n u)
  lift_below-below b d (more t ts) (suc i) way q qs n l u = lift_below-below b d ts i way q qs n l u

range-below : (a n : ℕ) → AreBelow (a + n) (range_with_len a n)
range-below a zero = tt
range-below a (suc n) = (omega arith, let h : AreBelow (a + 1 + n) (range_with_len (a + 1) n) = range-below (a + 1) n in let e : a + 1 + n ≡ a + suc n = omega arith in subst (λ (z : ℕ). AreBelow z (range_with_len (a + 1) n)) e h)

-- the lifted path's lift is the map's, and its steps are steps of the path
module _ (images : Tree Address) (address : Address) (lifted : LiftedPath) (is : IsLiftedPathTo images address lifted) where
  pub lifted-lift : (ranks : List ℕ) → length ranks ≡ length address + 1 → map (slice_index ranks) lifted.steps.items ≡ lift_ranks images address ranks
  lifted-lift ranks n =
      ap (map (slice_index ranks)) is.steps
      ∙ sym (lift-map (slice_index ranks) images address (range_with_len 0 (length address + 1)) (length-range_with_len 0 (length address + 1)))
      ∙ ap (lift_ranks images address) (read-steps ranks (length address + 1) n)

  pub lifted-within : AllByRecursion (λ step. step < length address + 1) lifted.steps.items
  lifted-within =
      let e : 0 + (length address + 1) ≡ length address + 1 = omega arith in
      let h : AreBelow (length address + 1) (range_with_len 0 (length address + 1)) = subst (λ (z : ℕ). AreBelow z (range_with_len 0 (length address + 1))) e (range-below 0 (length address + 1)) in
      subst (AreBelow (length address + 1)) (sym is.steps) (lift-below (length address + 1) images address (range_with_len 0 (length address + 1)) (length-range_with_len 0 (length address + 1)) h)
