-- The depths of the images of the nodes on a path to a leaf.
use Rattle.embed_core.proofs.Prelude.{◌≡◌, length, arith, sym, ◌∙◌, ap, List, ◌+◌, subst, ℕ, ◌<◌, [], refl, ◌≤◌, get_or, ◌∷◌, drop, map, suc, zero, drop_more, AllByRecursion, slice_index, IsDeep, AreDeep, picked_ranks, picked_ranks_below, branch, trees_of, Address, Tree, root_of, inner, leaf, Trees, more, LeadsToLeaf, none, LeadsBelow, depth, depth_below, image_depths, image_depths_below}
use Rattle.embed_core.proofs.LiftSteps.{leads-index, leads-child}

-- ---- one step down
depths-child : (ks : List (Tree Address)) (i : ℕ) (k : Tree Address) (digits : Address) → i < length ks → k ≡ get_or ks i k → image_depths_below (trees_of ks) i digits ≡ image_depths k digits
depths-child [] i k digits l f = absurd (omega arith)
depths-child (j ∷ ks) zero k digits l f = ap (λ (z : Tree Address). image_depths z digits) (sym f)
depths-child (j ∷ ks) (suc i) k digits l f = depths-child ks i k digits (omega arith) f

-- a node whose path continues to the child k, or ends
record IsNext (m : Tree Address) (i : ℕ) (way : Address) (k : Tree Address) : Type 0 where
  leaf_below : LeadsToLeaf k way
  depths : image_depths m (i ∷ way) ≡ length (root_of m) ∷ image_depths k way

next : (e : Address) (ks : List (Tree Address)) (i : ℕ) (way : Address) (k : Tree Address) → LeadsToLeaf (branch e (trees_of ks)) (i ∷ way) → k ≡ get_or ks i k → IsNext (branch e (trees_of ks)) i way k
next e [] i way k l f = absurd l
next e (j ∷ ks) i way k l f = record {
  leaf_below = leads-child (j ∷ ks) i k way l f;
  depths = ap (λ (z : List ℕ). length e ∷ z) (depths-child (j ∷ ks) i k way (leads-index (j ∷ ks) i way l) f);
}

pub record IsDepthStep (m : Tree Address) (step : ℕ) (digits : List ℕ) (k : Tree Address) : Type 0 where
  pub leaf_below : LeadsToLeaf k (drop (step + 1) digits)
  pub depths : image_depths m (drop step digits) ≡ length (root_of m) ∷ image_depths k (drop (step + 1) digits)

module _ (e : Address) (ks : List (Tree Address)) (m : Tree Address) (step : ℕ) (digits : List ℕ) (p : branch e (trees_of ks) ≡ m) (b : step < length digits) (l : LeadsToLeaf m (drop step digits)) where
  pub depth-down : (i : ℕ) (k : Tree Address) → i ≡ get_or digits step 0 → k ≡ get_or ks i k → IsDepthStep m step digits k
  depth-down i k x f =
      let d : drop step digits ≡ get_or digits step 0 ∷ drop (step + 1) digits = drop_more digits step 0 b in
      let leads : LeadsToLeaf (branch e (trees_of ks)) (get_or digits step 0 ∷ drop (step + 1) digits)
      = subst (λ (z : Tree Address). LeadsToLeaf z (get_or digits step 0 ∷ drop (step + 1) digits)) (sym p) (subst (LeadsToLeaf m) d l) in
      let n : IsNext (branch e (trees_of ks)) (get_or digits step 0) (drop (step + 1) digits) k = next e ks _ _ k leads (rw x at f) in
      let t : IsNext m (get_or digits step 0) (drop (step + 1) digits) k = subst (λ (z : Tree Address). IsNext z (get_or digits step 0) (drop (step + 1) digits) k) p n in
      record { leaf_below = t.leaf_below; depths = ap (image_depths m) d ∙ t.depths }

-- ---- the ranks that are picked are those at these depths
mutual
  pub picked-depths : (m : Tree Address) (way ranks : List ℕ) → picked_ranks m way ranks ≡ map (slice_index ranks) (image_depths m way)
  picked-depths (leaf e) way ranks = refl
  picked-depths (inner e ts) [] ranks = refl
  picked-depths (inner e ts) (i ∷ way) ranks = ap (λ (z : List ℕ). slice_index ranks (length e) ∷ z) (picked_below-depths ts i way ranks)

  picked_below-depths : (ts : Trees Address) (i : ℕ) (way ranks : List ℕ) → picked_ranks_below ts i way ranks ≡ map (slice_index ranks) (image_depths_below ts i way)
  picked_below-depths none i way ranks = refl
  picked_below-depths (more t ts) zero way ranks = picked-depths t way ranks
  picked_below-depths (more t ts) (suc i) way ranks = picked_below-depths ts i way ranks

-- ---- there is a depth for each node on the path
mutual
  pub depths-long : (m : Tree Address) (way : Address) → LeadsToLeaf m way → length (image_depths m way) ≡ length way + 1
  depths-long (leaf e) [] l = refl
  depths-long (leaf e) (i ∷ way) l = absurd l
  depths-long (inner e ts) [] l = absurd l
  depths-long (inner e ts) (i ∷ way) l = omega (arith, depths_below-long ts i way l)

  depths_below-long : (ts : Trees Address) (i : ℕ) (way : Address) → LeadsBelow ts i way → length (image_depths_below ts i way) ≡ length way + 1
  depths_below-long none i way l = absurd l
  depths_below-long (more t ts) zero way l = depths-long t way l
  depths_below-long (more t ts) (suc i) way l = depths_below-long ts i way l

-- ---- no image is deeper than the leaf's
mutual
  pub depths-within : (h : ℕ) (m : Tree Address) (way : Address) → IsDeep h m → LeadsToLeaf m way → AllByRecursion (λ d. d < h + 1) (image_depths m way)
  depths-within h (leaf e) [] w l = (omega (arith, w), tt)
  depths-within h (leaf e) (i ∷ way) w l = absurd l
  depths-within h (inner e ts) [] w l = absurd l
  depths-within h (inner e ts) (i ∷ way) w l = depths_below-within h e ts i way w l

  depths_below-within : (h : ℕ) (e : Address) (ts : Trees Address) (i : ℕ) (way : Address) → AreDeep h e ts → LeadsBelow ts i way → AllByRecursion (λ d. d < h + 1) (length e ∷ image_depths_below ts i way)
  depths_below-within h e none i way w l = absurd l
  depths_below-within h e (more t ts) zero way w l = (omega (arith, w.0, w.1), depths-within h t way w.2 l)
  depths_below-within h e (more t ts) (suc i) way w l = depths_below-within h e ts i way w.3 l

-- ---- a path is no longer than its tree is deep
mutual
  pub leads-short : (m : Tree Address) (way : Address) → LeadsToLeaf m way → length way ≤ depth m
  leads-short (leaf e) [] l = omega arith
  leads-short (leaf e) (i ∷ way) l = absurd l
  leads-short (inner e ts) [] l = absurd l
  leads-short (inner e ts) (i ∷ way) l = omega (arith, leads_below-short ts i way l)

  leads_below-short : (ts : Trees Address) (i : ℕ) (way : Address) → LeadsBelow ts i way → length way + 1 ≤ depth_below ts
  leads_below-short none i way l = absurd l
  leads_below-short (more t ts) zero way l = omega (arith, leads-short t way l)
  leads_below-short (more t ts) (suc i) way l = omega (arith, leads_below-short ts i way l)
