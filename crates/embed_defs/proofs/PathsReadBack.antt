-- A path can be read back from its image and its lifted ranks.
use Rattle.embed_defs.proofs.Prelude.{[], ℕ, ◌≡◌, refl, ◌∷◌, ap, ◌∙◌, arith, suc, sym, length, List, Some, zero, ◌++◌, ◌+◌, ◌-◌, ◌<◌, append-nil, length-append, replicate, append_assoc, length-replicate, slice_index, same_shape, after-append, after-is, after, IsPrefixOf, inner, leaf, more, none, Tree, Trees, root_of, SameShape, subtree, LeadsToLeaf, LeadsBelow, AreDeep, IsDeep, lift_ranks, lift_ranks_below, picked_ranks, picked_ranks_below, NodesHaveImagesOfTheirOwn, PickedRanksAreThoseLifted, placement_of, Placement, lift_digits}
use Rattle.tree_defs.specs.Tree.{Address}
use Rattle.embed_defs.proofs.PlacedEmbeddings.{prefix_back}
use Rattle.embed_defs.proofs.Subtrees.{same_address}
use Rattle.embed_defs.proofs.MapPlacements.{placed, image-is, shape-relative}

-- ---- the ranks
index-behind : (front xs : List ℕ) (n : ℕ) → length front ≡ n → slice_index (front ++ xs) n ≡ slice_index xs 0
index-behind [] xs zero e = refl
index-behind [] xs (suc n) e = absurd (omega arith)
index-behind (x ∷ front) xs zero e = absurd (omega arith)
index-behind (x ∷ front) xs (suc n) e = index-behind front xs n (omega arith)

first-same : (n r : ℕ) (xs : List ℕ) → 0 < n → slice_index (replicate n r ++ xs) 0 ≡ r
first-same zero r xs l = absurd (omega arith)
first-same (suc n) r xs l = refl

first-below : (h : ℕ) (e : Address) (ts : Trees Address) (i : ℕ) (digits : Address) (r : ℕ) (ranks : List ℕ) → AreDeep h e ts → LeadsBelow ts i digits → slice_index (lift_ranks_below (length e) ts i digits (r ∷ ranks)) 0 ≡ r
first-below h e none i digits r ranks d l = absurd l
first-below h e (more t ts) zero digits r ranks d l = first-same (length (root_of t) - length e) r (lift_ranks t digits ranks) (omega (arith, d.0))
first-below h e (more t ts) (suc i) digits r ranks d l = first-below h e ts i digits r ranks d.3 l

mutual
  picked-lift : (h : ℕ) (m : Tree Address) (front : List ℕ) (digits : Address) (ranks : List ℕ) → IsDeep h m → LeadsToLeaf m digits → length ranks ≡ length digits + 1 → length front ≡ length (root_of m)
      → picked_ranks m digits (front ++ lift_ranks m digits ranks) ≡ ranks
  picked-lift h (leaf e) front [] [] d l n w = absurd (omega arith)
  picked-lift h (leaf e) front [] (r ∷ []) d l n w = ap (λ (z : ℕ). z ∷ []) (index-behind front (r ∷ []) (length e) w)
  picked-lift h (leaf e) front [] (r ∷ s ∷ ranks) d l n w = absurd (omega arith)
  picked-lift h (leaf e) front (i ∷ digits) ranks d l n w = absurd l
  picked-lift h (inner e ts) front [] ranks d l n w = absurd l
  picked-lift h (inner e ts) front (i ∷ digits) [] d l n w = absurd (omega arith)
  picked-lift h (inner e ts) front (i ∷ digits) (r ∷ ranks) d l n w =
      let a : slice_index (front ++ lift_ranks_below (length e) ts i digits (r ∷ ranks)) (length e) ≡ r
      = index-behind front (lift_ranks_below (length e) ts i digits (r ∷ ranks)) (length e) w ∙ first-below h e ts i digits r ranks d l in
      let b : picked_ranks_below ts i digits (front ++ lift_ranks_below (length e) ts i digits (r ∷ ranks)) ≡ ranks = picked-lift_below h e ts i front digits r ranks d l (omega arith) w in
      ap (λ (z : ℕ). z ∷ picked_ranks_below ts i digits (front ++ lift_ranks_below (length e) ts i digits (r ∷ ranks))) a ∙ ap (λ (z : List ℕ). r ∷ z) b

  picked-lift_below : (h : ℕ) (e : Address) (ts : Trees Address) (i : ℕ) (front : List ℕ) (digits : Address) (r : ℕ) (ranks : List ℕ) → AreDeep h e ts → LeadsBelow ts i digits → length ranks ≡ length digits + 1 → length front ≡ length e
      → picked_ranks_below ts i digits (front ++ lift_ranks_below (length e) ts i digits (r ∷ ranks)) ≡ ranks
  picked-lift_below h e none i front digits r ranks d l n w = absurd l
  picked-lift_below h e (more t ts) zero front digits r ranks d l n w =
      let k : length (front ++ replicate (length (root_of t) - length e) r) ≡ length (root_of t)
      = length-append front (replicate (length (root_of t) - length e) r) ∙ ap (λ (z : ℕ). length front + z) (length-replicate (length (root_of t) - length e) r) ∙ omega (arith, w, d.0) in
      ap (picked_ranks t digits) (sym (append_assoc front (replicate (length (root_of t) - length e) r) (lift_ranks t digits ranks)))
      ∙ picked-lift h t (front ++ replicate (length (root_of t) - length e) r) digits ranks d.2 l n k
  picked-lift_below h e (more t ts) (suc i) front digits r ranks d l n w = picked-lift_below h e ts i front digits r ranks d.3 l n w

pub picked_ranks_are_those_lifted : PickedRanksAreThoseLifted
picked_ranks_are_those_lifted h images digits ranks g l n = picked-lift h images [] digits ranks g.deep l n (sym (ap length g.root))

-- ---- the digits
both_prefixes : (a b : Address) → IsPrefixOf a b → IsPrefixOf b a → a ≡ b
both_prefixes a b p q = same p.0 (after-is a b p.0 p.1) (after-is b a q.0 q.1)
  where
    same : (c : Address) → b ≡ a ++ c → a ≡ b ++ q.0 → a ≡ b
    same [] x y = sym (x ∙ append-nil a)
    same (z ∷ c) x y = let k : length b ≡ length (a ++ z ∷ c) = ap length x in let n : length a ≡ length (b ++ q.0) = ap length y in absurd (omega (arith, k, n, length-append a (z ∷ c), length-append b q.0))

itself : (a b : Address) → a ≡ b → IsPrefixOf a b
itself a b p = ([], ap (after a) (sym p ∙ sym (append-nil a)) ∙ after-append a [])

pub nodes_have_images_of_their_own : NodesHaveImagesOfTheirOwn
nodes_have_images_of_their_own h images a b g x y p =
    let s : SameShape images (placement_of images) = shape-relative 0 images images (same_shape images images refl) in
    let q : lift_digits (placement_of images) a ≡ lift_digits (placement_of images) b = sym (image-is images a x.0 g.root g.nested x.1) ∙ p ∙ image-is images b y.0 g.root g.nested y.1 in
    let u : (v : Placement) × (subtree (placement_of images) a ≡ Some v) × SameShape x.0 v = same_address images (placement_of images) a x.0 s x.1 in
    let v : (v : Placement) × (subtree (placement_of images) b ≡ Some v) × SameShape y.0 v = same_address images (placement_of images) b y.0 s y.1 in
    both_prefixes a b
    (prefix_back (placement_of images) a b u.0 v.0 (placed h 0 images g.deep g.nested) u.1 v.1 (itself (lift_digits (placement_of images) a) (lift_digits (placement_of images) b) q))
    (prefix_back (placement_of images) b a v.0 u.0 (placed h 0 images g.deep g.nested) v.1 u.1 (itself (lift_digits (placement_of images) b) (lift_digits (placement_of images) a) (sym q)))
