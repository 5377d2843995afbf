-- The lifted rank at each depth is that of the deepest node at most that deep, and the picked ranks
-- are those at the images' depths.
use Rattle.embed_defs.proofs.Prelude.{[], ℕ, ◌≡◌, refl, ◌∷◌, ap, ◌∙◌, arith, suc, length, List, ◌≤◌, zero, ◌++◌, ◌+◌, ◌-◌, ◌<◌, length-append, drop, replicate, take, length-replicate, option_map, unwrap_or, slice_index, inner, leaf, more, none, Tree, Trees, root_of, subtree_in, LeadsToLeaf, LeadsBelow, AreDeep, IsDeep, image_map, lift_ranks, lift_ranks_below, picked_ranks, picked_ranks_below, IsDeepestAt, LiftedRanksAreOfTheDeepest, PickedRanksAreThoseAtTheImages}
use Rattle.tree_defs.specs.Tree.{Address}

-- the image of the node at an address below child i
abbrev image_in : Trees Address → ℕ → Address → Address
image_in ts i a = unwrap_or (option_map root_of (subtree_in ts i a)) []

image-here : (m : Tree Address) → image_map m [] ≡ root_of m
image-here (leaf e) = refl
image-here (inner e ts) = refl

-- no image on the path is shorter than the first
mutual
  root-short : (h : ℕ) (m : Tree Address) (digits : Address) (j : ℕ) → IsDeep h m → LeadsToLeaf m digits → length (root_of m) ≤ length (image_map m (take j digits))
  root-short h (leaf e) [] zero d l = omega arith
  root-short h (leaf e) [] (suc j) d l = omega arith
  root-short h (leaf e) (i ∷ digits) j d l = absurd l
  root-short h (inner e ts) [] j d l = absurd l
  root-short h (inner e ts) (i ∷ digits) zero d l = omega arith
  root-short h (inner e ts) (i ∷ digits) (suc j) d l = omega (arith, root-short_in h e ts i digits j d l)

  root-short_in : (h : ℕ) (e : Address) (ts : Trees Address) (i : ℕ) (digits : Address) (j : ℕ) → AreDeep h e ts → LeadsBelow ts i digits → length e ≤ length (image_in ts i (take j digits))
  root-short_in h e none i digits j d l = absurd l
  root-short_in h e (more t ts) zero digits j d l = omega (arith, d.0, root-short h t digits j d.2 l)
  root-short_in h e (more t ts) (suc i) digits j d l = root-short_in h e ts i digits j d.3 l

at-front : (c r : ℕ) (xs : List ℕ) (k : ℕ) → k < c → slice_index (replicate c r ++ xs) k ≡ r
at-front zero r xs k l = absurd (omega arith)
at-front (suc c) r xs zero l = refl
at-front (suc c) r xs (suc k) l = at-front c r xs k (omega arith)

at-behind : (c r : ℕ) (xs : List ℕ) (k : ℕ) → c ≤ k → slice_index (replicate c r ++ xs) k ≡ slice_index xs (k - c)
at-behind zero r xs k l = let n : k ≡ k - 0 = omega arith in ap (slice_index xs) n
at-behind (suc c) r xs zero l = absurd (omega arith)
at-behind (suc c) r xs (suc k) l = let n : k - c ≡ suc k - suc c = omega arith in at-behind c r xs k (omega arith) ∙ ap (slice_index xs) n

at-drop : (xs : List ℕ) (j : ℕ) → slice_index (drop 1 xs) j ≡ slice_index xs (suc j)
at-drop [] j = refl
at-drop (x ∷ xs) j = refl

-- at a depth above the child's image
rank-above : (h : ℕ) (e : Address) (ts : Trees Address) (i : ℕ) (digits : Address) (ranks : List ℕ) (k d : ℕ) → AreDeep h e ts → LeadsBelow ts i digits → k ≡ length e + d → k < length (image_in ts i [])
    → slice_index (lift_ranks_below (length e) ts i digits ranks) d ≡ slice_index ranks 0
rank-above h e none i digits ranks k d w l n s = absurd l
rank-above h e (more t ts) zero digits ranks k d w l n s =
    let q : length (image_map t []) ≡ length (root_of t) = ap length (image-here t) in
    at-front (length (root_of t) - length e) (slice_index ranks 0) (lift_ranks t digits (drop 1 ranks)) d (omega (arith, q, n, s, w.0))
rank-above h e (more t ts) (suc i) digits ranks k d w l n s = rank-above h e ts i digits ranks k d w.3 l n s

mutual
  rank-at : (h : ℕ) (m : Tree Address) (digits : Address) (ranks : List ℕ) (k d j : ℕ) → IsDeep h m → LeadsToLeaf m digits → k ≡ length (root_of m) + d → k ≤ length (image_map m digits) → IsDeepestAt m digits k j
      → slice_index (lift_ranks m digits ranks) d ≡ slice_index ranks j
  rank-at h (leaf e) [] ranks k d j w l n b s =
      let x : d ≡ 0 = omega (arith, n, b) in
      let y : j ≡ 0 = omega (arith, s.on_path) in rw (x, y) refl
  rank-at h (leaf e) (i ∷ digits) ranks k d j w l n b s = absurd l
  rank-at h (inner e ts) [] ranks k d j w l n b s = absurd l
  rank-at h (inner e ts) (i ∷ digits) ranks k d zero w l n b s = rank-above h e ts i digits ranks k d w l n (s.deepest (omega arith))
  rank-at h (inner e ts) (i ∷ digits) ranks k d (suc j) w l n b s = rank-in h e ts i digits ranks k d j w l n b (omega (arith, s.on_path)) s.reached (λ x. s.deepest (omega (arith, x)))

  rank-in : (h : ℕ) (e : Address) (ts : Trees Address) (i : ℕ) (digits : Address) (ranks : List ℕ) (k d j : ℕ) → AreDeep h e ts → LeadsBelow ts i digits → k ≡ length e + d → k ≤ length (image_in ts i digits)
      → j ≤ length digits → length (image_in ts i (take j digits)) ≤ k → (j < length digits → k < length (image_in ts i (take (suc j) digits)))
      → slice_index (lift_ranks_below (length e) ts i digits ranks) d ≡ slice_index ranks (suc j)
  rank-in h e none i digits ranks k d j w l n b o r s = absurd l
  rank-in h e (more t ts) zero digits ranks k d j w l n b o r s =
      let q : length (root_of t) ≤ length (image_map t (take j digits)) = root-short h t digits j w.2 l in
      at-behind (length (root_of t) - length e) (slice_index ranks 0) (lift_ranks t digits (drop 1 ranks)) d (omega (arith, q, r, n))
      ∙ rank-at h t digits (drop 1 ranks) k (d - (length (root_of t) - length e)) j w.2 l (omega (arith, q, r, n, w.0)) b (record { on_path = o; reached = r; deepest = s })
      ∙ at-drop ranks j
  rank-in h e (more t ts) (suc i) digits ranks k d j w l n b o r s = rank-in h e ts i digits ranks k d j w.3 l n b o r s

mutual
  lifted-count : (h : ℕ) (m : Tree Address) (digits : Address) (ranks : List ℕ) → IsDeep h m → LeadsToLeaf m digits → length (lift_ranks m digits ranks) + length (root_of m) ≡ length (image_map m digits) + 1
  lifted-count h (leaf e) [] ranks w l = omega arith
  lifted-count h (leaf e) (i ∷ digits) ranks w l = absurd l
  lifted-count h (inner e ts) [] ranks w l = absurd l
  lifted-count h (inner e ts) (i ∷ digits) ranks w l = lifted-count_in h e ts i digits ranks w l

  lifted-count_in : (h : ℕ) (e : Address) (ts : Trees Address) (i : ℕ) (digits : Address) (ranks : List ℕ) → AreDeep h e ts → LeadsBelow ts i digits
      → length (lift_ranks_below (length e) ts i digits ranks) + length e ≡ length (image_in ts i digits) + 1
  lifted-count_in h e none i digits ranks w l = absurd l
  lifted-count_in h e (more t ts) zero digits ranks w l =
      omega (
        arith,
        w.0,
        lifted-count h t digits (drop 1 ranks) w.2 l,
        length-append (replicate (length (root_of t) - length e) (slice_index ranks 0)) (lift_ranks t digits (drop 1 ranks)),
        length-replicate (length (root_of t) - length e) (slice_index ranks 0),
      )
  lifted-count_in h e (more t ts) (suc i) digits ranks w l = lifted-count_in h e ts i digits ranks w.3 l

pub lifted_ranks_are_of_the_deepest : LiftedRanksAreOfTheDeepest
lifted_ranks_are_of_the_deepest h images digits ranks g l = record {
  count = omega (arith, lifted-count h images digits ranks g.deep l, ap length g.root);
  rank = λ k j b s. rank-at h images digits ranks k k j g.deep l (omega (arith, ap length g.root)) b s;
}

mutual
  picked-at : (m : Tree Address) (digits : Address) (ranks : List ℕ) (j : ℕ) → LeadsToLeaf m digits → j ≤ length digits → slice_index (picked_ranks m digits ranks) j ≡ slice_index ranks (length (image_map m (take j digits)))
  picked-at (leaf e) [] ranks zero l b = refl
  picked-at (leaf e) [] ranks (suc j) l b = absurd (omega arith)
  picked-at (leaf e) (i ∷ digits) ranks j l b = absurd l
  picked-at (inner e ts) [] ranks j l b = absurd l
  picked-at (inner e ts) (i ∷ digits) ranks zero l b = refl
  picked-at (inner e ts) (i ∷ digits) ranks (suc j) l b = picked-in ts i digits ranks j l (omega arith)

  picked-in : (ts : Trees Address) (i : ℕ) (digits : Address) (ranks : List ℕ) (j : ℕ) → LeadsBelow ts i digits → j ≤ length digits → slice_index (picked_ranks_below ts i digits ranks) j ≡ slice_index ranks (length (image_in ts i (take j digits)))
  picked-in none i digits ranks j l b = absurd l
  picked-in (more t ts) zero digits ranks j l b = picked-at t digits ranks j l b
  picked-in (more t ts) (suc i) digits ranks j l b = picked-in ts i digits ranks j l b

mutual
  picked-count : (m : Tree Address) (digits : Address) (ranks : List ℕ) → LeadsToLeaf m digits → length (picked_ranks m digits ranks) ≡ length digits + 1
  picked-count (leaf e) [] ranks l = refl
  picked-count (leaf e) (i ∷ digits) ranks l = absurd l
  picked-count (inner e ts) [] ranks l = absurd l
  picked-count (inner e ts) (i ∷ digits) ranks l = omega (arith, picked-count_in ts i digits ranks l)

  picked-count_in : (ts : Trees Address) (i : ℕ) (digits : Address) (ranks : List ℕ) → LeadsBelow ts i digits → length (picked_ranks_below ts i digits ranks) ≡ length digits + 1
  picked-count_in none i digits ranks l = absurd l
  picked-count_in (more t ts) zero digits ranks l = picked-count t digits ranks l
  picked-count_in (more t ts) (suc i) digits ranks l = picked-count_in ts i digits ranks l

pub picked_ranks_are_those_at_the_images : PickedRanksAreThoseAtTheImages
picked_ranks_are_those_at_the_images images digits ranks l = record {
  count = picked-count images digits ranks l;
  rank = λ j b. picked-at images digits ranks j l b;
}
