-- The canonical placement is a placement.
use Rattle.embed_defs.proofs.Prelude.{[], ℕ, ◌≡◌, refl, ap, ◌∙◌, arith, suc, sym, length, List, ◌≤◌, ◌+◌, ◌-◌, None, ◌<◌, subst, inl, inr, ◌≢◌, sum_by-cons, sum_by, after, IsWithin, inner, leaf, more, none, Tree, Trees, root_of, SameShape, SameShapes, Child, digits, image_part, children, IsAmong, start_of, Arities, down_from, leaves_below, AreLower, HasHeight, HoldNeeds, HoldsNeeds, needs_at, Placement, IsPlaced, Placements, ArePlaced, IsApartFrom}
use Rattle.tree_defs.specs.Tree.{Address}
use Rattle.embed_defs.proofs.Levels.{ArePositive, leaves-le}
use Rattle.embed_defs.proofs.EnoughHeights.{lower-more}
use Rattle.embed_defs.proofs.ChildOrder.{Comes-either}
use Rattle.embed_defs.proofs.Digits.{digits-within, take-within}
use Rattle.embed_defs.proofs.Blocks.{all_leaves, start-below, length-part, earlier-apart, later-apart}
use Rattle.embed_defs.proofs.NeedLeast.{LiesWithin, LieWithin}

-- the canonical placement, with the part of each image beyond its parent's
abbrev mutual
  pub parts : Arities → ℕ → Address → Tree ℕ → Placement
  parts a h e (leaf n) = leaf e
  parts a h e (inner n ts) = inner e (child_parts a h (children ts 0) ts 0)

  pub child_parts : Arities → ℕ → List Child → Trees ℕ → ℕ → Placements
  child_parts a h xs none i = none
  child_parts a h xs (more t ts) i = more (parts a (root_of t) (image_part a h xs (i, root_of t)) t) (child_parts a h xs ts (suc i))

-- each node has room for its children, and a leaf has height 0
abbrev mutual
  pub IsRoomy : Arities → ℕ → Tree ℕ → Type 0
  IsRoomy a h (leaf n) = h ≡ 0
  IsRoomy a h (inner n ts) = (all_leaves a (children ts 0) ≤ leaves_below a h) × AreRoomy a h ts

  pub AreRoomy : Arities → ℕ → Trees ℕ → Type 0
  AreRoomy a h none = Unit {0}
  AreRoomy a h (more t ts) = (root_of t + 1 ≤ h) × IsRoomy a (root_of t) t × AreRoomy a h ts

pub all-leaves : (a : Arities) (ts : Trees ℕ) (i : ℕ) → all_leaves a (children ts i) ≡ sum_by (leaves_below a) (needs_at ts)
all-leaves a none i = refl
all-leaves a (more t ts) i = omega (arith, all-leaves a ts (suc i), sum_by-cons (leaves_below a) (root_of t) (needs_at ts))

pub own_height : (a : Arities) (t : Tree ℕ) → HoldsNeeds a t → HasHeight (root_of t) t
own_height a (leaf n) d = d
own_height a (inner n ts) d = omega arith

mutual
  pub needs-roomy : (a : Arities) (t : Tree ℕ) (h : ℕ) → ArePositive a → HoldsNeeds a t → HasHeight h t → IsRoomy a h t
  needs-roomy a (leaf n) h p d l = l
  needs-roomy a (inner n ts) h p d l = (
    omega (arith, all-leaves a ts 0, d.0.holds.room, leaves-le a n h p l),
    are-roomy a ts h p d.1 (lower-more n h (needs_at ts) l d.0.holds.below),
  )

  are-roomy : (a : Arities) (ts : Trees ℕ) (h : ℕ) → ArePositive a → HoldNeeds a ts → AreLower h (needs_at ts) → AreRoomy a h ts
  are-roomy a none h p d l = tt
  are-roomy a (more t ts) h p d l = (l.0, needs-roomy a t (root_of t) p d.0 (own_height a t d.0), are-roomy a ts h p d.1 l.1)

pub root-parts : (a : Arities) (h : ℕ) (e : Address) (t : Tree ℕ) → root_of (parts a h e t) ≡ e
root-parts a h e (leaf n) = refl
root-parts a h e (inner n ts) = refl

part_long : (a : Arities) (h : ℕ) (xs : List Child) (x : Child) → x.1 + 1 ≤ h → image_part a h xs x ≢ []
part_long a h xs x l e = let n : h - x.1 ≡ 0 = sym (length-part a h xs x) ∙ ap length e in absurd (omega (arith, n))

module _ (a : Arities) (h : ℕ) (xs : List Child) (p : ArePositive a) (r : all_leaves a xs ≤ leaves_below a h) where
  apart : (x y : Child) → x.0 ≢ y.0 → IsAmong x xs → IsAmong y xs → x.1 ≤ h → y.1 ≤ h → (after (image_part a h xs x) (image_part a h xs y) ≡ None) × (after (image_part a h xs y) (image_part a h xs x) ≡ None)
  apart x y n m k l o = elim (Comes-either x y n) [
    | inl c ↦ (earlier-apart a h xs p r x y m k l c, later-apart a h xs p r x y m k l c)
    | inr c ↦ (later-apart a h xs p r y x k m o c, earlier-apart a h xs p r y x k m o c)
  ]

  apart_from_rest : (x : Child) (ts : Trees ℕ) (i : ℕ) → x.0 < i → IsAmong x xs → x.1 ≤ h → ((y : Child) → IsAmong y (children ts i) → IsAmong y xs) → AreRoomy a h ts
      → IsApartFrom (image_part a h xs x) (child_parts a h xs ts i)
  apart_from_rest x none i l m k f w = tt
  apart_from_rest x (more t ts) i l m k f w =
      let e : root_of (parts a (root_of t) (image_part a h xs (i, root_of t)) t) ≡ image_part a h xs (i, root_of t) = root-parts a (root_of t) (image_part a h xs (i, root_of t)) t in
      let q : (after (image_part a h xs x) (image_part a h xs (i, root_of t)) ≡ None) × (after (image_part a h xs (i, root_of t)) (image_part a h xs x) ≡ None)
      = apart x (i, root_of t) (omega arith) m (f (i, root_of t) (inl refl)) k (omega (arith, w.0)) in
      rw e (q.0, q.1, apart_from_rest x ts (suc i) (omega arith) m k (λ y j. f y (inr j)) w.2)

mutual
  pub parts-good : (a : Arities) (t : Tree ℕ) (h : ℕ) (e : Address) → ArePositive a → IsRoomy a h t
      → IsPlaced (parts a h e t) × SameShape t (parts a h e t) × LiesWithin a h (parts a h e t)
  parts-good a (leaf n) h e p w = (tt, tt, w)
  parts-good a (inner n ts) h e p w = child_parts-good a ts h (children ts 0) 0 p w.0 (λ y k. k) w.1

  child_parts-good : (a : Arities) (ts : Trees ℕ) (h : ℕ) (xs : List Child) (i : ℕ) → ArePositive a → all_leaves a xs ≤ leaves_below a h → ((y : Child) → IsAmong y (children ts i) → IsAmong y xs) → AreRoomy a h ts
      → ArePlaced (child_parts a h xs ts i) × SameShapes ts (child_parts a h xs ts i) × LieWithin a h (child_parts a h xs ts i)
  child_parts-good a none h xs i p r f w = (tt, tt, tt)
  child_parts-good a (more t ts) h xs i p r f w =
      let m : IsAmong (i, root_of t) xs = f (i, root_of t) (inl refl) in
      let e : root_of (parts a (root_of t) (image_part a h xs (i, root_of t)) t) ≡ image_part a h xs (i, root_of t) = root-parts a (root_of t) (image_part a h xs (i, root_of t)) t in
      let g : IsPlaced (parts a (root_of t) (image_part a h xs (i, root_of t)) t) × SameShape t (parts a (root_of t) (image_part a h xs (i, root_of t)) t) × LiesWithin a (root_of t) (parts a (root_of t) (image_part a h xs (i, root_of t)) t)
      = parts-good a t (root_of t) (image_part a h xs (i, root_of t)) p w.1 in
      let k : ArePlaced (child_parts a h xs ts (suc i)) × SameShapes ts (child_parts a h xs ts (suc i)) × LieWithin a h (child_parts a h xs ts (suc i))
      = child_parts-good a ts h xs (suc i) p r (λ y j. f y (inr j)) w.2 in
      let n : root_of t ≡ h - length (image_part a h xs (i, root_of t)) = omega (arith, length-part a h xs (i, root_of t), w.0) in
      let d : IsWithin (down_from a h) (image_part a h xs (i, root_of t))
      = take-within a h (h - root_of t) (digits a h (start_of a xs (i, root_of t))) (digits-within a h (start_of a xs (i, root_of t)) p (start-below a h xs (i, root_of t) p m r)) in (
        rw e (part_long a h xs (i, root_of t) w.0, apart_from_rest a h xs p r (i, root_of t) ts (suc i) (omega arith) m (omega (arith, w.0)) (λ y j. f y (inr j)) w.2, g.0, k.0),
        (g.1, k.1),
        rw e (d, subst (λ (z : ℕ). LiesWithin a z (parts a (root_of t) (image_part a h xs (i, root_of t)) t)) n g.2, k.2),
      )
