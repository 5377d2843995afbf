-- The lift by recursion on tree and placement agrees, at each address, with the definition by the
-- longest address above it.
use Rattle.embed_defs.proofs.Prelude.{[], ℕ, ◌≡◌, refl, ◌∷◌, ap, ◌∙◌, arith, suc, sym, length, ◌≤◌, Some, zero, ◌++◌, None, subst, append-nil, length-append, Option, append_assoc, unwrap_or, fun_ext, after-append, after-is, Queue, after, inner, leaf, more, none, Tree, Trees, SameShape, SameShapes, subtree_in, subtree, IsAddressOf, HasChild, digit_beyond, IsLift, passing_by, IsLongestAt, StandsAt, lift, lift_below, digit_at, lift_child, passing, Placement, IsPlaced, Placements, ArePlaced, lift_digits, part, digits_below}
use Rattle.tree_defs.specs.Tree.{Address}
use Rattle.embed_defs.proofs.Addresses.{after-sum, none_unless}
use Rattle.embed_defs.proofs.Subtrees.{subtree-then}
use Rattle.embed_defs.proofs.LiftAddresses.{digit_beyond-sum}
use Rattle.embed_defs.proofs.LiftPush.{lift_at_child}

-- ---- at and below the image of an address the lift is that of the subtree
mutual
  pub lift_at_image : (t : Tree Queue) (p : Placement) (a : Address) (u : Tree Queue) (c : Address) → IsPlaced p → SameShape t p → subtree t a ≡ Some u
      → (v : Placement) × (subtree p a ≡ Some v) × SameShape u v × IsPlaced v × (lift t p (lift_digits p a ++ c) ≡ lift u v c)
  lift_at_image (leaf q) (leaf e) [] u c h s m = let n : leaf q ≡ u = cc in subst (λ (z : Tree Queue). (v : Placement) × (Some (leaf e) ≡ Some v) × SameShape z v × IsPlaced v × (lift (leaf q) (leaf e) c ≡ lift z v c)) n (leaf e, refl, tt, tt, refl)
  lift_at_image (leaf q) p (i ∷ a) u c h s m = cc
  lift_at_image (leaf q) (inner e ps) [] u c h s m = absurd s
  lift_at_image (inner q ts) (leaf e) a u c h s m = absurd s
  lift_at_image (inner q ts) (inner e ps) [] u c h s m =
      let n : inner q ts ≡ u = cc in
      subst (λ (z : Tree Queue). (v : Placement) × (Some (inner e ps) ≡ Some v) × SameShape z v × IsPlaced v × (lift (inner q ts) (inner e ps) c ≡ lift z v c)) n (inner e ps, refl, s, h, refl)
  lift_at_image (inner q ts) (inner e ps) (i ∷ a) u c h s m =
      let w : (v : Placement) × (subtree_in ps i a ≡ Some v) × SameShape u v × IsPlaced v × HasChild ts i × (lift_child ts ps i (digits_below ps i a ++ c) ≡ lift u v c) = lift_child_at_image ts ps i a u c h s m in
      let at : lift_below ts ps (part ps i ++ (digits_below ps i a ++ c)) ≡ Some (lift_child ts ps i (digits_below ps i a ++ c)) = lift_at_child ts ps i (part ps i ++ (digits_below ps i a ++ c)) (digits_below ps i a ++ c) h s w.4 (after-append (part ps i) (digits_below ps i a ++ c)) in
      (w.0, w.1, w.2, w.3, ap (lift (inner q ts) (inner e ps)) (append_assoc (part ps i) (digits_below ps i a) c) ∙ ap (λ (o : Option Queue). unwrap_or o (passing ps q (part ps i ++ (digits_below ps i a ++ c)))) at ∙ w.5)

  pub lift_child_at_image : (ts : Trees Queue) (ps : Placements) (i : ℕ) (a : Address) (u : Tree Queue) (c : Address) → ArePlaced ps → SameShapes ts ps → subtree_in ts i a ≡ Some u
      → (v : Placement) × (subtree_in ps i a ≡ Some v) × SameShape u v × IsPlaced v × HasChild ts i × (lift_child ts ps i (digits_below ps i a ++ c) ≡ lift u v c)
  lift_child_at_image none ps i a u c h s m = cc
  lift_child_at_image (more t ts) none i a u c h s m = absurd s
  lift_child_at_image (more t ts) (more p ps) zero a u c h s m =
      let w : (v : Placement) × (subtree p a ≡ Some v) × SameShape u v × IsPlaced v × (lift t p (lift_digits p a ++ c) ≡ lift u v c) = lift_at_image t p a u c h.2 s.0 m in
      (w.0, w.1, w.2, w.3, tt, w.4)
  lift_child_at_image (more t ts) (more p ps) (suc i) a u c h s m = lift_child_at_image ts ps i a u c h.3 s.1 m

-- ---- one digit further
pub digits_below-nil : (ps : Placements) (i : ℕ) → digits_below ps i [] ≡ []
digits_below-nil none i = refl
digits_below-nil (more p ps) zero = root p
  where
    root : (p : Placement) → lift_digits p [] ≡ []
    root (leaf e) = refl
    root (inner e ps) = refl
digits_below-nil (more p ps) (suc i) = digits_below-nil ps i

mutual
  pub image-append : (p : Placement) (a : Address) (e : Address) (ps : Placements) (i : ℕ) → subtree p a ≡ Some (inner e ps) → lift_digits p (a ++ i ∷ []) ≡ lift_digits p a ++ part ps i
  image-append (leaf f) [] e ps i m = cc
  image-append (leaf f) (j ∷ a) e ps i m = cc
  image-append (inner f qs) [] e ps i m =
      let n : qs ≡ ps = cc in
      rw (digits_below-nil qs i, append-nil) (ap (λ (z : Placements). part z i) n)
  image-append (inner f qs) (j ∷ a) e ps i m = ap (λ (z : Address). part qs j ++ z) (digits_below-append qs j a e ps i m) ∙ sym (append_assoc (part qs j) (digits_below qs j a) (part ps i))

  pub digits_below-append : (qs : Placements) (j : ℕ) (a : Address) (e : Address) (ps : Placements) (i : ℕ) → subtree_in qs j a ≡ Some (inner e ps) → digits_below qs j (a ++ i ∷ []) ≡ digits_below qs j a ++ part ps i
  digits_below-append none j a e ps i m = cc
  digits_below-append (more q qs) zero a e ps i m = image-append q a e ps i m
  digits_below-append (more q qs) (suc j) a e ps i m = digits_below-append qs j a e ps i m

pub child_is : {Q : Type 0} (ts : Trees Q) (i : ℕ) → HasChild ts i → (z : Tree Q) × (subtree_in ts i [] ≡ Some z)
child_is none i h = absurd h
child_is (more (leaf q) ts) zero h = (leaf q, refl)
child_is (more (inner q us) ts) zero h = (inner q us, refl)
child_is (more t ts) (suc i) h = child_is ts i h

subtree-append : (t : Tree Queue) (a : Address) (q : Queue) (ts : Trees Queue) (i : ℕ) → subtree t a ≡ Some (inner q ts) → HasChild ts i → IsAddressOf t (a ++ i ∷ [])
subtree-append t a q ts i m h = let c : (z : Tree Queue) × (subtree_in ts i [] ≡ Some z) = child_is ts i h in (c.0, subtree-then t a q ts i c.0 m c.1)

pub nothing_at : (ts : Trees Queue) (ps : Placements) (c : Address) → ((i : ℕ) → HasChild ts i → after (part ps i) c ≡ None) → lift_below ts ps c ≡ None
nothing_at none ps c f = refl
nothing_at (more t ts) none c f = refl
nothing_at (more t ts) (more p ps) c f = rw (f zero tt) (nothing_at ts ps c (λ i h. f (suc i) h))

-- ---- the lift as the specification defines it
law_at : (t : Tree Queue) (p : Placement) (b a c : Address) → IsLongestAt t (lift_digits p) b a → b ≡ lift_digits p a ++ c
    → (u : Tree Queue) (v : Placement) → subtree t a ≡ Some u → subtree p a ≡ Some v → SameShape u v → lift t p b ≡ lift u v c → StandsAt (lift_digits p) b a u (lift t p b)
law_at t p b a [] l is (leaf q) (leaf e) m n s f = (λ _. f, λ d. absurd (d (sym (is ∙ append-nil (lift_digits p a)))))
law_at t p b a (y ∷ c) l is (leaf q) (leaf e) m n s f =
    (λ (d : lift_digits p a ≡ b). let k : length (lift_digits p a) ≡ length (lift_digits p a ++ y ∷ c) = ap length (d ∙ is) in absurd (omega (arith, k, length-append (lift_digits p a) (y ∷ c))), λ _. f)
law_at t p b a c l is (leaf q) (inner e ps) m n s f = absurd s
law_at t p b a c l is (inner q ts) (leaf e) m n s f = absurd s
law_at t p b a c l is (inner q ts) (inner e ps) m n s f =
    let none : lift_below ts ps c ≡ None = nothing_at ts ps c (λ i h. none_unless (after (part ps i) c) (λ d k. too_long i h d k)) in
    let same : digit_at ps c ≡ (λ (i : ℕ). digit_beyond (lift_digits p (a ++ i ∷ [])) b) = fun_ext (λ i. sym (digit_is i)) in
    f ∙ ap (λ (o : Option Queue). unwrap_or o (passing ps q c)) none ∙ ap (λ (g : ℕ → Option ℕ). passing_by g q) same
  where
    digit_is : (i : ℕ) → digit_beyond (lift_digits p (a ++ i ∷ [])) b ≡ digit_at ps c i
    digit_is i = rw (image-append p a e ps i n, is) (digit_beyond-sum (lift_digits p a) (part ps i) c)

    too_long : (i : ℕ) → HasChild ts i → (d : Address) → after (part ps i) c ≡ Some d → ⊥
    too_long i h d k =
        let above : after (lift_digits p (a ++ i ∷ [])) b ≡ Some d = rw (image-append p a e ps i n, is) (after-sum (lift_digits p a) (part ps i) c ∙ k) in
        let longer : length (a ++ i ∷ []) ≤ length a = l.longest (a ++ i ∷ []) (subtree-append t a q ts i m h) (d, above) in
        omega (arith, longer, length-append a (i ∷ []))

pub lift-law : (t : Tree Queue) (p : Placement) → IsPlaced p → SameShape t p → IsLift t (lift_digits p) (lift t p)
lift-law t p h s b a u l m =
    let is : b ≡ lift_digits p a ++ l.above.0 = after-is (lift_digits p a) b l.above.0 l.above.1 in
    let w : (v : Placement) × (subtree p a ≡ Some v) × SameShape u v × IsPlaced v × (lift t p (lift_digits p a ++ l.above.0) ≡ lift u v l.above.0) = lift_at_image t p a u l.above.0 h s m in
    law_at t p b a l.above.0 l is u w.0 m w.1 w.2 (ap (lift t p) is ∙ w.4)
