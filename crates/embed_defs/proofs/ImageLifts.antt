-- The lift under a good map's images is the lift under the parts of its placement.
use Rattle.embed_defs.proofs.Prelude.{[], ℕ, ◌≡◌, refl, ◌∷◌, ap, ◌∙◌, suc, sym, Some, zero, ◌++◌, None, subst, Option, ◌↔◌, fun_ext, same_shape, topology_of-same, after-is, Queue, SourceTree, IsPrefixOf, inner, leaf, more, none, Tree, SameShape, subtree_in, subtree, IsAddressOf, Family, SameQueues, image_map, digit_beyond, IsLift, passing_by, IsLongestAt, StandsAt, Maps, lift, placement_of, Placement, IsPlaced, Placements, lift_digits, part}
use Rattle.tree_defs.specs.Tree.{Address}
use Rattle.embed_defs.proofs.Addresses.{none_unless}
use Rattle.embed_defs.proofs.Subtrees.{same_address, subtree-then}
use Rattle.embed_defs.proofs.LiftAddresses.{digit_beyond-sum}
use Rattle.embed_defs.proofs.LiftLaw.{image-append, lift-law}
use Rattle.embed_defs.proofs.LongestPrefixes.{lift-one}
use Rattle.embed_defs.proofs.MapPlacements.{placed, image-is, shape-relative}

-- a child that doesn't exist has an empty part
no_part : (ps : Placements) (i : ℕ) → subtree_in ps i [] ≡ None → part ps i ≡ []
no_part none i p = refl
no_part (more (leaf e) ps) zero p = cc
no_part (more (inner e us) ps) zero p = cc
no_part (more p ps) (suc i) q = no_part ps i q

pub other_shape : {Q R : Type 0} (t : Tree Q) (u : Tree R) → SameShape t u → SameShape u t
other_shape t u s = same_shape u t (sym (topology_of-same t u s))

-- a tree of the same shape has no other addresses
no_address : {Q R : Type 0} (t : Tree Q) (u : Tree R) (a : Address) → SameShape t u → subtree t a ≡ None → subtree u a ≡ None
no_address {Q = Q} {R = R} t u a s n = missing (subtree u a) refl
  where
    missing : (o : Option (Tree R)) → subtree u a ≡ o → subtree u a ≡ None
    missing None p = p
    missing (Some v) p =
        let w : (z : Tree Q) × (subtree t a ≡ Some z) × SameShape v z = same_address u t a v (other_shape t u s) p in
        let y : None ≡ Some w.0 = sym n ∙ w.1 in cc

module _ (h : ℕ) (t : SourceTree) (images : Tree Address) (m : Maps h t images) where
  abbrev p : Placement
  p = placement_of images

  pub shape : SameShape t p
  shape = shape-relative 0 t images m.shape

  pub is_placed : IsPlaced p
  is_placed = placed h 0 images m.good.deep m.good.nested

  pub agrees : (a : Address) → IsAddressOf t a → image_map images a ≡ lift_digits p a
  agrees a x = let w : (v : Tree Address) × (subtree images a ≡ Some v) × SameShape x.0 v = same_address t images a x.0 m.shape x.1 in image-is images a w.0 m.good.root m.good.nested w.1

  -- a value that isn't a child's index maps to no digit
  no_digit : (b a : Address) (e : Address) (ps : Placements) (i : ℕ) → subtree p a ≡ Some (inner e ps) → IsPrefixOf (lift_digits p a) b → subtree t (a ++ i ∷ []) ≡ None
      → digit_beyond (image_map images (a ++ i ∷ [])) b ≡ digit_beyond (lift_digits p (a ++ i ∷ [])) b
  no_digit b a e ps i s x n =
      let o : image_map images (a ++ i ∷ []) ≡ [] = rw (no_address t images (a ++ i ∷ []) m.shape n) refl in
      let c : part ps i ≡ [] = no_part ps i (none_unless (subtree_in ps i []) (λ z k.
      let y : None ≡ Some z = sym (no_address t p (a ++ i ∷ []) shape n) ∙ subtree-then p a e ps i z s k in cc)) in
      rw (o, image-append p a e ps i s, c, after-is (lift_digits p a) b x.0 x.1) (sym (digit_beyond-sum (lift_digits p a) [] x.0))

  same_digit : (b a : Address) (e : Address) (ps : Placements) → subtree p a ≡ Some (inner e ps) → IsPrefixOf (lift_digits p a) b → (i : ℕ) (o : Option SourceTree) → subtree t (a ++ i ∷ []) ≡ o
      → digit_beyond (image_map images (a ++ i ∷ [])) b ≡ digit_beyond (lift_digits p (a ++ i ∷ [])) b
  same_digit b a e ps s x i (Some u) q = ap (λ (z : Address). digit_beyond z b) (agrees (a ++ i ∷ []) (u, q))
  same_digit b a e ps s x i None q = no_digit b a e ps i s x q

  -- the queue at b is the same under both maps
  standing : (b a : Address) (u : SourceTree) (v : Placement) (w : Queue) → subtree t a ≡ Some u → subtree p a ≡ Some v → SameShape u v → IsPrefixOf (lift_digits p a) b
      → StandsAt (image_map images) b a u w ↔ StandsAt (lift_digits p) b a u w
  standing b a (leaf q) v w s r z x = let e : image_map images a ≡ lift_digits p a = agrees a (leaf q, s) in (λ k. rw e at k, λ k. rw e k)
  standing b a (inner q ts) (leaf e) w s r z x = absurd z
  standing b a (inner q ts) (inner e ps) w s r z x =
      let f : (λ (i : ℕ). digit_beyond (image_map images (a ++ i ∷ [])) b) ≡ (λ (i : ℕ). digit_beyond (lift_digits p (a ++ i ∷ [])) b) = fun_ext (λ i. same_digit b a e ps r x i (subtree t (a ++ i ∷ [])) refl) in
      (λ k. k ∙ ap (λ (g : ℕ → Option ℕ). passing_by g q) f, λ k. k ∙ ap (λ (g : ℕ → Option ℕ). passing_by g q) (sym f))

  to_parts : (b a : Address) → IsLongestAt t (image_map images) b a → IsLongestAt t (lift_digits p) b a
  to_parts b a l = record {
    address = l.address;
    above = subst (λ (z : Address). IsPrefixOf z b) (agrees a l.address) l.above;
    longest = λ c x y. l.longest c x (subst (λ (z : Address). IsPrefixOf z b) (sym (agrees c x)) y);
  }

  to_images : (b a : Address) → IsLongestAt t (lift_digits p) b a → IsLongestAt t (image_map images) b a
  to_images b a l = record {
    address = l.address;
    above = subst (λ (z : Address). IsPrefixOf z b) (sym (agrees a l.address)) l.above;
    longest = λ c x y. l.longest c x (subst (λ (z : Address). IsPrefixOf z b) (agrees c x) y);
  }

  -- the queues that the function gives are the lift
  pub is-lift : (F : Family) → SameQueues F (lift t p) → IsLift t (image_map images) F
  is-lift F f b a u l s =
      let k : IsLongestAt t (lift_digits p) b a = to_parts b a l in
      let w : (v : Placement) × (subtree p a ≡ Some v) × SameShape u v = same_address t p a u shape s in
      subst (StandsAt (image_map images) b a u) (sym (f b)) ((standing b a u w.0 (lift t p b) s w.1 w.2 k.above).1 (lift-law t p is_placed shape b a u k s))

  -- any lift has the queues that the function gives
  pub lift-is : (F : Family) → IsLift t (image_map images) F → SameQueues F (lift t p)
  lift-is F f = lift-one t p F is_placed shape (λ b a u l s.
      let w : (v : Placement) × (subtree p a ≡ Some v) × SameShape u v = same_address t p a u shape s in
      (standing b a u w.0 (F b) s w.1 w.2 l.above).0 (f b a u (to_images b a l) s))
