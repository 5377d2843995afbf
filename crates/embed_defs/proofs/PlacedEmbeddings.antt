-- A placement is an embedding.
use Rattle.embed_defs.proofs.Prelude.{[], ℕ, ◌≡◌, refl, ◌∷◌, ap, ◌∙◌, arith, suc, sym, length, Some, zero, ◌++◌, ◌-◌, None, subst, ◌≢◌, length-append, append_assoc, after-append, after-is, leaf_at, address_of_complete, leaf_of_complete, after, Topology, IsWithin, IsPrefixOf, complete, inner, leaf, more, none, root_of, SameShape, subtree_in, subtree, IsAddressOf, LeadsToLeaf, IsEmbedding, Arities, down_from, Placement, IsPlaced, Placements, ArePlaced, lift_digits, IsApartFrom, part, digits_below}
use Rattle.tree_defs.specs.Tree.{Address}
use Rattle.embed_defs.proofs.Levels.{address-append, address-short, length-down_from}
use Rattle.embed_defs.proofs.Addresses.{after-sum, one_prefix}
use Rattle.embed_defs.proofs.Subtrees.{same_address}
use Rattle.embed_defs.proofs.NeedLeast.{LiesWithin, LieWithin}

-- the image of a longer address extends the image of its prefix
mutual
  image_goes_on : (p : Placement) (a c : Address) → IsAddressOf p (a ++ c) → IsPrefixOf (lift_digits p a) (lift_digits p (a ++ c))
  image_goes_on (leaf e) [] c w = ([], on c)
    where
      on : (c : Address) → after [] (lift_digits (leaf e) c) ≡ Some []
      on c = refl
  image_goes_on (leaf e) (i ∷ a) c w = ([], refl)
  image_goes_on (inner e ps) [] c w = (lift_digits (inner e ps) c, refl)
  image_goes_on (inner e ps) (i ∷ a) c w =
      let v : IsPrefixOf (digits_below ps i a) (digits_below ps i (a ++ c)) = image_goes_on_in ps i a c w in
      (v.0, after-sum (part ps i) (digits_below ps i a) (digits_below ps i (a ++ c)) ∙ v.1)

  image_goes_on_in : (ps : Placements) (i : ℕ) (a c : Address) → (v : Placement) × (subtree_in ps i (a ++ c) ≡ Some v) → IsPrefixOf (digits_below ps i a) (digits_below ps i (a ++ c))
  image_goes_on_in none i a c w = ([], refl)
  image_goes_on_in (more p ps) zero a c w = image_goes_on p a c w
  image_goes_on_in (more p ps) (suc i) a c w = image_goes_on_in ps i a c w

-- digits apart from those of each child are apart from those of child i
pub apart_part : (e : Address) (ps : Placements) (i : ℕ) → IsApartFrom e ps → part ps i ≢ [] → (after e (part ps i) ≡ None) × (after (part ps i) e ≡ None)
apart_part e none i h n = absurd (n refl)
apart_part e (more p ps) zero h n = (h.0, h.1)
apart_part e (more p ps) (suc i) h n = apart_part e ps i h.2 n

long_part : (ps : Placements) (i : ℕ) (a : Address) (v : Placement) → ArePlaced ps → subtree_in ps i a ≡ Some v → part ps i ≢ []
long_part none i a v h m = cc
long_part (more p ps) zero a v h m = h.0
long_part (more p ps) (suc i) a v h m = long_part ps i a v h.3 m

one_child : (ps : Placements) (i j : ℕ) (a b : Address) (u v : Placement) (x y : Address) → ArePlaced ps → subtree_in ps i a ≡ Some u → subtree_in ps j b ≡ Some v → part ps i ++ x ≡ part ps j ++ y → i ≡ j
one_child none i j a b u v x y h m n e = cc
one_child (more p ps) zero zero a b u v x y h m n e = refl
one_child (more p ps) zero (suc j) a b u v x y h m n e =
    let w : (after (root_of p) (part ps j) ≡ None) × (after (part ps j) (root_of p) ≡ None) = apart_part (root_of p) ps j h.1 (long_part ps j b v h.3 n) in
    absurd (one_prefix (root_of p) (part ps j) (root_of p ++ x) x y (after-append (root_of p) x) (ap (after (part ps j)) e ∙ after-append (part ps j) y) w.0 w.1)
one_child (more p ps) (suc i) zero a b u v x y h m n e =
    let w : (after (root_of p) (part ps i) ≡ None) × (after (part ps i) (root_of p) ≡ None) = apart_part (root_of p) ps i h.1 (long_part ps i a u h.3 m) in
    absurd (one_prefix (root_of p) (part ps i) (root_of p ++ y) y x (after-append (root_of p) y) (ap (after (part ps i)) (sym e) ∙ after-append (part ps i) x) w.0 w.1)
one_child (more p ps) (suc i) (suc j) a b u v x y h m n e = ap suc (one_child ps i j a b u v x y h.3 m n e)

nonempty_prefix : (e x c : Address) → e ≢ [] → after (e ++ x) [] ≡ Some c → ⊥
nonempty_prefix [] x c n p = n refl
nonempty_prefix (y ∷ e) x c n p = cc

-- an address is a prefix of another if its image is a prefix of the other's
mutual
  pub prefix_back : (p : Placement) (a b : Address) (u v : Placement) → IsPlaced p → subtree p a ≡ Some u → subtree p b ≡ Some v → IsPrefixOf (lift_digits p a) (lift_digits p b) → IsPrefixOf a b
  prefix_back p [] b u v h m n q = (b, refl)
  prefix_back (leaf e) (i ∷ a) b u v h m n q = cc
  prefix_back (inner e ps) (i ∷ a) [] u v h m n q = absurd (nonempty_prefix (part ps i) (digits_below ps i a) q.0 (long_part ps i a u h m) q.1)
  prefix_back (inner e ps) (i ∷ a) (j ∷ b) u v h m n q =
      let e1 : part ps j ++ digits_below ps j b ≡ (part ps i ++ digits_below ps i a) ++ q.0 = after-is (part ps i ++ digits_below ps i a) (part ps j ++ digits_below ps j b) q.0 q.1 in
      let e2 : part ps i ++ (digits_below ps i a ++ q.0) ≡ part ps j ++ digits_below ps j b = sym (append_assoc (part ps i) (digits_below ps i a) q.0) ∙ sym e1 in
      let k : i ≡ j = one_child ps i j a b u v (digits_below ps i a ++ q.0) (digits_below ps j b) h m n e2 in
      let n' : subtree_in ps i b ≡ Some v = subst (λ (z : ℕ). subtree_in ps z b ≡ Some v) (sym k) n in
      let r : after (part ps i ++ digits_below ps i a) (part ps i ++ digits_below ps i b) ≡ Some q.0 = subst (λ (z : ℕ). after (part ps i ++ digits_below ps i a) (part ps z ++ digits_below ps z b) ≡ Some q.0) (sym k) q.1 in
      let w : IsPrefixOf a b = prefix_back_in ps i a b u v h m n' (q.0, sym (after-sum (part ps i) (digits_below ps i a) (digits_below ps i b)) ∙ r) in
      (w.0, subst (λ (z : ℕ). after (i ∷ a) (z ∷ b) ≡ Some w.0) k (after-sum (i ∷ []) a b ∙ w.1))

  prefix_back_in : (ps : Placements) (i : ℕ) (a b : Address) (u v : Placement) → ArePlaced ps → subtree_in ps i a ≡ Some u → subtree_in ps i b ≡ Some v → IsPrefixOf (digits_below ps i a) (digits_below ps i b) → IsPrefixOf a b
  prefix_back_in none i a b u v h m n q = cc
  prefix_back_in (more p ps) zero a b u v h m n q = prefix_back p a b u v h.2 m n q
  prefix_back_in (more p ps) (suc i) a b u v h m n q = prefix_back_in ps i a b u v h.3 m n q

-- an image leads to a node below which the rest is placed
mutual
  image-within : (a : Arities) (p : Placement) (h : ℕ) (b : Address) (v : Placement) → LiesWithin a h p → subtree p b ≡ Some v → IsWithin (down_from a h) (lift_digits p b) × LiesWithin a (h - length (lift_digits p b)) v
  image-within a (leaf e) h [] v w m = let n : leaf e ≡ v = cc in let k : h - length {A = ℕ} [] ≡ h = omega arith in (tt, rw k (subst (LiesWithin a h) n w))
  image-within a (leaf e) h (i ∷ b) v w m = cc
  image-within a (inner e ps) h [] v w m = let n : inner e ps ≡ v = cc in let k : h - length {A = ℕ} [] ≡ h = omega arith in (tt, rw k (subst (LiesWithin a h) n w))
  image-within a (inner e ps) h (i ∷ b) v w m =
      let r : IsWithin (down_from a h) (part ps i) × IsWithin (down_from a (h - length (part ps i))) (digits_below ps i b) × LiesWithin a ((h - length (part ps i)) - length (digits_below ps i b)) v = image-within_in a ps h i b v w m in
      let k : (h - length (part ps i)) - length (digits_below ps i b) ≡ h - length (part ps i ++ digits_below ps i b) = omega (arith, length-append (part ps i) (digits_below ps i b)) in
      (address-append a h (part ps i) (digits_below ps i b) r.0 r.1, subst (λ (z : ℕ). LiesWithin a z v) k r.2)

  image-within_in : (a : Arities) (ps : Placements) (h i : ℕ) (b : Address) (v : Placement) → LieWithin a h ps → subtree_in ps i b ≡ Some v
      → IsWithin (down_from a h) (part ps i) × IsWithin (down_from a (h - length (part ps i))) (digits_below ps i b) × LiesWithin a ((h - length (part ps i)) - length (digits_below ps i b)) v
  image-within_in a none h i b v w m = cc
  image-within_in a (more p ps) h zero b v w m =
      let r : IsWithin (down_from a (h - length (root_of p))) (lift_digits p b) × LiesWithin a ((h - length (root_of p)) - length (lift_digits p b)) v = image-within a p (h - length (root_of p)) b v w.1 m in
      (w.0, r.0, r.1)
  image-within_in a (more p ps) h (suc i) b v w m = image-within_in a ps h i b v w.2 m

pub placement-embedding : (a : Arities) (h : ℕ) (t : Topology) (p : Placement) → SameShape t p → IsPlaced p → LiesWithin a h p → IsEmbedding t (complete (down_from a h)) (lift_digits p)
placement-embedding a h t p s i w = record {
  root = root p;
  inside = λ b m. inside b m.0 (same_address t p b m.0 s m.1);
  leaves = λ b m. let l : (u : Unit {0}) × (subtree t b ≡ Some (leaf u)) = leaf_at t b m in leaves b l.0 (same_address t p b (leaf l.0) s l.1);
  prefixes = λ b c m n. (
    λ q. forward b c n.0 (same_address t p c n.0 s n.1) q,
    λ q. let u : (v : Placement) × (subtree p b ≡ Some v) × SameShape m.0 v = same_address t p b m.0 s m.1 in
        let v : (v : Placement) × (subtree p c ≡ Some v) × SameShape n.0 v = same_address t p c n.0 s n.1 in
        prefix_back p b c u.0 v.0 i u.1 v.1 q,
  );
}
  where
    root : (p : Placement) → lift_digits p [] ≡ []
    root (leaf e) = refl
    root (inner e ps) = refl

    inside : (b : Address) (u : Topology) → ((v : Placement) × (subtree p b ≡ Some v) × SameShape u v) → IsAddressOf (complete (down_from a h)) (lift_digits p b)
    inside b u m = let k : IsWithin (down_from a h) (lift_digits p b) × LiesWithin a (h - length (lift_digits p b)) m.0 = image-within a p h b m.0 w m.1 in address_of_complete (down_from a h) (lift_digits p b) k.0

    at_leaf : (u : Unit {0}) (v : Placement) (k : ℕ) → SameShape (leaf u) v → LiesWithin a k v → k ≡ 0
    at_leaf u (leaf e) k s z = z
    at_leaf u (inner e ps) k s z = absurd s

    leaves : (b : Address) (u : Unit {0}) → ((v : Placement) × (subtree p b ≡ Some v) × SameShape (leaf u) v) → LeadsToLeaf (complete (down_from a h)) (lift_digits p b)
    leaves b u m =
        let k : IsWithin (down_from a h) (lift_digits p b) × LiesWithin a (h - length (lift_digits p b)) m.0 = image-within a p h b m.0 w m.1 in
        let n : h - length (lift_digits p b) ≡ 0 = at_leaf u m.0 (h - length (lift_digits p b)) m.2 k.1 in
        leaf_of_complete (down_from a h) (lift_digits p b) k.0 (omega (arith, n, address-short a h (lift_digits p b) k.0, length-down_from a h))

    forward : (b c : Address) (u : Topology) → ((v : Placement) × (subtree p c ≡ Some v) × SameShape u v) → IsPrefixOf b c → IsPrefixOf (lift_digits p b) (lift_digits p c)
    forward b c u m q =
        let e : c ≡ b ++ q.0 = after-is b c q.0 q.1 in
        subst (λ (x : Address). IsPrefixOf (lift_digits p b) (lift_digits p x)) (sym e) (image_goes_on p b q.0 (subst (IsAddressOf p) e (m.0, m.1)))
