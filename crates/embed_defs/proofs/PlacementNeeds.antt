-- An embedding gives a placement, so no complete tree lower than the need has an embedding.
use Rattle.embed_defs.proofs.Prelude.{[], ℕ, ◌≡◌, refl, ◌∷◌, ap, ◌∙◌, arith, suc, sym, length, ◌≤◌, Some, ◌++◌, ◌+◌, ◌-◌, None, ◌<◌, subst, ◌≢◌, append-nil, length-append, drop, drop_at, same_shape, topology_of-same, after-append, after-is, deep_leaf, leads_to, within_complete, after, Topology, IsWithin, IsPrefixOf, complete, inner, leaf, more, none, Tree, Trees, root_of, SameShape, SameShapes, subtree_in, subtree, IsAddressOf, LeadsToLeaf, IsEmbedding, Arities, down_from, AreNeedsOf, HasHeight, IsNeed, Placement, IsPlaced, Placements, ArePlaced, IsApartFrom}
use Rattle.tree_defs.specs.Tree.{Address}
use Rattle.embed_defs.proofs.Levels.{ArePositive, address-after, address-short, length-down_from}
use Rattle.embed_defs.proofs.Addresses.{after-sum, none_unless}
use Rattle.embed_defs.proofs.Subtrees.{subtree-root, subtree-then}
use Rattle.embed_defs.proofs.NeedLeast.{LiesWithin, LieWithin, need_least}

-- no child's address is a prefix of another's
same_child : (a : Address) (i j : ℕ) → IsPrefixOf (a ++ i ∷ []) (a ++ j ∷ []) → i ≡ j
same_child a i j p =
    let q : after (i ∷ []) (j ∷ []) ≡ Some p.0 = sym (after-sum a (i ∷ []) (j ∷ [])) ∙ p.1 in
    let r : j ∷ [] ≡ (i ∷ []) ++ p.0 = after-is (i ∷ []) (j ∷ []) p.0 q in
    cc

not_below_parent : (a : Address) (i : ℕ) → IsPrefixOf (a ++ i ∷ []) a → ⊥
not_below_parent a i p =
    let q : length a ≡ length ((a ++ i ∷ []) ++ p.0) = ap length (after-is (a ++ i ∷ []) a p.0 p.1) in
    omega (arith, q, length-append (a ++ i ∷ []) p.0, length-append a (i ∷ []))

-- the placement that images give for the subtree at address a, where e is the parent's image
abbrev mutual
  place : (Address → Address) → Address → Address → Topology → Placement
  place f a e (leaf u) = leaf (drop (length e) (f a))
  place f a e (inner u ts) = inner (drop (length e) (f a)) (places f a ts 0)

  places : (Address → Address) → Address → Trees (Unit {0}) → ℕ → Placements
  places f a none i = none
  places f a (more t ts) i = more (place f (a ++ i ∷ []) (f a) t) (places f a ts (suc i))

abbrev IsGood : Arities → ℕ → Topology → Placement → Type 0
IsGood a k u p = IsPlaced p × SameShape u p × LiesWithin a k p

abbrev AreGood : Arities → ℕ → Trees (Unit {0}) → Placements → Type 0
AreGood a k ts ps = ArePlaced ps × SameShapes ts ps × LieWithin a k ps

module _ (t : Topology) (d : Arities) (h : ℕ) (f : Address → Address) (emb : IsEmbedding t (complete (down_from d h)) f) where
  inside : (a : Address) → IsAddressOf t a → IsWithin (down_from d h) (f a)
  inside a x = within_complete (down_from d h) (f a) (emb.inside a x)

  leaf_long : (a : Address) → LeadsToLeaf t a → length (f a) ≡ h
  leaf_long a l = (deep_leaf (down_from d h) (f a) (emb.leaves a l)).1 ∙ length-down_from d h

  -- a child's image extends its parent's
  goes_on : (a : Address) (i : ℕ) → IsAddressOf t a → IsAddressOf t (a ++ i ∷ []) → f (a ++ i ∷ []) ≡ f a ++ drop (length (f a)) (f (a ++ i ∷ []))
  goes_on a i x y =
      let p : IsPrefixOf (f a) (f (a ++ i ∷ [])) = (emb.prefixes a (a ++ i ∷ []) x y).0 (i ∷ [], after-append a (i ∷ [])) in
      let q : f (a ++ i ∷ []) ≡ f a ++ p.0 = after-is (f a) (f (a ++ i ∷ [])) p.0 p.1 in
      q ∙ ap (λ (z : Address). f a ++ z) (sym (ap (drop (length (f a))) q ∙ drop_at (f a) p.0 (length (f a)) refl))

  part_long : (a : Address) (i : ℕ) → IsAddressOf t a → IsAddressOf t (a ++ i ∷ []) → drop (length (f a)) (f (a ++ i ∷ [])) ≢ []
  part_long a i x y e =
      let q : f (a ++ i ∷ []) ≡ f a = goes_on a i x y ∙ ap (λ (z : Address). f a ++ z) e ∙ append-nil (f a) in
      let r : IsPrefixOf (f (a ++ i ∷ [])) (f a) = ([], subst (λ (z : Address). after z (f a) ≡ Some []) (sym q) (ap (after (f a)) (sym (append-nil (f a))) ∙ after-append (f a) [])) in
      not_below_parent a i ((emb.prefixes (a ++ i ∷ []) a y x).1 r)

  parts_apart : (a : Address) (i j : ℕ) → i ≢ j → IsAddressOf t a → IsAddressOf t (a ++ i ∷ []) → IsAddressOf t (a ++ j ∷ [])
      → after (drop (length (f a)) (f (a ++ i ∷ []))) (drop (length (f a)) (f (a ++ j ∷ []))) ≡ None
  parts_apart a i j n x y z = none_unless _ (λ c p.
      let q : after (f (a ++ i ∷ [])) (f (a ++ j ∷ [])) ≡ Some c
      = ap (λ (w : Address). after w (f (a ++ j ∷ []))) (goes_on a i x y) ∙ ap (after (f a ++ drop (length (f a)) (f (a ++ i ∷ [])))) (goes_on a j x z)
      ∙ after-sum (f a) (drop (length (f a)) (f (a ++ i ∷ []))) (drop (length (f a)) (f (a ++ j ∷ []))) ∙ p in
      n (same_child a i j ((emb.prefixes (a ++ i ∷ []) (a ++ j ∷ []) y z).1 (c, q))))

  root-place : (a e : Address) (u : Topology) → root_of (place f a e u) ≡ drop (length e) (f a)
  root-place a e (leaf u) = refl
  root-place a e (inner u ts) = refl

  -- the children of the node at a, from index k on
  abbrev AreChildren : Address → Trees (Unit {0}) → ℕ → Type 0
  AreChildren a ts k = (j : ℕ) (z : Topology) → subtree_in ts j [] ≡ Some z → subtree t (a ++ (j + k) ∷ []) ≡ Some z

  first_child : (a : Address) (u : Topology) (ts : Trees (Unit {0})) (k : ℕ) → AreChildren a (more u ts) k → subtree t (a ++ k ∷ []) ≡ Some u
  first_child a u ts k c = let n : 0 + k ≡ k = omega arith in subst (λ (m : ℕ). subtree t (a ++ m ∷ []) ≡ Some u) n (c 0 u (subtree-root u))

  later_children : (a : Address) (u : Topology) (ts : Trees (Unit {0})) (k : ℕ) → AreChildren a (more u ts) k → AreChildren a ts (suc k)
  later_children a u ts k c j z m = let n : suc j + k ≡ j + suc k = omega arith in subst (λ (w : ℕ). subtree t (a ++ w ∷ []) ≡ Some z) n (c (suc j) z m)

  apart_from_later : (a : Address) (i k : ℕ) (ts : Trees (Unit {0})) → i < k → IsAddressOf t a → IsAddressOf t (a ++ i ∷ []) → AreChildren a ts k
      → IsApartFrom (drop (length (f a)) (f (a ++ i ∷ []))) (places f a ts k)
  apart_from_later a i k none l x y c = tt
  apart_from_later a i k (more u ts) l x y c =
      let z : IsAddressOf t (a ++ k ∷ []) = (u, first_child a u ts k c) in
      let e : root_of (place f (a ++ k ∷ []) (f a) u) ≡ drop (length (f a)) (f (a ++ k ∷ [])) = root-place (a ++ k ∷ []) (f a) u in
      rw e (parts_apart a i k (omega arith) x y z, parts_apart a k i (omega arith) x z y, apart_from_later a i (suc k) ts (omega arith) x y (later_children a u ts k c))

  mutual
    place-good : (u : Topology) (a e : Address) → subtree t a ≡ Some u → IsGood d (h - length (f a)) u (place f a e u)
    place-good (leaf v) a e m = (tt, tt, omega (arith, leaf_long a (leads_to t a v m)))
    place-good (inner v ts) a e m = places-good ts a 0 (inner v ts, m) (λ j z n. let w : j + 0 ≡ j = omega arith in subst (λ (i : ℕ). subtree t (a ++ i ∷ []) ≡ Some z) (sym w) (subtree-then t a v ts j z m n))

    places-good : (ts : Trees (Unit {0})) (a : Address) (k : ℕ) → IsAddressOf t a → AreChildren a ts k → AreGood d (h - length (f a)) ts (places f a ts k)
    places-good none a k x c = (tt, tt, tt)
    places-good (more u ts) a k x c =
        let y : IsAddressOf t (a ++ k ∷ []) = (u, first_child a u ts k c) in
        let e : root_of (place f (a ++ k ∷ []) (f a) u) ≡ drop (length (f a)) (f (a ++ k ∷ [])) = root-place (a ++ k ∷ []) (f a) u in
        let g : IsGood d (h - length (f (a ++ k ∷ []))) u (place f (a ++ k ∷ []) (f a) u) = place-good u (a ++ k ∷ []) (f a) y.1 in
        let r : AreGood d (h - length (f a)) ts (places f a ts (suc k)) = places-good ts a (suc k) x (later_children a u ts k c) in
        let n : length (f (a ++ k ∷ [])) ≡ length (f a) + length (drop (length (f a)) (f (a ++ k ∷ []))) = ap length (goes_on a k x y) ∙ length-append (f a) (drop (length (f a)) (f (a ++ k ∷ []))) in
        let z : IsWithin (down_from d h) (f (a ++ k ∷ [])) = inside (a ++ k ∷ []) y in
        let o : length (f (a ++ k ∷ [])) ≤ h = address-short d h (f (a ++ k ∷ [])) z in
        let p : h - length (f (a ++ k ∷ [])) ≡ (h - length (f a)) - length (drop (length (f a)) (f (a ++ k ∷ []))) = omega (arith, n, o) in
        let w : IsWithin (down_from d (h - length (f a))) (drop (length (f a)) (f (a ++ k ∷ []))) = address-after d h (f a) _ (subst (IsWithin (down_from d h)) (goes_on a k x y) z) in (
          rw e (part_long a k x y, apart_from_later a k (suc k) ts (omega arith) x y (later_children a u ts k c), g.0, r.0),
          (g.1, r.1),
          rw e (w, subst (λ (s : ℕ). LiesWithin d s (place f (a ++ k ∷ []) (f a) u)) p g.2, r.2),
        )

  -- no complete tree lower than the need has an embedding
  pub embedding-need : (n : ℕ) → ArePositive d → IsNeed d t n → n ≤ h
  embedding-need n o m =
      let g : IsGood d (h - length (f [])) t (place f [] [] t) = place-good t [] [] (subtree-root t) in
      let l : root_of m.all ≤ h - length (f []) = need_least d m.all (place f [] [] t) (h - length (f [])) o m.needs.needs (same_shape m.all (place f [] [] t) (sym (topology_of-same t m.all m.needs.shape) ∙ topology_of-same t (place f [] [] t) g.1)) g.0 g.2 in
      omega (arith, l, m.root)

  -- a single leaf embeds only in the complete tree of height 0
  pub embedding-height : (m : Tree ℕ) → ArePositive d → AreNeedsOf d t m → HasHeight h m
  embedding-height (leaf n) o m = root_leaf t emb m.shape
    where
      root_leaf : (u : Topology) → IsEmbedding u (complete (down_from d h)) f → SameShape u (leaf n) → h ≡ 0
      root_leaf (leaf v) e s = let l : length (f []) ≡ h = (deep_leaf (down_from d h) (f []) (e.leaves [] tt)).1 ∙ length-down_from d h in let k : length (f []) ≡ 0 = ap length e.root in omega (arith, l, k)
      root_leaf (inner v ts) e s = absurd s
  embedding-height (inner n ts) o m = embedding-need n o (record { all = inner n ts; needs = m; root = refl })
