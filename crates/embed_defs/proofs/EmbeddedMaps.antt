-- The images of an embedding are a good map.
use Rattle.embed_defs.proofs.Prelude.{[], ℕ, ◌≡◌, refl, ◌∷◌, ap, ◌∙◌, arith, suc, sym, length, List, ◌≤◌, Some, ◌++◌, ◌+◌, None, ◌<◌, subst, append-nil, length-append, topology_of-same, LeadsToLeaf-topology, after-append, after-is, deep_leaf, leads_to, within_complete, after, Topology, IsWithin, IsPrefixOf, complete, inner, leaf, more, none, Tree, Trees, root_of, SameShape, subtree_in, subtree, IsAddressOf, LeadsToLeaf, IsEmbedding, AreDeep, IsDeep, AreNested, IsNested, image_map, EmbeddingsAreGoodMaps, IsApartFrom}
use Rattle.tree_defs.specs.Tree.{Address}
use Rattle.embed_defs.proofs.Addresses.{after-sum, none_unless}
use Rattle.embed_defs.proofs.Subtrees.{subtree-root, subtree-then, same_address}
use Rattle.embed_defs.proofs.ImageLifts.{other_shape}

-- a list within the arities is at most as long as they are
within-short : (arities : List ℕ) (a : Address) → IsWithin arities a → length a ≤ length arities
within-short arities [] w = omega arith
within-short [] (x ∷ a) w = absurd w
within-short (d ∷ arities) (x ∷ a) w = omega (arith, within-short arities a w.1)

prefix-short : (a b : Address) → IsPrefixOf a b → length a ≤ length b
prefix-short a b p = omega (arith, ap length (after-is a b p.0 p.1), length-append a p.0)

-- a list is longer than its proper prefix
longer : (a b : Address) → IsPrefixOf a b → (IsPrefixOf b a → ⊥) → length a < length b
longer a b ([], p) n =
    let e : b ≡ a = cc (after-is a b [] p, append-nil a) in
    absurd (n (subst (λ (z : Address). IsPrefixOf z a) (sym e) ([], subst (λ (z : Address). after a z ≡ Some []) (append-nil a) (after-append a []))))
longer a b (x ∷ c, p) n = omega (arith, ap length (after-is a b (x ∷ c) p), length-append a (x ∷ c))

not_below_parent : (a : Address) (i : ℕ) → IsPrefixOf (a ++ i ∷ []) a → ⊥
not_below_parent a i p = omega (arith, prefix-short (a ++ i ∷ []) a p, length-append a (i ∷ []))

-- no sibling's address is a prefix of another's
same_child : (a : Address) (i j : ℕ) → IsPrefixOf (a ++ i ∷ []) (a ++ j ∷ []) → i ≡ j
same_child a i j p =
    let q : after (i ∷ []) (j ∷ []) ≡ Some p.0 = sym (after-sum a (i ∷ []) (j ∷ [])) ∙ p.1 in
    let r : j ∷ [] ≡ (i ∷ []) ++ p.0 = after-is (i ∷ []) (j ∷ []) p.0 q in
    cc

module _ (arities : List ℕ) (t : Topology) (images : Tree Address) (s : SameShape t images) (emb : IsEmbedding t (complete arities) (image_map images)) where
  address : (a : Address) (m : Tree Address) → subtree images a ≡ Some m → IsAddressOf t a
  address a m p = let w : (v : Topology) × (subtree t a ≡ Some v) × SameShape m v = same_address images t a m (other_shape t images s) p in (w.0, w.1)

  image : (a : Address) (m : Tree Address) → subtree images a ≡ Some m → image_map images a ≡ root_of m
  image a m p = rw p refl

  short : (a : Address) (m : Tree Address) → subtree images a ≡ Some m → length (root_of m) ≤ length arities
  short a m p = within-short arities (root_of m) (subst (IsWithin arities) (image a m p) (within_complete arities (image_map images a) (emb.inside a (address a m p))))

  leaf_long : (a : Address) (e : Address) → subtree images a ≡ Some (leaf e) → length e ≡ length arities
  leaf_long a e p =
      let l : LeadsToLeaf t a = rw (LeadsToLeaf-topology t a, topology_of-same t images s, ← (LeadsToLeaf-topology images a)) (leads_to images a e p) in
      sym (ap length (image a (leaf e) p)) ∙ (deep_leaf arities (image_map images a) (emb.leaves a l)).1

  -- images are prefixes of one another if their addresses are
  prefix-to : (a b : Address) (m u : Tree Address) → subtree images a ≡ Some m → subtree images b ≡ Some u → IsPrefixOf a b → IsPrefixOf (root_of m) (root_of u)
  prefix-to a b m u p q x = rw (sym (image a m p), sym (image b u q)) ((emb.prefixes a b (address a m p) (address b u q)).0 x)

  prefix-from : (a b : Address) (m u : Tree Address) → subtree images a ≡ Some m → subtree images b ≡ Some u → IsPrefixOf (root_of m) (root_of u) → IsPrefixOf a b
  prefix-from a b m u p q x = (emb.prefixes a b (address a m p) (address b u q)).1 (rw (image a m p, image b u q) x)

  sibling_apart : (a : Address) (i j : ℕ) (m u : Tree Address) → (i ≡ j → ⊥) → subtree images (a ++ i ∷ []) ≡ Some m → subtree images (a ++ j ∷ []) ≡ Some u → after (root_of m) (root_of u) ≡ None
  sibling_apart a i j m u n p q = none_unless (after (root_of m) (root_of u)) (λ c x. n (same_child a i j (prefix-from (a ++ i ∷ []) (a ++ j ∷ []) m u p q (c, x))))

  -- the children of the node at a, from index k on
  abbrev AreChildren : Address → Trees Address → ℕ → Type 0
  AreChildren a ts k = (j : ℕ) (z : Tree Address) → subtree_in ts j [] ≡ Some z → subtree images (a ++ (j + k) ∷ []) ≡ Some z

  first_child : (a : Address) (u : Tree Address) (ts : Trees Address) (k : ℕ) → AreChildren a (more u ts) k → subtree images (a ++ k ∷ []) ≡ Some u
  first_child a u ts k c = let n : 0 + k ≡ k = omega arith in subst (λ (m : ℕ). subtree images (a ++ m ∷ []) ≡ Some u) n (c 0 u (subtree-root u))

  later_children : (a : Address) (u : Tree Address) (ts : Trees Address) (k : ℕ) → AreChildren a (more u ts) k → AreChildren a ts (suc k)
  later_children a u ts k c j z m = let n : suc j + k ≡ j + suc k = omega arith in subst (λ (w : ℕ). subtree images (a ++ w ∷ []) ≡ Some z) n (c (suc j) z m)

  apart_from_later : (a : Address) (i k : ℕ) (m : Tree Address) (ts : Trees Address) → i < k → subtree images (a ++ i ∷ []) ≡ Some m → AreChildren a ts k → IsApartFrom (root_of m) ts
  apart_from_later a i k m none l p c = tt
  apart_from_later a i k m (more u ts) l p c =
      let q : subtree images (a ++ k ∷ []) ≡ Some u = first_child a u ts k c in
      (sibling_apart a i k m u (λ e. omega arith) p q, sibling_apart a k i u m (λ e. omega arith) q p, apart_from_later a i (suc k) m ts (omega arith) p (later_children a u ts k c))

  mutual
    good-at : (m : Tree Address) (a : Address) → subtree images a ≡ Some m → IsDeep (length arities) m × IsNested m
    good-at (leaf e) a p = (leaf_long a e p, tt)
    good-at (inner e ts) a p =
        good-below ts a 0 (inner e ts) p (λ j z n. let w : j + 0 ≡ j = omega arith in subst (λ (i : ℕ). subtree images (a ++ i ∷ []) ≡ Some z) (sym w) (subtree-then images a e ts j z p n))

    good-below : (ts : Trees Address) (a : Address) (k : ℕ) (m : Tree Address) → subtree images a ≡ Some m → AreChildren a ts k → AreDeep (length arities) (root_of m) ts × AreNested (root_of m) ts
    good-below none a k m p c = (tt, tt)
    good-below (more u ts) a k m p c =
        let q : subtree images (a ++ k ∷ []) ≡ Some u = first_child a u ts k c in
        let x : IsPrefixOf (root_of m) (root_of u) = prefix-to a (a ++ k ∷ []) m u p q (k ∷ [], after-append a (k ∷ [])) in
        let g : IsDeep (length arities) u × IsNested u = good-at u (a ++ k ∷ []) q in
        let r : AreDeep (length arities) (root_of m) ts × AreNested (root_of m) ts = good-below ts a (suc k) m p (later_children a u ts k c) in
        let l : length (root_of m) < length (root_of u) = longer (root_of m) (root_of u) x (λ y. not_below_parent a k (prefix-from (a ++ k ∷ []) a u m q p y)) in (
          (l, short (a ++ k ∷ []) u q, g.0, r.0),
          (x, apart_from_later a k (suc k) u ts (omega arith) q (later_children a u ts k c), g.1, r.1),
        )

pub embeddings_are_good_maps : EmbeddingsAreGoodMaps
embeddings_are_good_maps arities t images s emb =
    let r : subtree images [] ≡ Some images = subtree-root images in
    let g : IsDeep (length arities) images × IsNested images = good-at arities t images s emb images [] r in
    record { root = sym (image arities t images s emb [] images r) ∙ emb.root; deep = g.0; nested = g.1 }
