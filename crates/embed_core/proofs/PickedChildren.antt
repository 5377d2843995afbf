-- The child below which a leaf is, found by its image.
use Rattle.embed_core.proofs.Prelude.{◌≡◌, length, arith, sym, ◌∙◌, ap, List, ◌+◌, subst, ℕ, ◌<◌, [], refl, ◌≤◌, get_or, ◌∷◌, ◌++◌, suc, zero, take, append-nil, append_assoc, None, Option, length-append, get_or_default, take_at, option_map, unwrap_or, IsDeep, AreNested, IsNested, image_map, picked_ranks, picked_ranks_below, branch, IsPrefixOf, after, trees_of, Address, Tree, root_of, nodes, inner, leaf, Trees, more, LeadsToLeaf, nodes_below, none, LeadsBelow, depth, depth_below, subtree_in, AreApart, IsOnSide, child_image, EachChild, GoesBeside}
use Rattle.tree_defs.proofs.TopologyLaws.{after-append, after-is}
use Rattle.tree_core.specs.Paths.{Way}
use Rattle.embed_defs.specs.Placed.{IsApartFrom}
use Rattle.embed_defs.proofs.Addresses.{one_prefix}
use Rattle.embed_core.specs.Picks.{LeadsToImage, IsLeafImage, PicksOnto}
use Rattle.embed_core.proofs.MapSteps.{child-at}
use Rattle.embed_core.proofs.LiftSteps.{IsDeeper, leads-index, leads-child, deep-child}

prefix-append : (e c : Address) → IsPrefixOf e (e ++ c)
prefix-append e c = (c, after-append e c)

prefix-self : (e : Address) → IsPrefixOf e e
prefix-self e = subst (IsPrefixOf e) (append-nil e) (prefix-append e [])

prefix-trans : (e g f : Address) → IsPrefixOf e g → IsPrefixOf g f → IsPrefixOf e f
prefix-trans e g f p q =
    let a : g ≡ e ++ p.0 = after-is e g p.0 p.1 in
    let b : f ≡ g ++ q.0 = after-is g f q.0 q.1 in
    subst (IsPrefixOf e) (sym (b ∙ ap (λ (z : Address). z ++ q.0) a ∙ append_assoc e p.0 q.0)) (prefix-append e (p.0 ++ q.0))

-- the images of the nodes on the path to a leaf are prefixes of the leaf's image
mutual
  image-begins : (m : Tree Address) (b : Address) → IsNested m → LeadsToLeaf m b → IsPrefixOf (root_of m) (image_map m b)
  image-begins (leaf e) [] w l = prefix-self e
  image-begins (leaf e) (i ∷ b) w l = absurd l
  image-begins (inner e ts) [] w l = absurd l
  image-begins (inner e ts) (i ∷ b) w l = image-begins_in e ts i b w l

  image-begins_in : (e : Address) (ts : Trees Address) (i : ℕ) (b : Address) → AreNested e ts → LeadsBelow ts i b → IsPrefixOf e (unwrap_or (option_map root_of (subtree_in ts i b)) [])
  image-begins_in e none i b w l = absurd l
  image-begins_in e (more t ts) zero b w l = prefix-trans e (root_of t) (image_map t b) w.0 (image-begins t b w.2 l)
  image-begins_in e (more t ts) (suc i) b w l = image-begins_in e ts i b w.3 l

take-prefix : (e f : Address) → IsPrefixOf e f → take (length e) f ≡ e
take-prefix e f p = ap (take (length e)) (after-is e f p.0 p.1) ∙ take_at e p.0 (length e) refl

nested-begins : (e : Address) (ks : List (Tree Address)) (i : ℕ) (k : Tree Address) → AreNested e (trees_of ks) → i < length ks → k ≡ get_or ks i k → IsPrefixOf e (root_of k)
nested-begins e [] i k w l f = absurd (omega arith)
nested-begins e (j ∷ ks) zero k w l f = subst (λ (z : Tree Address). IsPrefixOf e (root_of z)) (sym f) w.0
nested-begins e (j ∷ ks) (suc i) k w l f = nested-begins e ks i k w.3 (omega arith) f

apart-at : (e : Address) (ks : List (Tree Address)) (i : ℕ) (k : Tree Address) → IsApartFrom e (trees_of ks) → i < length ks → k ≡ get_or ks i k → (after e (root_of k) ≡ None) × (after (root_of k) e ≡ None)
apart-at e [] i k h l f = absurd (omega arith)
apart-at e (j ∷ ks) zero k h l f = subst (λ (z : Tree Address). (after e (root_of z) ≡ None) × (after (root_of z) e ≡ None)) (sym f) (h.0, h.1)
apart-at e (j ∷ ks) (suc i) k h l f = apart-at e ks i k h.2 (omega arith) f

only-child : (e : Address) (ks : List (Tree Address)) (i j : ℕ) (k m : Tree Address) (f : Address) → AreNested e (trees_of ks) → i < length ks → j < length ks → k ≡ get_or ks i k → m ≡ get_or ks j m → IsPrefixOf (root_of k) f → IsPrefixOf (root_of m) f → i ≡ j
only-child e [] i j k m f w l n p q x y = absurd (omega arith)
only-child e (u ∷ ks) zero zero k m f w l n p q x y = refl
only-child e (u ∷ ks) zero (suc j) k m f w l n p q x y =
    let r : (after (root_of u) (root_of m) ≡ None) × (after (root_of m) (root_of u) ≡ None) = apart-at (root_of u) ks j m w.1 (omega arith) q in
    let z : IsPrefixOf (root_of u) f = subst (λ (v : Tree Address). IsPrefixOf (root_of v) f) p x in
    absurd (one_prefix (root_of u) (root_of m) f z.0 y.0 z.1 y.1 r.0 r.1)
only-child e (u ∷ ks) (suc i) zero k m f w l n p q x y =
    let r : (after (root_of u) (root_of k) ≡ None) × (after (root_of k) (root_of u) ≡ None) = apart-at (root_of u) ks i k w.1 (omega arith) p in
    let z : IsPrefixOf (root_of u) f = subst (λ (v : Tree Address). IsPrefixOf (root_of v) f) q y in
    absurd (one_prefix (root_of u) (root_of k) f z.0 x.0 z.1 x.1 r.0 r.1)
only-child e (u ∷ ks) (suc i) (suc j) k m f w l n p q x y = ap suc (only-child e ks i j k m f w.3 (omega arith) (omega arith) p q x y)

nested-child : (e : Address) (ks : List (Tree Address)) (i : ℕ) (k : Tree Address) → AreNested e (trees_of ks) → i < length ks → k ≡ get_or ks i k → IsNested k
nested-child e [] i k w l f = absurd (omega arith)
nested-child e (j ∷ ks) zero k w l f = subst IsNested (sym f) w.2
nested-child e (j ∷ ks) (suc i) k w l f = nested-child e ks i k w.3 (omega arith) f

sizes-child : (ks : List (Tree Address)) (i : ℕ) (k : Tree Address) → i < length ks → k ≡ get_or ks i k → (nodes k ≤ nodes_below (trees_of ks)) × (depth k + 1 ≤ depth_below (trees_of ks))
sizes-child [] i k l f = absurd (omega arith)
sizes-child (j ∷ ks) zero k l f = let a : nodes k ≡ nodes j = ap nodes f in let b : depth k ≡ depth j = ap depth f in (omega (arith, a), omega (arith, b))
sizes-child (j ∷ ks) (suc i) k l f =
    let r : (nodes k ≤ nodes_below (trees_of ks)) × (depth k + 1 ≤ depth_below (trees_of ks)) = sizes-child ks i k (omega arith) f in
    (omega (arith, r.0), omega (arith, r.1))

leads-below : (ks : List (Tree Address)) (i : ℕ) (k : Tree Address) (path : Address) → i < length ks → k ≡ get_or ks i k → LeadsToLeaf k path → LeadsBelow (trees_of ks) i path
leads-below [] i k path l f g = absurd (omega arith)
leads-below (j ∷ ks) zero k path l f g = subst (λ (z : Tree Address). LeadsToLeaf z path) f g
leads-below (j ∷ ks) (suc i) k path l f g = leads-below ks i k path (omega arith) f g

picked-child : (ks : List (Tree Address)) (i : ℕ) (k : Tree Address) (path ranks : List ℕ) → i < length ks → k ≡ get_or ks i k → picked_ranks_below (trees_of ks) i path ranks ≡ picked_ranks k path ranks
picked-child [] i k path ranks l f = absurd (omega arith)
picked-child (j ∷ ks) zero k path ranks l f = ap (λ (z : Tree Address). picked_ranks z path ranks) (sym f)
picked-child (j ∷ ks) (suc i) k path ranks l f = picked-child ks i k path ranks (omega arith) f

image-child : (ks : List (Tree Address)) (i : ℕ) (k : Tree Address) (path : Address) → i < length ks → k ≡ get_or ks i k → unwrap_or (option_map root_of (subtree_in (trees_of ks) i path)) [] ≡ image_map k path
image-child ks i k path l f = ap (λ (o : Option (Tree Address)). unwrap_or (option_map root_of o) []) (child-at ks i k path l f)

same_get : (xs : List (Tree Address)) (j : ℕ) (k : Tree Address) → j < length xs → get_or xs j k ≡ get_or xs j (get_or xs j k)
same_get [] j k l = absurd (omega arith)
same_get (x ∷ xs) zero k l = refl
same_get (x ∷ xs) (suc j) k l = same_get xs j k (omega arith)

-- the facts about the child whose image is a prefix of a leaf's
pub record IsFound (m : Tree Address) (image : Address) (ranks : List ℕ) (i : ℕ) (k : Tree Address) : Type 0 where
  pub nested : IsNested k
  pub deep : IsDeep (length image) k
  pub leaf_below : IsLeafImage k image
  pub fewer : nodes k < nodes m
  pub lower : depth k + 1 ≤ depth m
  pub picks : (before here later : Way) → here.digits ≡ before.digits ++ i ∷ [] → here.ranks ≡ before.ranks ++ get_or ranks (length (root_of m)) 0 ∷ [] → here.room ≡ before.room → PicksOnto k image ranks here later → PicksOnto m image ranks before later

found-at : (e : Address) (ks : List (Tree Address)) (image : Address) (ranks : List ℕ) (i : ℕ) (k : Tree Address) → i < length ks → k ≡ get_or ks i k → IsNested (branch e (trees_of ks)) → IsDeep (length image) (branch e (trees_of ks))
    → IsLeafImage (branch e (trees_of ks)) image → IsPrefixOf (root_of k) image → IsFound (branch e (trees_of ks)) image ranks i k
found-at e [] image ranks i k l f w m h x = absurd (omega arith)
found-at e (u ∷ ks) image ranks i k l f w m h x =
    let s : (nodes k ≤ nodes_below (trees_of (u ∷ ks))) × (depth k + 1 ≤ depth_below (trees_of (u ∷ ks))) = sizes-child (u ∷ ks) i k l f in
    let c : IsDeeper (length image) e k = deep-child (length image) e (u ∷ ks) i k m l f in
    record {
      nested = nested-child e (u ∷ ks) i k w l f;
      deep = c.deep;
      leaf_below = under h.0 h.1;
      fewer = omega (arith, s.0);
      lower = omega (arith, s.1);
      picks = λ before here later p q r t. record {
        path = i ∷ t.path;
        leads = record { leaf = leads-below (u ∷ ks) i k t.path l f t.leads.leaf; image_is = image-child (u ∷ ks) i k t.path l f ∙ t.leads.image_is };
        digits = t.digits ∙ ap (λ (z : List ℕ). z ++ t.path) p ∙ append_assoc before.digits (i ∷ []) t.path;
        ranks_are = t.ranks_are ∙ ap (λ (z : List ℕ). z ++ picked_ranks k t.path ranks) q ∙ append_assoc before.ranks (get_or ranks (length e) 0 ∷ []) (picked_ranks k t.path ranks)
            ∙ ap (λ (z : List ℕ). before.ranks ++ get_or ranks (length e) 0 ∷ z) (sym (picked-child (u ∷ ks) i k t.path ranks l f));
        room = t.room ∙ r;
      };
    }
  where
    under : (path : Address) → LeadsToImage (inner e (trees_of (u ∷ ks))) image path → IsLeafImage k image
    under [] h = absurd h.leaf
    under (j ∷ path) h =
        let n : j < length (u ∷ ks) = leads-index (u ∷ ks) j path h.leaf in
        let v : Tree Address = get_or (u ∷ ks) j k in
        let g : v ≡ get_or (u ∷ ks) j v = same_get (u ∷ ks) j k n in
        let a : LeadsToLeaf v path = leads-child (u ∷ ks) j v path h.leaf g in
        let y : image_map v path ≡ image = sym (image-child (u ∷ ks) j v path n g) ∙ h.image_is in
        let b : IsPrefixOf (root_of v) image = subst (IsPrefixOf (root_of v)) y (image-begins v path (nested-child e (u ∷ ks) j v w n g) a) in
        let z : i ≡ j = only-child e (u ∷ ks) i j k v image w l n f g x b in
        let q : k ≡ v = f ∙ ap (λ (t : ℕ). get_or (u ∷ ks) t k) z in
        (path, record { leaf = subst (λ (t : Tree Address). LeadsToLeaf t path) (sym q) a; image_is = ap (λ (t : Tree Address). image_map t path) q ∙ y })

pub found : (e : Address) (ks : List (Tree Address)) (m : Tree Address) (image : Address) (ranks : List ℕ) (i : ℕ) (k : Tree Address) → branch e (trees_of ks) ≡ m → i < length ks → k ≡ get_or ks i k → IsNested m → IsDeep (length image) m
    → IsLeafImage m image → IsPrefixOf (root_of k) image → IsFound m image ranks i k
found e ks m image ranks i k p l f w q h x =
    subst (λ (z : Tree Address). IsFound z image ranks i k) p (found-at e ks image ranks i k l f (subst IsNested (sym p) w) (subst (IsDeep (length image)) (sym p) q) (subst (λ (z : Tree Address). IsLeafImage z image) (sym p) h) x)

-- at an inner node, one child's image is a prefix of the leaf's
pub some_side : (e : Address) (ks : List (Tree Address)) (m : Tree Address) (image : Address) → branch e (trees_of ks) ≡ m → 0 < length ks → IsNested m → IsLeafImage m image → (i : ℕ) × IsOnSide ks image i
some_side e [] m image p l w h = absurd (omega arith)
some_side e (u ∷ ks) m image p l w h = below h'.0 h'.1
  where
    w' : IsNested (inner e (trees_of (u ∷ ks)))
    w' = subst IsNested (sym p) w

    h' : IsLeafImage (inner e (trees_of (u ∷ ks))) image
    h' = subst (λ (z : Tree Address). IsLeafImage z image) (sym p) h

    below : (path : Address) → LeadsToImage (inner e (trees_of (u ∷ ks))) image path → (i : ℕ) × IsOnSide (u ∷ ks) image i
    below [] x = absurd x.leaf
    below (j ∷ path) x =
        let n : j < length (u ∷ ks) = leads-index (u ∷ ks) j path x.leaf in
        let v : Tree Address = get_or (u ∷ ks) j (leaf []) in
        let g : v ≡ get_or (u ∷ ks) j v = same_get (u ∷ ks) j (leaf []) n in
        let a : LeadsToLeaf v path = leads-child (u ∷ ks) j v path x.leaf g in
        let y : image_map v path ≡ image = sym (image-child (u ∷ ks) j v path n g) ∙ x.image_is in
        (j, record { below = n; begins = subst (IsPrefixOf (root_of v)) y (image-begins v path (nested-child e (u ∷ ks) j v w' n g) a) })

-- no child's image is a prefix of another's
pub apart : (e : Address) (ks : List (Tree Address)) (m : Tree Address) → branch e (trees_of ks) ≡ m → IsNested m → AreApart ks
apart e [] m p w i j l n x = absurd (omega arith)
apart e (u ∷ ks) m p w i j l n x =
    only-child e (u ∷ ks) i j (get_or (u ∷ ks) i (leaf [])) (get_or (u ∷ ks) j (leaf [])) (child_image (u ∷ ks) j) (subst IsNested (sym p) w) l n
    (same_get (u ∷ ks) i (leaf []) l) (same_get (u ∷ ks) j (leaf []) n) x (prefix-self (child_image (u ∷ ks) j))

-- the child at an index, and its image
pub side-begins : (ks : List (Tree Address)) (image : Address) (i : ℕ) (k : Tree Address) → k ≡ get_or ks i k → IsOnSide ks image i → IsPrefixOf (root_of k) image
side-begins ks image i k e s = subst (λ (z : Tree Address). IsPrefixOf (root_of z) image) (sym (e ∙ get_or_default ks i k (leaf []) s.below)) s.begins

-- down to the depth of their parent's image, the children's images have the digits of any leaf's
-- image below it
pub beside : (e : Address) (ks : List (Tree Address)) (m : Tree Address) (image : Address) (n : ℕ) → branch e (trees_of ks) ≡ m → n ≡ length (root_of m) → IsNested m → IsDeep (length image) m
    → IsLeafImage m image → EachChild ks (λ c. GoesBeside n c image)
beside e [] m image n p q w d h = λ i l. absurd (omega arith)
beside e (u ∷ ks) m image n p q w d h = λ i l.
    let v : Tree Address = get_or (u ∷ ks) i (leaf []) in
    let g : v ≡ get_or (u ∷ ks) i v = same_get (u ∷ ks) i (leaf []) l in
    let r : root_of m ≡ e = ap root_of (sym p) in
    let b : take n (root_of v) ≡ e = ap (λ (z : ℕ). take z (root_of v)) (q ∙ ap length r) ∙ take-prefix e (root_of v) (nested-begins e (u ∷ ks) i v (subst IsNested (sym p) w) l g) in
    let c : IsPrefixOf (root_of m) image = subst (IsPrefixOf (root_of m)) h.1.image_is (image-begins m h.0 w h.1.leaf) in
    let f : take n image ≡ e = ap (λ (z : ℕ). take z image) q ∙ take-prefix (root_of m) image c ∙ r in
    let s : IsDeeper (length image) e v = deep-child (length image) e (u ∷ ks) i v (subst (IsDeep (length image)) (sym p) d) l g in
    record { same = b ∙ sym f; short = s.short }

-- the root's image is no longer than a leaf's
pub root-short : (m : Tree Address) (image : Address) → IsNested m → IsLeafImage m image → length (root_of m) ≤ length image
root-short m image w h =
    let p : IsPrefixOf (root_of m) image = subst (IsPrefixOf (root_of m)) h.1.image_is (image-begins m h.0 w h.1.leaf) in
    let q : length image ≡ length (root_of m ++ p.0) = ap length (after-is (root_of m) image p.0 p.1) in
    omega (arith, q, length-append (root_of m) p.0)
