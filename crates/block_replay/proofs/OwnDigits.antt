-- Children of a node, and the digits of their images.
use Rattle.block_replay.proofs.Prelude.{refl, ◌≡◌, [], ℕ, ◌∙◌, arith, sym, ◌∷◌, Some, ap, subst, suc, zero, ◌≤◌, None, inl, inr, length, ◌++◌, ◌+◌, ◌<◌, append-nil, ◌≢◌, length-append, cases_order, slice_index, subtree-root, same_address, subtree-then, image_map, image_at, address-down, address-up, Node, after-append, after-is, topology_of, IsPrefixOf, Address, Tree, Trees, inner, leaf, none, more, root_of, IsAddressOf, subtree, subtree_in, child, HaveOwnDigits, IsMapOf, HasOwnDigit, DifferBehind}
use Rattle.tree_defs.specs.Topology.{after}
use Rattle.embed_defs.proofs.ImageLifts.{other_shape}
use Rattle.block_replay.specs.Calm.{digit_at}

-- ---- children
pub child_part : {Q : Type 0} (ts : Trees Q) (i : ℕ) (t : Tree Q) → child ts i ≡ Some t → subtree_in ts i [] ≡ Some t
child_part none i t p = cc
child_part (more u us) zero t p = subtree-root u ∙ p
child_part (more u us) (suc i) t p = child_part us i t p

part_child : {Q : Type 0} (ts : Trees Q) (i : ℕ) (t : Tree Q) → subtree_in ts i [] ≡ Some t → child ts i ≡ Some t
part_child none i t p = cc
part_child (more u us) zero t p = sym (subtree-root u) ∙ p
part_child (more u us) (suc i) t p = part_child us i t p

earlier_child : {Q : Type 0} (ts : Trees Q) (i j : ℕ) (t : Tree Q) → child ts i ≡ Some t → j < i → (u : Tree Q) × (child ts j ≡ Some u)
earlier_child none i j t p l = (let no : None ≡ Some t = p in cc)
earlier_child (more u us) zero j t p l = absurd (omega (arith, l))
earlier_child (more u us) (suc i) zero t p l = (u, refl)
earlier_child (more u us) (suc i) (suc j) t p l = earlier_child us i j t p (omega (arith, l))

-- the node at an address is an inner node, and this is one of its children
pub record IsChildOf {Q : Type 0} (t : Tree Q) (a : Address) (i : ℕ) (u : Tree Q) : Type 0 where
  pub node : Q
  pub children : Trees Q
  pub parent : subtree t a ≡ Some (inner node children)
  pub child_is : child children i ≡ Some u

mutual
  pub parent_of : {Q : Type 0} (t : Tree Q) (a : Address) (i : ℕ) (u : Tree Q) → subtree t (a ++ i ∷ []) ≡ Some u → IsChildOf t a i u
  parent_of (leaf q) [] i u p = (let no : None ≡ Some u = p in cc)
  parent_of (leaf q) (j ∷ a) i u p = (let no : None ≡ Some u = p in cc)
  parent_of (inner q ts) [] i u p = record { node = q; children = ts; parent = refl; child_is = part_child ts i u p }
  parent_of (inner q ts) (j ∷ a) i u p =
      let w = parent_below ts j a i u p in
      record { node = w.0; children = w.1; parent = w.2; child_is = w.3 }

  parent_below : {Q : Type 0} (ts : Trees Q) (j : ℕ) (a : Address) (i : ℕ) (u : Tree Q) → subtree_in ts j (a ++ i ∷ []) ≡ Some u
      → (q : Q) × (us : Trees Q) × (subtree_in ts j a ≡ Some (inner q us)) × (child us i ≡ Some u)
  parent_below none j a i u p = (let no : None ≡ Some u = p in cc)
  parent_below (more t ts) zero a i u p = (let w = parent_of t a i u p in (w.node, w.children, w.parent, w.child_is))
  parent_below (more t ts) (suc j) a i u p = parent_below ts j a i u p

-- if a child exists, each earlier one does
pub earlier_address : {Q : Type 0} (t : Tree Q) (a : Address) (i j : ℕ) → IsAddressOf t (a ++ i ∷ []) → j < i → IsAddressOf t (a ++ j ∷ [])
earlier_address t a i j there l =
    let w = parent_of t a i there.0 there.1 in
    let v = earlier_child w.children i j there.0 w.child_is l in
    (v.0, subtree-then t a w.node w.children j v.0 w.parent (child_part w.children j v.0 v.1))

pub parent_address : {Q : Type 0} (t : Tree Q) (a : Address) (i : ℕ) → IsAddressOf t (a ++ i ∷ []) → IsAddressOf t a
parent_address t a i there = (let w = parent_of t a i there.0 there.1 in (inner w.node w.children, w.parent))

-- ---- images
prefix-short : (a b : Address) → IsPrefixOf a b → length a ≤ length b
prefix-short a b p = omega (arith, ap length (after-is a b p.0 p.1), length-append a p.0)

longer : (a b : Address) → IsPrefixOf a b → (IsPrefixOf b a → ⊥) → length a < length b
longer a b ([], p) n =
    let e : b ≡ a = cc (after-is a b [] p, append-nil a) in
    absurd (n (subst (λ (z : Address). IsPrefixOf z a) (sym e) ([], subst (λ (z : Address). after a z ≡ Some []) (append-nil a) (after-append a []))))
longer a b (x ∷ c, p) n = omega (arith, ap length (after-is a b (x ∷ c) p), length-append a (x ∷ c))

not_below_parent : (a : Address) (i : ℕ) → IsPrefixOf (a ++ i ∷ []) a → ⊥
not_below_parent a i p = omega (arith, prefix-short (a ++ i ∷ []) a p, length-append a (i ∷ []))

module _ (tree : Tree Node) (images : Tree Address) (m : IsMapOf tree images) where
  pub in_images : (a : Address) → IsAddressOf tree a → IsAddressOf images a
  in_images a there =
      let w = address-down tree a there in
      let v = same_address (topology_of tree) images a w.0 m.shape w.1 in
      (v.0, v.1)

  pub in_tree : (a : Address) → IsAddressOf images a → IsAddressOf tree a
  in_tree a there =
      let v = same_address images (topology_of tree) a there.0 (other_shape (topology_of tree) images m.shape) there.1 in
      address-up tree a (v.0, v.1)

  -- the image of a node
  pub image_there : (a : Address) → IsAddressOf tree a → image_at images a ≡ Some (image_map images a)
  image_there a there = (let w = in_images a there in rw (w.1) refl)

  pub some_image : (a : Address) → IsAddressOf tree a → image_at images a ≡ None → ⊥
  some_image a there absent = (let e : None ≡ Some (image_map images a) = sym absent ∙ image_there a there in cc)

  -- a child's image is longer than its parent's
  pub longer_child : (a : Address) (i : ℕ) → IsAddressOf tree (a ++ i ∷ []) → length (image_map images a) < length (image_map images (a ++ i ∷ []))
  longer_child a i there =
      let below = address-down tree (a ++ i ∷ []) there in
      let above = address-down tree a (parent_address tree a i there) in
      let e = m.embedding.prefixes a (a ++ i ∷ []) above below in
      let f = m.embedding.prefixes (a ++ i ∷ []) a below above in
      longer (image_map images a) (image_map images (a ++ i ∷ [])) (e.0 (i ∷ [], after-append a (i ∷ []))) (λ p. not_below_parent a i (f.1 p))

-- ---- digits
-- each of the first n children has another digit than child i
abbrev pub DiffersBelow : Tree Address → Address → ℕ → ℕ → Type 0
DiffersBelow images a i n = (j : ℕ) → j < n → digit_at images a j ≢ digit_at images a i

pub none_differ : (images : Tree Address) (a : Address) (i : ℕ) → DiffersBelow images a i 0
none_differ images a i j l = absurd (omega (arith, l))

pub one_more_differs : (images : Tree Address) (a : Address) (i n : ℕ) → DiffersBelow images a i n → digit_at images a n ≢ digit_at images a i → DiffersBelow images a i (n + 1)
one_more_differs images a i n below here j l = elim (cases_order j n) [
  | inl e ↦ subst (λ (k : ℕ). digit_at images a k ≢ digit_at images a i) (sym e) here
  | inr (inl less) ↦ below j less
  | inr (inr later) ↦ absurd (omega (arith, l, later))
]

-- each of the first n children has a digit of its own
abbrev pub HaveOwnBelow : Tree Address → Address → ℕ → Type 0
HaveOwnBelow images a n = (i : ℕ) → i < n → HasOwnDigit images a i

pub none_own : (images : Tree Address) (a : Address) → HaveOwnBelow images a 0
none_own images a i l = absurd (omega (arith, l))

pub one_more_own : (images : Tree Address) (a : Address) (n : ℕ) → HaveOwnBelow images a n → HasOwnDigit images a n → HaveOwnBelow images a (n + 1)
one_more_own images a n below here i l = elim (cases_order i n) [
  | inl e ↦ subst (HasOwnDigit images a) (sym e) here
  | inr (inl less) ↦ below i less
  | inr (inr later) ↦ absurd (omega (arith, l, later))
]

-- the digit of a child, from its subtree
digit_of : (images : Tree Address) (a : Address) (e : Address) (ts : Trees Address) (i : ℕ) (t : Tree Address) → subtree images a ≡ Some (inner e ts) → child ts i ≡ Some t
    → digit_at images a i ≡ slice_index (root_of t) (length e)
digit_of images a e ts i t p q = rw (p, subtree-then images a e ts i t p (child_part ts i t q)) refl

pub own_differ : (images : Tree Address) (a : Address) (e : Address) (ts : Trees Address) → subtree images a ≡ Some (inner e ts) → HaveOwnDigits images a → DifferBehind (length e) ts
own_differ images a e ts p own i j t u s r same =
    let x = digit_of images a e ts i t p s in
    let y = digit_of images a e ts j u p r in
    elim (cases_order i j) [
      | inl k ↦ k
      | inr (inl l) ↦ absurd (own j (u, subtree-then images a e ts j u p (child_part ts j u r)) i l (x ∙ same ∙ sym y))
      | inr (inr l) ↦ absurd (own i (t, subtree-then images a e ts i t p (child_part ts i t s)) j l (y ∙ sym same ∙ sym x))
    ]

pub differ_own : (images : Tree Address) (a : Address) → ((e : Address) (ts : Trees Address) → subtree images a ≡ Some (inner e ts) → DifferBehind (length e) ts) → HaveOwnDigits images a
differ_own images a differ i there j l same =
    let w = parent_of images a i there.0 there.1 in
    let v = earlier_child w.children i j there.0 w.child_is l in
    let x = digit_of images a w.node w.children i there.0 w.parent w.child_is in
    let y = digit_of images a w.node w.children j v.0 w.parent v.1 in
    let e : j ≡ i = differ w.node w.children w.parent j i v.0 there.0 v.1 w.child_is (sym y ∙ same ∙ x) in
    omega (arith, l, e)
