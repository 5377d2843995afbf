-- The subtrees of a tree, and those of a tree of the same shape.
use Rattle.std.proofs.Common.{◌≡◌, ℕ, zero, suc, [], ◌∷◌, ◌++◌, Some, refl, ap, ◌∙◌, subst}
use Rattle.tree_defs.specs.Tree.{Tree, leaf, inner, Trees, none, more, Address, SameShape, SameShapes, subtree, subtree_in}

pub subtree-root : {Q : Type 0} (u : Tree Q) → subtree u [] ≡ Some u
subtree-root (leaf q) = refl
subtree-root (inner q ts) = refl

mutual
  pub subtree-then : {Q : Type 0} (t : Tree Q) (a : Address) (q : Q) (ts : Trees Q) (i : ℕ) (z : Tree Q) → subtree t a ≡ Some (inner q ts) → subtree_in ts i [] ≡ Some z → subtree t (a ++ i ∷ []) ≡ Some z
  subtree-then (leaf f) [] q ts i z m n = cc
  subtree-then (leaf f) (j ∷ a) q ts i z m n = cc
  subtree-then (inner f us) [] q ts i z m n = let e : us ≡ ts = cc in ap (λ (w : Trees _). subtree_in w i []) e ∙ n
  subtree-then (inner f us) (j ∷ a) q ts i z m n = subtree_in-then us j a q ts i z m n

  subtree_in-then : {Q : Type 0} (us : Trees Q) (j : ℕ) (a : Address) (q : Q) (ts : Trees Q) (i : ℕ) (z : Tree Q) → subtree_in us j a ≡ Some (inner q ts) → subtree_in ts i [] ≡ Some z → subtree_in us j (a ++ i ∷ []) ≡ Some z
  subtree_in-then none j a q ts i z m n = cc
  subtree_in-then (more u us) zero a q ts i z m n = subtree-then u a q ts i z m n
  subtree_in-then (more u us) (suc j) a q ts i z m n = subtree_in-then us j a q ts i z m n

-- a tree of the same shape has the same addresses
mutual
  pub same_address : {Q R : Type 0} (t : Tree Q) (p : Tree R) (a : Address) (u : Tree Q) → SameShape t p → subtree t a ≡ Some u → (v : Tree R) × (subtree p a ≡ Some v) × SameShape u v
  same_address (leaf q) (leaf e) [] u s m = let n : leaf q ≡ u = cc in subst (λ (z : Tree _). (v : Tree _) × (Some (leaf e) ≡ Some v) × SameShape z v) n (leaf e, refl, tt)
  same_address (leaf q) p (i ∷ a) u s m = cc
  same_address (leaf q) (inner e ps) [] u s m = absurd s
  same_address (inner q ts) (leaf e) a u s m = absurd s
  same_address (inner q ts) (inner e ps) [] u s m = let n : inner q ts ≡ u = cc in subst (λ (z : Tree _). (v : Tree _) × (Some (inner e ps) ≡ Some v) × SameShape z v) n (inner e ps, refl, s)
  same_address (inner q ts) (inner e ps) (i ∷ a) u s m = same_address_in ts ps i a u s m

  same_address_in : {Q R : Type 0} (ts : Trees Q) (ps : Trees R) (i : ℕ) (a : Address) (u : Tree Q) → SameShapes ts ps → subtree_in ts i a ≡ Some u → (v : Tree R) × (subtree_in ps i a ≡ Some v) × SameShape u v
  same_address_in none ps i a u s m = cc
  same_address_in (more t ts) none i a u s m = absurd s
  same_address_in (more t ts) (more p ps) zero a u s m = same_address t p a u s.0 m
  same_address_in (more t ts) (more p ps) (suc i) a u s m = same_address_in ts ps i a u s.1 m
