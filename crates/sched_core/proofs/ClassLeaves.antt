-- The classes of a policy and their leaves.
use Rattle.sched_core.proofs.Prelude.{arith, ◌≡◌, ap, ℕ, length, Some, [], refl, ◌∷◌, Option, None, ◌+◌, ◌≤◌, suc, zero, Node, Tree, Address, LeadsToLeaf, inner, leaf, subtree, Trees, more, none, depth, subtree_in, LeadsBelow, depth_below, part_at, arity}
use Rattle.sched_core.proofs.TreeParts.{part-known}

record EndsAtLeaf {Q : Type 0} (part : Option (Tree Q)) : Type 0 where
  here : Q
  is : part ≡ Some (leaf here)

mutual
  leaf-there : {Q : Type 0} (t : Tree Q) (a : Address) → LeadsToLeaf t a → EndsAtLeaf (subtree t a)
  leaf-there (leaf q) [] l = record { here = q; is = refl }
  leaf-there (leaf q) (i ∷ a) l = absurd l
  leaf-there (inner q ts) [] l = absurd l
  leaf-there (inner q ts) (i ∷ a) l = leaf-there_below ts i a l

  leaf-there_below : {Q : Type 0} (ts : Trees Q) (i : ℕ) (a : Address) → LeadsBelow ts i a → EndsAtLeaf (subtree_in ts i a)
  leaf-there_below none i a l = absurd l
  leaf-there_below (more t ts) zero a l = leaf-there t a l
  leaf-there_below (more t ts) (suc i) a l = leaf-there_below ts i a l

pub leaf-arity : (tree : Tree Node) (a : Address) → LeadsToLeaf tree a → arity (part_at tree a) ≡ None
leaf-arity tree a l = let e : EndsAtLeaf (subtree tree a) = leaf-there tree a l in ap (λ (t : Tree Node). arity t) (part-known tree a _ e.is)

mutual
  pub leaf-depth : {Q : Type 0} (t : Tree Q) (a : Address) → LeadsToLeaf t a → length a ≤ depth t
  leaf-depth (leaf q) [] l = omega arith
  leaf-depth (leaf q) (i ∷ a) l = absurd l
  leaf-depth (inner q ts) [] l = absurd l
  leaf-depth (inner q ts) (i ∷ a) l = omega (arith, leaf-depth_below ts i a l)

  leaf-depth_below : {Q : Type 0} (ts : Trees Q) (i : ℕ) (a : Address) → LeadsBelow ts i a → length a + 1 ≤ depth_below ts
  leaf-depth_below none i a l = absurd l
  leaf-depth_below (more t ts) zero a l = omega (arith, leaf-depth t a l)
  leaf-depth_below (more t ts) (suc i) a l = omega (arith, leaf-depth_below ts i a l)
