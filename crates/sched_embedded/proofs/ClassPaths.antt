-- Lifted paths to the leaves of classes, one by one.
use Rattle.sched_embedded.proofs.Prelude.{sym, ℕ, ◌∙◌, ap, ◌≡◌, subst, List, arith, length, Some, [], suc, ◌∷◌, zero, map, ◌++◌, ◌<◌, get_or, length-map, get_or-map, AllByRecursion, slice_get, unwrap_or, AreLeafPaths, LiftedPath, Policy, Class, Node, no_marks, topology_of, Address, Tree, LeadsToLeaf, SameShape, leaf_of, HasLiftedPaths}
use Rattle.std.proofs.lemmas.Option.{unwrap_or-slice_get}
use Rattle.policy_defs.specs.Accepted.{IsAccepted, IsClassReady}
use Rattle.sched_embedded.proofs.MapShapes.{same_leaves, topology-same}

-- a property of each lifted path holds with one more lifted path
pub one_more : (P : ℕ → LiftedPath → Type 0) (lifted_paths : List LiftedPath) (lifted_path : LiftedPath) → ((n : ℕ) (x : LiftedPath) → slice_get lifted_paths n ≡ Some x → P n x) → P (length lifted_paths) lifted_path
    → (n : ℕ) (x : LiftedPath) → slice_get (lifted_paths ++ lifted_path ∷ []) n ≡ Some x → P n x
one_more P [] lifted_path each here zero x e = let q : lifted_path ≡ x = cc in subst (P 0) q here
one_more P [] lifted_path each here (suc n) x e = cc
one_more P (y ∷ lifted_paths) lifted_path each here zero x e = each 0 x e
one_more P (y ∷ lifted_paths) lifted_path each here (suc n) x e = one_more (λ m. P (suc m)) lifted_paths lifted_path (λ m. each (suc m)) here n x e

ready-at : (tree : Tree Node) (d : Class) (classes : List Class) (n : ℕ) → AllByRecursion (IsClassReady tree) classes → n < length classes → IsClassReady tree (unwrap_or (slice_get classes n) d)
ready-at tree d [] n all l = absurd (omega arith)
ready-at tree d (c ∷ classes) zero all l = all.0
ready-at tree d (c ∷ classes) (suc n) all l = ready-at tree d classes n all.1 (omega arith)

module _ {C : Type 0} (f : C → Class) (policy : Policy) (told : List C) (n : ℕ) (class : C) (are : map f told ≡ policy.classes) (within : n < length told) (is : class ≡ get_or told n class) where
  -- the leaf of a class is the one that the code has for it
  pub leaf-told : leaf_of policy n ≡ (f class).leaf
  leaf-told =
      let d : Class = record { marks = no_marks; leaf = [] } in
      ap (λ (c : Class). c.leaf) (
      unwrap_or-slice_get policy.classes n d ∙ ap (λ (z : List Class). get_or z n d) (sym are)
      ∙ get_or-map f told n class d within ∙ ap f (sym is))

  -- and it is a leaf of each map of the policy's tree
  pub leaf-leads : (images : Tree Address) → IsAccepted policy → SameShape (topology_of policy.tree) images → LeadsToLeaf images (f class).leaf
  leaf-leads images accepted same =
      let d : Class = record { marks = no_marks; leaf = [] } in
      let l : n < length policy.classes = subst (λ (k : ℕ). n < k) (sym (length-map told f) ∙ ap length are) within in
      subst (LeadsToLeaf images) leaf-told
      (same_leaves policy.tree images (leaf_of policy n) (topology-same (topology_of policy.tree) images same) (ready-at policy.tree d policy.classes n accepted.classes l).leaf_address)

some-within : (lifted_paths : List LiftedPath) (n : ℕ) (lifted_path : LiftedPath) → slice_get lifted_paths n ≡ Some lifted_path → n < length lifted_paths
some-within [] n lifted_path e = cc
some-within (x ∷ lifted_paths) zero lifted_path e = omega arith
some-within (x ∷ lifted_paths) (suc n) lifted_path e = omega (arith, some-within lifted_paths n lifted_path e)

-- the lifted paths of the classes lead to leaves
pub lifted_paths-lead : (images : Tree Address) (policy : Policy) (lifted_paths : List LiftedPath) → IsAccepted policy → topology_of policy.tree ≡ topology_of images → HasLiftedPaths images policy lifted_paths → AreLeafPaths images lifted_paths
lifted_paths-lead images policy lifted_paths accepted same has n lifted_path e =
    let d : Class = record { marks = no_marks; leaf = [] } in
    let l : n < length policy.classes = omega (arith, some-within lifted_paths n lifted_path e, has.whole) in
    record {
      address = leaf_of policy n;
      leaf = same_leaves policy.tree images (leaf_of policy n) same (ready-at policy.tree d policy.classes n accepted.classes l).leaf_address;
      leads = has.each n lifted_path e;
    }
