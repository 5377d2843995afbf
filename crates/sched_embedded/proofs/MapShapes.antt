-- A tree and its map have the same leaves, and the leaves of an embedding are those of the target.
use Rattle.sched_embedded.proofs.Prelude.{sym, ℕ, ◌∙◌, ap, ◌≡◌, subst, List, arith, length, Some, [], refl, suc, ◌∷◌, None, option_map, Family, IsLeafAddress, IsEmpty, IsGoodMap, image_map, image_at, IsLift, Policy, IsSound, SourceState, topology_of-same, LeadsToLeaf-topology, depth-topology, same_shape, topology_of-empty, leaf_at, deep_leaf, empty_tree, topology_of, IsWithin, Topology, complete, topologies_of, Address, Tree, LeadsToLeaf, Trees, inner, leaf, more, none, SameShape, root_of, depth, Laid, HoldsLift, IsLaid}
use Rattle.embed_defs.specs.Embedding.{IsEmbedding}
use Rattle.embed_defs.proofs.LiftLawProofs.{empty_trees_have_empty_lifts}
use Rattle.embed_defs.proofs.EmbeddedMaps.{embeddings_are_good_maps}

pub same_leaves : {Q R : Type 0} (t : Tree Q) (u : Tree R) (a : Address) → topology_of t ≡ topology_of u → LeadsToLeaf t a → LeadsToLeaf u a
same_leaves t u a e l = subst (λ (A : Type 0). A) (LeadsToLeaf-topology t a ∙ ap (λ (z : Topology). LeadsToLeaf z a) e ∙ sym (LeadsToLeaf-topology u a)) l

pub same_depth : {Q R : Type 0} (t : Tree Q) (u : Tree R) → topology_of t ≡ topology_of u → depth t ≡ depth u
same_depth t u e = sym (depth-topology t) ∙ ap (λ (z : Topology). depth z) e ∙ depth-topology u

-- a leaf has an image
pub leaf-image : (m : Tree Address) (a : Address) → LeadsToLeaf m a → image_at m a ≡ None → ⊥
leaf-image m a l e =
    let at = leaf_at m a l in
    let there : image_at m a ≡ Some at.0 = ap (option_map root_of) at.1 in
    let no : None ≡ Some at.0 = sym e ∙ there in
    cc

mutual
  topology_of-topology : (t : Topology) → topology_of t ≡ t
  topology_of-topology (leaf u) = refl
  topology_of-topology (inner u ts) = ap (inner tt) (topologies_of-topologies ts)

  topologies_of-topologies : (ts : Trees (Unit {0})) → topologies_of ts ≡ ts
  topologies_of-topologies none = refl
  topologies_of-topologies (more t ts) = ap (λ (z : Topology). more z (topologies_of ts)) (topology_of-topology t) ∙ ap (more t) (topologies_of-topologies ts)

pub topology-same : {Q : Type 0} (t : Topology) (u : Tree Q) → SameShape t u → t ≡ topology_of u
topology-same t u s = sym (topology_of-topology t) ∙ topology_of-same t u s

leaf_address : (arities : List ℕ) (a : Address) → IsWithin arities a → length a ≡ length arities → IsLeafAddress arities a
leaf_address [] [] w n = tt
leaf_address [] (x ∷ a) w n = absurd w
leaf_address (d ∷ arities) [] w n = absurd (omega (arith, n))
leaf_address (d ∷ arities) (x ∷ a) w n = (w.0, leaf_address arities a w.1 (omega (arith, n)))

pub leaf_long : (arities : List ℕ) (a : Address) → IsLeafAddress arities a → length a ≡ length arities
leaf_long [] [] h = refl
leaf_long [] (x ∷ a) h = absurd h
leaf_long (d ∷ arities) [] h = absurd h
leaf_long (d ∷ arities) (x ∷ a) h = ap suc (leaf_long arities a h.1)

-- the images of an embedding lay a topology into the target
pub embedding-laid : (t : Topology) (images : Tree Address) (arities : List ℕ) → SameShape t images → IsEmbedding t (complete arities) (image_map images) → IsLaid images arities
embedding-laid t images arities same e = record {
  good = embeddings_are_good_maps arities t images same e;
  leaves = λ a l.
      let deep : IsWithin arities (image_map images a) × (length (image_map images a) ≡ length arities) = deep_leaf arities (image_map images a) (e.leaves a (same_leaves images t a (sym (topology_of-same t images same)) l)) in
      leaf_address arities (image_map images a) deep.0 deep.1;
}

-- a tree without an entry and empty queues
pub empty-lifted : (t : Topology) (images : Tree Address) (h : ℕ) (queues : Family) → SameShape t images → IsGoodMap h images → IsEmpty queues → IsLift (empty_tree t) (image_map images) queues
empty-lifted t images h queues same good empty =
    (empty_trees_have_empty_lifts h t images queues (record { shape = same_shape (empty_tree t) images (topology_of-empty t ∙ topology-same t images same); good = good })).1 empty

-- the tree of a sound state has the shape of its policy's map
pub sound-shape : (policy : Policy) (s : SourceState) (images : Tree Address) → IsSound policy s → topology_of policy.tree ≡ topology_of images → topology_of s.tree ≡ topology_of images
sound-shape policy s images sound e = topology_of-same s.tree policy.tree sound.shape ∙ e

pub sound-holds : (policy : Policy) (s : SourceState) (l : Laid) (queues : Family) → IsSound policy s → topology_of policy.tree ≡ topology_of l.images → IsLift s.tree (image_map l.images) queues → HoldsLift l queues s.tree
sound-holds policy s l queues sound e lifted = record {
  well_formed = sound.well_formed;
  shape = same_shape s.tree l.images (sound-shape policy s l.images sound e);
  lifted = lifted;
}

-- a tree laid into a complete tree is its images and the arities
pub same_laid : (l : Laid) (images : Tree Address) (arities : List ℕ) → l.images ≡ images → l.arities ≡ arities → l ≡ record { images = images; arities = arities }
same_laid l images arities p q = λ i. record { images = p i; arities = q i }

-- a map that is known to be the one laid is good
pub laid-good : (inside l : Laid) → inside ≡ l → IsLaid inside.images inside.arities → IsGoodMap (length l.arities) l.images
laid-good inside l same laid = subst (λ (z : Laid). IsGoodMap (length z.arities) z.images) same laid.good
