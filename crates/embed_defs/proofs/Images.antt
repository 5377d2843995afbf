-- The canonical images are an embedding, and an embedding exists exactly if there is room for the
-- needs.
use Rattle.embed_defs.proofs.Prelude.{[], ℕ, ◌≡◌, refl, ◌∷◌, ap, ◌∙◌, suc, sym, List, Some, zero, ◌++◌, subst, append-nil, append_assoc, ◌↔◌, option_map, same_shape, topology_of-same, leaf_at, Topology, complete, inner, leaf, more, none, Tree, Trees, root_of, SameShape, subtree_in, subtree, IsAddressOf, Child, canonical, image_part, children, canonicals, IsEmbedding, HasEmbedding, image_map, image_at, Arities, down_from, AreNeedsOf, HasHeight, IsNeed, IsLeast, lift_digits, part, digits_below}
use Rattle.tree_defs.specs.Tree.{Address}
use Rattle.embed_defs.proofs.Levels.{ArePositive}
use Rattle.embed_defs.proofs.Subtrees.{same_address}
use Rattle.embed_defs.proofs.CanonicalPlaced.{parts, child_parts, own_height, needs-roomy, parts-good}
use Rattle.embed_defs.proofs.PlacedEmbeddings.{placement-embedding}
use Rattle.embed_defs.proofs.PlacementNeeds.{embedding-need, embedding-height}

-- an image is the concatenation of the parts on the path to it
mutual
  pub canonical-image : (a : Arities) (h : ℕ) (e f : Address) (t u : Tree ℕ) (b : Address) → subtree t b ≡ Some u → image_at (canonical a h e t) b ≡ Some (e ++ lift_digits (parts a h f t) b)
  canonical-image a h e f (leaf n) u [] m = ap Some (sym (append-nil e))
  canonical-image a h e f (leaf n) u (i ∷ b) m = cc
  canonical-image a h e f (inner n ts) u [] m = ap Some (sym (append-nil e))
  canonical-image a h e f (inner n ts) u (i ∷ b) m = canonical-image_in a h e (children ts 0) ts 0 u i b m

  canonical-image_in : (a : Arities) (h : ℕ) (e : Address) (xs : List Child) (ts : Trees ℕ) (j : ℕ) (u : Tree ℕ) (i : ℕ) (b : Address) → subtree_in ts i b ≡ Some u
      → option_map root_of (subtree_in (canonicals a h e xs ts j) i b) ≡ Some (e ++ (part (child_parts a h xs ts j) i ++ digits_below (child_parts a h xs ts j) i b))
  canonical-image_in a h e xs none j u i b m = cc
  canonical-image_in a h e xs (more t ts) j u zero b m =
      let l : root_of (parts a (root_of t) (image_part a h xs (j, root_of t)) t) ≡ image_part a h xs (j, root_of t) = root_parts t in
      rw l (canonical-image a (root_of t) (e ++ image_part a h xs (j, root_of t)) (image_part a h xs (j, root_of t)) t u b m ∙ ap Some (append_assoc e (image_part a h xs (j, root_of t)) (lift_digits (parts a (root_of t) (image_part a h xs (j, root_of t)) t) b)))
    where
      root_parts : (t : Tree ℕ) → root_of (parts a (root_of t) (image_part a h xs (j, root_of t)) t) ≡ image_part a h xs (j, root_of t)
      root_parts (leaf n) = refl
      root_parts (inner n ts) = refl
  canonical-image_in a h e xs (more t ts) j u (suc i) b m = canonical-image_in a h e xs ts (suc j) u i b m

same_embedding : (s t : Topology) (f g : Address → Address) → ((b : Address) → IsAddressOf s b → g b ≡ f b) → g [] ≡ [] → IsEmbedding s t f → IsEmbedding s t g
same_embedding s t f g e r i = record {
  root = r;
  inside = λ b m. rw (e b m) (i.inside b m);
  leaves = λ b m. let l : (u : Unit {0}) × (subtree s b ≡ Some (leaf u)) = leaf_at s b m in rw (e b (leaf l.0, l.1)) (i.leaves b m);
  prefixes = λ b c m n. rw (e b m, e c n) (i.prefixes b c m n);
}

-- the canonical images are an embedding
pub canonical-embedding : (a : Arities) (h : ℕ) (t : Topology) (m : Tree ℕ) → ArePositive a → AreNeedsOf a t m → HasHeight h m → IsEmbedding t (complete (down_from a h)) (image_map (canonical a h [] m))
canonical-embedding a h t m p d l =
    let g = parts-good a m h [] p (needs-roomy a m h p d.needs l) in
    let s : SameShape t (parts a h [] m) = same_shape t (parts a h [] m) (topology_of-same t m d.shape ∙ topology_of-same m (parts a h [] m) g.1) in
    same_embedding t (complete (down_from a h)) (lift_digits (parts a h [] m)) (image_map (canonical a h [] m)) (λ b k. images b k.0 (same_address t m b k.0 d.shape k.1)) (root m) (placement-embedding a h t (parts a h [] m) s g.0 g.2)
  where
    images : (b : Address) (u : Topology) → ((v : Tree ℕ) × (subtree m b ≡ Some v) × SameShape u v) → image_map (canonical a h [] m) b ≡ lift_digits (parts a h [] m) b
    images b u k = rw (canonical-image a h [] [] m k.0 b k.1) refl

    root : (m : Tree ℕ) → image_map (canonical a h [] m) [] ≡ []
    root (leaf n) = refl
    root (inner n ts) = refl

-- the need is the least height of a complete tree in which there is an embedding
pub need-embedding : (a : Arities) (t : Topology) (n : ℕ) → ArePositive a → IsNeed a t n → IsLeast (λ h. HasEmbedding t (complete (down_from a h))) n
need-embedding a t n p m = record {
  holds = (image_map (canonical a n [] m.all), canonical-embedding a n t m.all p m.needs (subst (λ (z : ℕ). HasHeight z m.all) m.root (own_height a m.all m.needs.needs)));
  least = λ h e. embedding-need t a h e.0 e.1 n p m;
}

-- an embedding exists exactly if the height is at least the need, or the root is a leaf and the
-- height is 0
pub has-embedding : (a : Arities) (h : ℕ) (t : Topology) (m : Tree ℕ) → ArePositive a → AreNeedsOf a t m → HasEmbedding t (complete (down_from a h)) ↔ HasHeight h m
has-embedding a h t m p d = (λ e. embedding-height t a h e.0 e.1 m p d, λ l. (image_map (canonical a h [] m), canonical-embedding a h t m p d l))
