-- Composed maps, and maps that agree on the addresses.
use Rattle.embed_defs.proofs.Prelude.{[], ◌≡◌, ap, ◌∙◌, sym, subst, leaf_at, Topology, IsAddressOf, LeadsToLeaf, IsEmbedding, image_map}
use Rattle.tree_defs.specs.Tree.{Address}
use Rattle.embed_defs.proofs.Subtrees.{subtree-root}
use Rattle.embed_defs.specs.MapLaws.{EmbeddingsCompose, TreesOfImagesEmbed}

pub embeddings_compose : EmbeddingsCompose
embeddings_compose r s t f g e h = record {
  root = ap g e.root ∙ h.root;
  inside = λ a l. h.inside (f a) (e.inside a l);
  leaves = λ a l. h.leaves (f a) (e.leaves a l);
  prefixes = λ a b l m. (
    λ p. (h.prefixes (f a) (f b) (e.inside a l) (e.inside b m)).0 ((e.prefixes a b l m).0 p),
    λ p. (e.prefixes a b l m).1 ((h.prefixes (f a) (f b) (e.inside a l) (e.inside b m)).1 p),
  );
}

-- a map that agrees with an embedding on the addresses is an embedding
pub agreeing : (s t : Topology) (f g : Address → Address) → ((a : Address) → IsAddressOf s a → g a ≡ f a) → IsEmbedding s t f → IsEmbedding s t g
agreeing s t f g same e = record {
  root = same [] (s, subtree-root s) ∙ e.root;
  inside = λ a l. subst (IsAddressOf t) (sym (same a l)) (e.inside a l);
  leaves = λ a l. let q = leaf_at s a l in subst (LeadsToLeaf t) (sym (same a (_, q.1))) (e.leaves a l);
  prefixes = λ a b l m. (
    λ p. rw (same a l, same b m) ((e.prefixes a b l m).0 p),
    λ p. (e.prefixes a b l m).1 (rw (sym (same a l), sym (same b m)) p),
  );
}

pub trees_of_images_embed : TreesOfImagesEmbed
trees_of_images_embed s t image images h e = agreeing s t image (image_map images) h.each e
