-- The statements of the laws of the crate.
use Rattle.embed_defs.proofs.Prelude.{[], ℕ, refl, ap, ◌∙◌, sym, Topology, Tree, root_of, canonical, CanonicalPlacementsAreEmbeddings, CanonicalPlacementsAreOne, EmbeddingsNeedRoom, NeedsAreLeastHeights, TopologiesHaveOneNeed, Arities, AreNeedsOf, IsNeed}
use Rattle.embed_defs.proofs.EnoughHeights.{wide-positive}
use Rattle.embed_defs.proofs.Needs.{one_needs, some_needs}
use Rattle.embed_defs.proofs.Images.{canonical-embedding, need-embedding, has-embedding}

pub topologies_have_one_need-holds : TopologiesHaveOneNeed
topologies_have_one_need-holds = record {
  one = λ a t m n x y. sym x.root ∙ ap root_of (one_needs a t x.all y.all x.needs.shape y.needs.shape x.needs.needs y.needs.needs) ∙ y.root;
  some = λ a t w. some a t (some_needs a t w);
}
  where
    some : (a : Arities) (t : Topology) → ((m : Tree ℕ) × AreNeedsOf a t m) → (n : ℕ) × IsNeed a t n
    some a t m = (root_of m.0, record { all = m.0; needs = m.1; root = refl })

pub needs_are_least_heights-holds : NeedsAreLeastHeights
needs_are_least_heights-holds a t n w m = need-embedding a t n (wide-positive a w) m

pub embeddings_need_room-holds : EmbeddingsNeedRoom
embeddings_need_room-holds a t all h w m = has-embedding a h t all (wide-positive a w) m

pub canonical_placements_are_embeddings-holds : CanonicalPlacementsAreEmbeddings
canonical_placements_are_embeddings-holds a t all h w m l = canonical-embedding a h t all (wide-positive a w) m l

pub canonical_placements_are_one-holds : CanonicalPlacementsAreOne
canonical_placements_are_one-holds a h t images others c d =
    c.placed ∙ ap (canonical a h []) (one_needs a t c.all d.all c.needs.shape d.needs.shape c.needs.needs d.needs.needs) ∙ sym d.placed
