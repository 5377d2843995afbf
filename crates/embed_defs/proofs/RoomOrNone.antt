-- Either there is room for a topology's needs, or there isn't.
use Rattle.embed_defs.proofs.Prelude.{[], ℕ, refl, arith, inl, inr, ◌⊎◌, cases_lt, Topology, complete, inner, leaf, Tree, canonical, IsCanonical, IsEmbedding, HasEmbedding, image_map, AreWide, PlacementsAreThereOrNone, Arities, down_from, AreNeedsOf, HasHeight}
use Rattle.tree_defs.specs.Tree.{Address}
use Rattle.embed_defs.proofs.EnoughHeights.{wide-positive}
use Rattle.embed_defs.proofs.Needs.{some_needs}
use Rattle.embed_defs.proofs.Images.{canonical-embedding, has-embedding}

room : (h : ℕ) (all : Tree ℕ) → HasHeight h all ⊎ (HasHeight h all → ⊥)
room h (leaf n) = elim (cases_lt 0 h) [ inl some ↦ inr (λ none. omega (arith, some, none)) | inr none ↦ inl (omega arith) ]
room h (inner n ts) = elim (cases_lt h n) [ inl lower ↦ inr (λ high. omega (arith, lower, high)) | inr high ↦ inl high ]

placed : (a : Arities) (h : ℕ) (t : Topology) (all : Tree ℕ) → AreWide a → AreNeedsOf a t all
    → ((images : Tree Address) × IsCanonical a h t images × IsEmbedding t (complete (down_from a h)) (image_map images)) ⊎ (HasEmbedding t (complete (down_from a h)) → ⊥)
placed a h t all wide needs = elim (room h all) [
  | inl there ↦ inl (canonical a h [] all, record { all = all; needs = needs; placed = refl }, canonical-embedding a h t all (wide-positive a wide) needs there)
  | inr none ↦ inr (λ has. none ((has-embedding a h t all (wide-positive a wide) needs).0 has))
]

pub there_or_none : PlacementsAreThereOrNone
there_or_none a h t wide = (let own : (all : Tree ℕ) × AreNeedsOf a t all = some_needs a t wide in placed a h t own.0 wide own.1)
