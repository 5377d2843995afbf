use Rattle.embed_core.proofs.Prelude.{◌≡◌, length, arith, sym, ◌∙◌, List, subst, ℕ, [], refl, canonical, HasEmbedding, IsEmbedding, image_map, HasHeight, topology, complete, levels_of}
use Rattle.embed_defs.proofs.EmbeddingLaws.{embeddings_need_room-holds, canonical_placements_are_embeddings-holds}
use Rattle.embed_defs.proofs.CanonicalMaps.{canonical_maps_are_good}
use Rattle.embed_core.proofs.ChildNeeds.{same-nodes}
use Rattle.embed_core.proofs.TargetArities.{wide, own_levels}
use Rattle.embed_core.proofs.map.embed.Goals as goal

pub returns-then-not-fit-clause-none : goal.returns-then-not-fit-clause-none
returns-then-not-fit-clause-none c e i =
    let h : HasHeight (length c.args.target.now.arities) c.in_ok-needs.needs
    = (embeddings_need_room-holds (levels_of c.args.target.now) (topology c.args.topo.now) c.in_ok-needs.needs (length c.args.target.now.arities) (wide c.args.target.now c.requires.range) c.in_ok-needs.ensures.needs).0
    (subst (λ (ds : List ℕ). HasEmbedding (topology c.args.topo.now) (complete ds)) (sym (own_levels c.args.target.now)) i) in
    cc (c.if-not-fit.ensures.fit.1 (rw c.height-height.ensures h))

pub returns-clause-canonical : goal.returns-clause-canonical
returns-clause-canonical c = record {
  all = c.in_ok-needs.needs;
  needs = c.in_ok-needs.ensures.needs;
  placed = c.in_ok-place.ensures.canonical ∙ rw (c.height-height.ensures, c.new.ensures.items) refl;
}

pub place-requires-clause-few : goal.place-requires-clause-few
place-requires-clause-few c = omega (arith, same-nodes (topology c.args.topo.now) c.in_ok-needs.needs c.in_ok-needs.ensures.needs.shape, c.requires.few)

pub returns-clause-shape : goal.returns-clause-shape
returns-clause-shape c =
    let h : HasHeight (length c.args.target.now.arities) c.in_ok-needs.needs = rw c.height-height.ensures at (c.if-not-fit.ensures.fit.0 refl) in
    let e : c.in_ok-place.field-0 ≡ canonical (levels_of c.args.target.now) (length c.args.target.now.arities) [] c.in_ok-needs.needs
    = c.in_ok-place.ensures.canonical ∙ rw (c.height-height.ensures, c.new.ensures.items) refl in
    (canonical_maps_are_good (levels_of c.args.target.now) (length c.args.target.now.arities) (topology c.args.topo.now) c.in_ok-place.field-0 (wide c.args.target.now c.requires.range) (record { all = c.in_ok-needs.needs; needs = c.in_ok-needs.ensures.needs; placed = e }) h).0

pub returns-clause-good : goal.returns-clause-good
returns-clause-good c =
    let h : HasHeight (length c.args.target.now.arities) c.in_ok-needs.needs = rw c.height-height.ensures at (c.if-not-fit.ensures.fit.0 refl) in
    let e : c.in_ok-place.field-0 ≡ canonical (levels_of c.args.target.now) (length c.args.target.now.arities) [] c.in_ok-needs.needs
    = c.in_ok-place.ensures.canonical ∙ rw (c.height-height.ensures, c.new.ensures.items) refl in
    (canonical_maps_are_good (levels_of c.args.target.now) (length c.args.target.now.arities) (topology c.args.topo.now) c.in_ok-place.field-0 (wide c.args.target.now c.requires.range) (record { all = c.in_ok-needs.needs; needs = c.in_ok-needs.ensures.needs; placed = e }) h).1

pub returns-clause-embedding : goal.returns-clause-embedding
returns-clause-embedding c =
    let h : HasHeight (length c.args.target.now.arities) c.in_ok-needs.needs = rw c.height-height.ensures at (c.if-not-fit.ensures.fit.0 refl) in
    let e : c.in_ok-place.field-0 ≡ canonical (levels_of c.args.target.now) (length c.args.target.now.arities) [] c.in_ok-needs.needs
    = c.in_ok-place.ensures.canonical ∙ rw (c.height-height.ensures, c.new.ensures.items) refl in
    rw e (subst (λ (ds : List ℕ). IsEmbedding (topology c.args.topo.now) (complete ds) (image_map (canonical (levels_of c.args.target.now) (length c.args.target.now.arities) [] c.in_ok-needs.needs))) (own_levels c.args.target.now)
    (canonical_placements_are_embeddings-holds (levels_of c.args.target.now) (topology c.args.topo.now) c.in_ok-needs.needs (length c.args.target.now.arities) (wide c.args.target.now c.requires.range) c.in_ok-needs.ensures.needs h))
