use Rattle.replay_app.proofs.Prelude.{subst, sym, refl, ap, ◌∙◌, Err, IsEmbedding, image_map, IsGivenFor, IsWithinLimits, image_of, topology, topology_of, Topology, complete, SameShape, IsPlacement}
use Rattle.mapcheck_core.proofs.ComposedImages.{placed-topology}
use Rattle.sched_capture.specs.Placements.{Placed}
use Rattle.replay_app.specs.Placing.{IsLaidAlong}
use Rattle.replay_app.proofs.ViaInputs.{carried_by}
use Rattle.replay_app.proofs.PlacingLaws.{unplaced_input, unplaced_kind, unplaced_memory}
use Rattle.replay_app.proofs.laying.lay_along.Goals as goal

pub compose-requires-clause-topo : goal.compose-requires-clause-topo
compose-requires-clause-topo c =
    subst IsWithinLimits (sym c.topo.ensures.topology) (record { few = c.topo.ensures.few; low = c.topo.ensures.levels; branched = c.topo.ensures.branched })

pub compose-requires-clause-given : goal.compose-requires-clause-given
compose-requires-clause-given c = subst (λ (s : Topology). IsGivenFor s c.args.given.now) (sym c.topo.ensures.topology) c.requires.route.given_for

pub compose-requires-clause-embedding : goal.compose-requires-clause-embedding
compose-requires-clause-embedding c =
    let given = c.args.given.now in
    let own = topology_of c.args.policy.policy.tree in
    subst (λ (s : Topology). IsEmbedding s (topology_of c.in-Ok.placement) (image_of s given)) (sym c.topo.ensures.topology)
    (subst (λ (t : Topology). IsEmbedding own t (image_of own given)) (sym (placed-topology _ _ c.in-Ok.ensures.shape)) c.requires.route.embedding)

pub compose-requires-clause-placement : goal.compose-requires-clause-placement
compose-requires-clause-placement c =
    subst (λ (t : Topology). IsEmbedding t (complete c.args.target.arities) (image_map c.in-Ok.placement)) (sym (placed-topology _ _ c.in-Ok.ensures.shape)) c.in-Ok.ensures.embedding

pub new-requires : goal.new-requires
new-requires c = record {
  placed = record {
    range = c.requires.range;
    map_shape = subst (λ (s : Topology). SameShape s c.in_ok-map-in-Ok.map) c.topo.ensures.topology c.in_ok-map-in-Ok.ensures.shape;
    embedding = subst (λ (s : Topology). IsEmbedding s (complete c.args.target.arities) (image_map c.in_ok-map-in-Ok.map)) c.topo.ensures.topology c.in_ok-map-in-Ok.ensures.embedding;
  };
}

pub returns-in_ok-map-in-Ok-clause-laid : goal.returns-in_ok-map-in-Ok-clause-laid
returns-in_ok-map-in-Ok-clause-laid c =
    let p = c.args.policy.policy in
    let middle = topology c.args.middle.now in
    let placed : IsPlacement middle c.args.target c.in-Ok.placement = record { canonical = c.in-Ok.ensures.canonical; embedding = c.in-Ok.ensures.embedding } in
    let is = carried_by p c.args.given.now middle c.args.target _ c.in-Ok.placement c.in_ok-map-in-Ok.map c.topo.ensures.topology placed c.in_ok-map-in-Ok.ensures.composed in
    subst (IsLaidAlong c.args.policy c.args.given.now middle c.args.target) (sym c.new.ensures) (record { is = refl; carried = is })

pub returns-in-Err-clause-laid : goal.returns-in-Err-clause-laid
returns-in-Err-clause-laid c =
    unplaced_input Placed c.in-Err.fault _ c.unplaced.ensures (topology c.args.middle.now) c.args.target (IsLaidAlong c.args.policy c.args.given.now (topology c.args.middle.now) c.args.target) (λ none. c.embed.ensures.none (c.in-Err.is ∙ ap Err none))

pub returns-in-Err-clause-kind : goal.returns-in-Err-clause-kind
returns-in-Err-clause-kind c = unplaced_kind Placed c.in-Err.fault _ c.unplaced.ensures

pub returns-in-Err-clause-memory : goal.returns-in-Err-clause-memory
returns-in-Err-clause-memory c = unplaced_memory Placed c.in-Err.fault _ c.unplaced.ensures
