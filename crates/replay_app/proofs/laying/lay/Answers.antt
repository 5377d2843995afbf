use Rattle.replay_app.proofs.Prelude.{subst, sym, refl, ap, ◌∙◌, Err, HasEmbedding, IsEmbedding, image_map, topology_of, Topology, complete, SameShape}
use Rattle.sched_capture.specs.Placements.{Placed}
use Rattle.replay_app.specs.Placing.{IsLaidAs}
use Rattle.replay_app.proofs.Inputs.{placement}
use Rattle.replay_app.proofs.PlacingLaws.{unplaced_input, unplaced_kind, unplaced_memory}
use Rattle.replay_app.proofs.laying.lay.Goals as goal

pub new-requires : goal.new-requires
new-requires c = record {
  placed = record {
    range = c.requires.range;
    map_shape = subst (λ (s : Topology). SameShape s c.in-Ok.map) c.topo.ensures.topology c.in-Ok.ensures.shape;
    embedding = subst (λ (s : Topology). IsEmbedding s (complete c.args.target.arities) (image_map c.in-Ok.map)) c.topo.ensures.topology c.in-Ok.ensures.embedding;
  };
}

pub returns-in-Ok-clause-laid : goal.returns-in-Ok-clause-laid
returns-in-Ok-clause-laid c =
    let is = placement (topology_of c.args.policy.policy.tree) c.args.target c.in-Ok.map _ c.topo.ensures.topology c.in-Ok.ensures.canonical c.in-Ok.ensures.embedding in
    subst (IsLaidAs c.args.policy c.args.target) (sym c.new.ensures) (record { is = refl; placed = is })

pub returns-in-Err-clause-laid : goal.returns-in-Err-clause-laid
returns-in-Err-clause-laid c =
    unplaced_input Placed c.in-Err.fault _ c.unplaced.ensures (topology_of c.args.policy.policy.tree) c.args.target (IsLaidAs c.args.policy c.args.target)
    (λ none. subst (λ (s : Topology). HasEmbedding s (complete c.args.target.arities) → ⊥) c.topo.ensures.topology (c.embed.ensures.none (c.in-Err.is ∙ ap Err none)))

pub returns-in-Err-clause-kind : goal.returns-in-Err-clause-kind
returns-in-Err-clause-kind c = unplaced_kind Placed c.in-Err.fault _ c.unplaced.ensures

pub returns-in-Err-clause-memory : goal.returns-in-Err-clause-memory
returns-in-Err-clause-memory c = unplaced_memory Placed c.in-Err.fault _ c.unplaced.ensures
