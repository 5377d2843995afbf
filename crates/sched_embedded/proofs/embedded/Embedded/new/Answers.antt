use Rattle.sched_embedded.proofs.Prelude.{sym, ℕ, ◌∙◌, ap, subst, arith, length, IsGoodMap, image_map, IsLift, Policy, policy_in, empty_tree, topology_of, Address, Tree, HasLiftedPaths, Laid}
use Rattle.sched_embedded.specs.Laid.{MapsToLeaves}
use Rattle.embed_defs.proofs.EmbeddedMaps.{embeddings_are_good_maps as good_map}
use Rattle.sched_embedded.proofs.MapShapes.{topology-same, embedding-laid, empty-lifted, same_laid}
use Rattle.sched_embedded.proofs.embedded.Embedded.new.Goals as goal

pub new-requires-2 : goal.new-requires-2
new-requires-2 g c =
    record { laid = embedding-laid (topology_of c.args.policy.now.policy.tree) c.args.map c.args.target.now.arities c.requires.placed.map_shape c.requires.placed.embedding }

pub invariant_of-result : goal.invariant_of-result
invariant_of-result g c = record {
  few = (omega (arith, c.requires.few.pushes, c.pushes.ensures, c.in_ok-configure.ensures.pushed), omega (arith, c.requires.few.pops, c.pops.ensures, c.in_ok-configure.ensures.popped));
  paths_lead = subst (λ (m : Tree Address). HasLiftedPaths m (policy_in c.in_ok-own.own) c.in_ok-lifted_paths.lifted_paths.items) (sym c.in_ok-embedding.ensures.images)
      (subst (λ (p : Policy). HasLiftedPaths c.args.map p c.in_ok-lifted_paths.lifted_paths.items) (sym c.in_ok-own.ensures.policy) c.in_ok-lifted_paths.ensures.lifted_paths);
  leaves = subst (λ (l : Laid). MapsToLeaves l.images l.arities)
      (sym (same_laid c.in_ok-embedding.embedding c.args.map c.args.target.now.arities c.in_ok-embedding.ensures.images c.in_ok-embedding.ensures.arities))
      (embedding-laid (topology_of c.args.policy.now.policy.tree) c.args.map c.args.target.now.arities c.requires.placed.map_shape c.requires.placed.embedding).leaves;
  shape = ap (λ (p : Policy). topology_of p.tree) c.in_ok-own.ensures.policy ∙ topology-same (topology_of c.args.policy.now.policy.tree) c.args.map c.requires.placed.map_shape
      ∙ ap (λ (m : Tree Address). topology_of m) (sym c.in_ok-embedding.ensures.images);
}

pub returns-clause-stands : goal.returns-clause-stands
returns-clause-stands g c = record {
  own = c.in_ok-own.ensures.start;
  shape = c.in_ok-configure.ensures.shaped ∙ c.arities.ensures.arities;
  lifted = subst (λ (m : Tree Address). IsLift (empty_tree (topology_of c.args.policy.now.policy.tree)) (image_map m) (g.F.Fabric.queues c.configure.new.self)) (sym c.in_ok-embedding.ensures.images)
      (empty-lifted (topology_of c.args.policy.now.policy.tree) c.args.map (length c.args.target.now.arities) (g.F.Fabric.queues c.configure.new.self) c.requires.placed.map_shape
      (good_map c.args.target.now.arities (topology_of c.args.policy.now.policy.tree) c.args.map c.requires.placed.map_shape c.requires.placed.embedding) c.in_ok-configure.ensures.emptied);
  pushes = omega (arith, c.pushes.ensures, c.in_ok-own.ensures.pushes);
  pops = omega (arith, c.pops.ensures, c.in_ok-own.ensures.departures);
}

pub class_paths-requires-clause-good : goal.class_paths-requires-clause-good
class_paths-requires-clause-good g c =
    subst (λ (h : ℕ). IsGoodMap h c.args.map) (sym c.len.ensures)
    (good_map c.args.target.now.arities (topology_of c.args.policy.now.policy.tree) c.args.map c.requires.placed.map_shape c.requires.placed.embedding)
