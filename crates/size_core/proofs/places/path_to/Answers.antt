use Rattle.size_core.proofs.Prelude.{◌≡◌, ◌∙◌, ℕ, ap, List, subst, map, slice_index, lifted-lift, image_map, Address, IsPath}
use Rattle.embed_core.specs.LiftedPaths.{IsLiftedPathTo}
use Rattle.size_core.proofs.places.path_to.Goals as goal

pub returns-clause-path : goal.returns-clause-path
returns-clause-path c =
    let lifted : IsLiftedPathTo c.args.map.now c.args.leaf.now c.in_ok-lifted.lifted = c.in_ok-lifted.ensures.lifted in
    let steps = c.in_ok-steps.steps.items in
    let image : c.deref.result.now ≡ image_map c.args.map.now c.args.leaf.now = c.deref.ensures.value ∙ lifted.image in
    record {
      steps = steps;
      path = subst (λ (z : List ℕ). IsPath c.hops_of.new.known.keys (image_map c.args.map.now c.args.leaf.now) z c.in_ok-hops.hops.items) c.deref-2.ensures.value
          (subst (λ (a : Address). IsPath c.hops_of.new.known.keys a c.deref-2.result.now c.in_ok-hops.hops.items) image c.in_ok-hops.ensures.path);
      lifts = λ ranks n. ap (λ (z : List ℕ). map (slice_index ranks) z) c.in_ok-steps.ensures.steps ∙ lifted-lift c.args.map.now c.args.leaf.now c.in_ok-lifted.lifted lifted ranks n;
    }
