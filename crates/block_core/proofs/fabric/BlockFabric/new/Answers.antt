use Rattle.block_core.proofs.Prelude.{arith, sym, subst, ℕ, ◌∙◌, ap, refl, List, length-map, new_empty, new_sound, flows_at, nodes, HasFlows, Block, entries_of, flows_of, pushes_of}
use Rattle.block_core.proofs.fabric.BlockFabric.new.Goals as goal

pub invariant_of-result : goal.invariant_of-result
invariant_of-result c =
    let qs = c.in_ok-empty_queues.field-0.items in
    let made = c.in_ok-empty_queues.ensures in
    record {
      sound =
          new_sound c.in_ok-new.field-0 (entries_of qs) (pushes_of qs) 0 (ap (λ (z : List ℕ). nodes z) c.in_ok-new.ensures.arities ∙ made.nodes ∙ sym (length-map qs (λ (q : Block). q.entries)))
          (omega (arith, made.small, length-map qs (λ (q : Block). q.entries))) made.entries made.pushes;
      flows = subst (λ (z : List ℕ). HasFlows z (flows_at z (flows_of qs) 0 1 0)) (sym c.in_ok-new.ensures.arities) (made.flows refl);
      few = omega arith;
    }

pub returns : goal.returns
returns c = record {
  leaf = c.in_ok-new.ensures.arities;
  empty = new_empty c.in_ok-new.field-0 (entries_of c.in_ok-empty_queues.field-0.items) c.in_ok-empty_queues.ensures.entries;
  pushed = refl;
  popped = refl;
  spilled = refl;
}
