use Rattle.block_core.proofs.Prelude.{arith, ◌≡◌, sym, subst, ℕ, ◌∙◌, ap, refl, List, rules, length-map, new_empty, new_sound, flows_at, nodes, HasFlows, Block, entries_of, flows_of, pushes_of}
use Rattle.block_core.proofs.fabric.BlockFabricFabric.configure.Goals as goal

pub invariant_of-self : goal.invariant_of-self
invariant_of-self c =
    let qs = c.in_ok-queues.queues.items in
    let made = c.in_ok-queues.ensures in
    let same : c.in_ok-self-inside.field-0 ≡ c.args.arities.now = search rules in
    record {
      sound =
          new_sound c.in_ok-self-inside.field-0 (entries_of qs) (pushes_of qs) c.self.inside.pushed (ap (λ (z : List ℕ). nodes z) same ∙ made.nodes ∙ sym (length-map qs (λ (q : Block). q.entries)))
          (omega (arith, made.small, length-map qs (λ (q : Block). q.entries))) made.entries made.pushes;
      flows = subst (λ (z : List ℕ). HasFlows z (flows_at z (flows_of qs) 0 1 0)) (sym same) (made.flows refl);
      few = c.self.invariant.few;
    }

pub returns-clause-emptied : goal.returns-clause-emptied
returns-clause-emptied c = new_empty c.in_ok-self-inside.field-0 (entries_of c.in_ok-queues.queues.items) c.in_ok-queues.ensures.entries
