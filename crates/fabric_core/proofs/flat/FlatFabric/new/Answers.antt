use Rattle.fabric_core.proofs.Prelude.{ℕ, arith, List, sym, ap, ◌∙◌, refl, length-map, Contents, nodes, entries_of, pushes_of}
use Rattle.fabric_core.proofs.FabricLaws.{new_sound, new_empty}
use Rattle.fabric_core.proofs.flat.FlatFabric.new.Goals as goal

pub invariant_of-result : goal.invariant_of-result
invariant_of-result c =
    let qs = c.in_ok-empty_queues.field-0.items in
    let made = c.in_ok-empty_queues.ensures in
    new_sound c.in_ok-new.field-0 (entries_of qs) (pushes_of qs) 0 (ap (λ (z : List ℕ). nodes z) c.in_ok-new.ensures.arities ∙ made.nodes ∙ sym (length-map qs (λ (q : Contents). q.entries)))
    (omega (arith, made.small, length-map qs (λ (q : Contents). q.entries))) made.entries made.pushes

pub returns : goal.returns
returns c = record {
  leaf = c.in_ok-new.ensures.arities;
  empty = new_empty c.in_ok-new.field-0 (entries_of c.in_ok-empty_queues.field-0.items) c.in_ok-empty_queues.ensures.entries;
  pushed = refl;
  popped = refl;
}
