use Rattle.fabric_core.proofs.Prelude.{ℕ, arith, ◌≡◌, List, sym, ap, ◌∙◌, rules, length-map, Contents, nodes, entries_of, pushes_of}
use Rattle.fabric_core.proofs.FabricLaws.{new_sound, new_empty}
use Rattle.fabric_core.proofs.flat.FlatFabricFabric.configure.Goals as goal

pub invariant_of-self : goal.invariant_of-self
invariant_of-self c =
    let qs = c.in_ok-queues.queues.items in
    let made = c.in_ok-queues.ensures in
    let same : c.in_ok-self-inside.field-0 ≡ c.args.arities.now = search rules in
    new_sound c.in_ok-self-inside.field-0 (entries_of qs) (pushes_of qs) c.self.inside.pushed (ap (λ (z : List ℕ). nodes z) same ∙ made.nodes ∙ sym (length-map qs (λ (q : Contents). q.entries)))
    (omega (arith, made.small, length-map qs (λ (q : Contents). q.entries))) made.entries made.pushes

pub returns-clause-emptied : goal.returns-clause-emptied
returns-clause-emptied c = new_empty c.in_ok-self-inside.field-0 (entries_of c.in_ok-queues.queues.items) c.in_ok-queues.ensures.entries
