use Rattle.tree_core.proofs.Prelude.{arith, ◌≡◌, ap, ◌∙◌, length, ◌<◌, ◌≤◌, refl, ◌+◌, ◌^◌, rules, Some, length_push, take_least, depth, nodes}
use Rattle.tree_core.proofs.PopSteps.{node_held, leaf_popped, digit_within, child_held, child_shallower, child_smaller, node_popped, node_sound}
use Rattle.tree_core.proofs.PlaceLaws.{no_fewer_below}
use Rattle.tree_core.proofs.tree.SourceTree.+pop_onto.Goals as goal

pub unreachable-requires : goal.unreachable-requires
unreachable-requires t c = node_held c.self.inside.queue c.self.inside.children.items c.args.self.now c.self.view_is c.self.invariant c.requires.held c.in_default.ensures.taken.0

pub returns-then-is_empty-clause-popped : goal.returns-then-is_empty-clause-popped
returns-then-is_empty-clause-popped t c =
    let p : take_least c.self.inside.queue.entries ≡ Some (record { rank = c.in-Some.rank; value = c.in-Some.value; rest = c.pop.new.self.entries }) = c.in-Some.ensures.taken in
    let n : length c.self.inside.children.items ≡ 0 = search rules in
    leaf_popped c.self.inside.queue c.self.inside.children.items c.args.self.now c.self.view_is c.self.invariant _ p c.args.taken.now c.last.new.self n c.last.ensures.digits c.last.ensures.ranks

pub overflow_cast-value : goal.overflow_cast-value
overflow_cast-value t c =
    let p : take_least c.self.inside.queue.entries ≡ Some (record { rank = c.in-Some.rank; value = c.in-Some.value; rest = c.pop.new.self.entries }) = c.in-Some.ensures.taken in
    let n : length c.self.inside.children.items ≡ 0 → ⊥ = λ (e : length c.self.inside.children.items ≡ 0). search rules in
    let d : (c.in-Some.value < length c.self.inside.children.items) × (c.in-Some.value < 2 ^ 32) = digit_within c.self.inside.queue c.self.inside.children.items c.args.self.now c.self.view_is c.self.invariant _ p n in
    search (rules, d)

pub index_mut-requires : goal.index_mut-requires
index_mut-requires t c =
    let p : take_least c.self.inside.queue.entries ≡ Some (record { rank = c.in-Some.rank; value = c.in-Some.value; rest = c.pop.new.self.entries }) = c.in-Some.ensures.taken in
    let n : length c.self.inside.children.items ≡ 0 → ⊥ = λ (e : length c.self.inside.children.items ≡ 0). search rules in
    let d : (c.in-Some.value < length c.self.inside.children.items) × (c.in-Some.value < 2 ^ 32) = digit_within c.self.inside.queue c.self.inside.children.items c.args.self.now c.self.view_is c.self.invariant _ p n in
    omega (arith, d.0)

pub pop_onto-requires : goal.pop_onto-requires
pop_onto-requires t c =
    let p : take_least c.self.inside.queue.entries ≡ Some (record { rank = c.in-Some.rank; value = c.in-Some.value; rest = c.pop.new.self.entries }) = c.in-Some.ensures.taken in
    let n : length c.self.inside.children.items ≡ 0 → ⊥ = λ (e : length c.self.inside.children.items ≡ 0). search rules in
    let d : (c.in-Some.value < length c.self.inside.children.items) × (c.in-Some.value < 2 ^ 32) = digit_within c.self.inside.queue c.self.inside.children.items c.args.self.now c.self.view_is c.self.invariant _ p n in
    let smaller : nodes c.index_mut.result.now.tree < nodes c.args.self.now.tree = child_smaller c.self.inside.queue c.self.inside.children.items c.args.self.now c.self.view_is c.self.invariant _ p c.index_mut.result.now c.index_mut.ensures.value d.0 in
    let shallower : depth c.index_mut.result.now.tree + 1 ≤ depth c.args.self.now.tree = child_shallower c.self.inside.queue c.self.inside.children.items c.args.self.now c.self.view_is c.self.invariant _ p c.index_mut.result.now c.index_mut.ensures.value d.0 in
    let grows : length c.step.new.self.digits ≡ length c.args.taken.now.digits + 1 = ap length c.step.ensures.digits ∙ length_push _ _ in
    let ranks : length c.step.new.self.ranks ≡ length c.args.taken.now.ranks + 1 = ap length c.step.ensures.ranks ∙ length_push _ _ in
    (search rules, (child_held c.self.inside.queue c.self.inside.children.items c.args.self.now c.self.view_is c.self.invariant _ p c.index_mut.result.now c.index_mut.ensures.value d.0, (omega (arith, grows), omega (arith, grows, ranks))))

pub invariant_of-self-2 : goal.invariant_of-self-2
invariant_of-self-2 t c =
    let p : take_least c.self.inside.queue.entries ≡ Some (record { rank = c.in-Some.rank; value = c.in-Some.value; rest = c.pop.new.self.entries }) = c.in-Some.ensures.taken in
    let n : length c.self.inside.children.items ≡ 0 → ⊥ = λ (e : length c.self.inside.children.items ≡ 0). search rules in
    let d : (c.in-Some.value < length c.self.inside.children.items) × (c.in-Some.value < 2 ^ 32) = digit_within c.self.inside.queue c.self.inside.children.items c.args.self.now c.self.view_is c.self.invariant _ p n in
    node_sound c.self.inside.queue c.self.inside.children.items c.args.self.now c.self.view_is c.self.invariant _ p c.index_mut.result.now c.index_mut.ensures.value d.0 c.pop.new.self c.pop_onto.new.self c.step.new.self c.pop_onto.new.taken c.pop_onto.result c.pop_onto.ensures.popped refl c.in-Some.ensures.pushes c.pop_onto.ensures.pushes

pub returns-clause-popped : goal.returns-clause-popped
returns-clause-popped t c =
    let p : take_least c.self.inside.queue.entries ≡ Some (record { rank = c.in-Some.rank; value = c.in-Some.value; rest = c.pop.new.self.entries }) = c.in-Some.ensures.taken in
    let n : length c.self.inside.children.items ≡ 0 → ⊥ = λ (e : length c.self.inside.children.items ≡ 0). search rules in
    let d : (c.in-Some.value < length c.self.inside.children.items) × (c.in-Some.value < 2 ^ 32) = digit_within c.self.inside.queue c.self.inside.children.items c.args.self.now c.self.view_is c.self.invariant _ p n in
    node_popped c.self.inside.queue c.self.inside.children.items c.args.self.now c.self.view_is c.self.invariant _ p c.index_mut.result.now c.index_mut.ensures.value d.0 c.pop_onto.new.self c.args.taken.now c.step.new.self c.pop_onto.new.taken c.pop_onto.result c.pop_onto.ensures.popped c.step.ensures.digits c.step.ensures.ranks

pub returns-clause-spare : goal.returns-clause-spare
returns-clause-spare t c =
    no_fewer_below c.self.inside.queue c.pop.new.self c.self.inside.children.items c.args.self.now c.self.view_is c.pop.ensures.spare c.in-Some.value c.index_mut.result.now c.pop_onto.new.self c.index_mut.ensures.value c.pop_onto.ensures.spare
