use Rattle.fabric_core.proofs.Prelude.{arith, List, ◌+◌, sym, ap, ◌∙◌, subst, ◌≤◌, with_items_is, AllByRecursion, with_items, IsLeafAddress, push_along, less_room_along, Contents, room_at, array_push, ArrayTakesRoom, entries_of, pushes_of, Flat, flat_queues, flat_room, spare_of}
use Rattle.fabric_core.proofs.FabricLaws.{pushed_sound, pushed_queues}
use Rattle.fabric_core.proofs.flat.FlatFabricFabric.push.Goals as goal

pub invariant_of-self : goal.invariant_of-self
invariant_of-self c =
    let f = c.self.inside in
    let back = with_items_is f.queues c.push_along.new.queues (omega (arith, c.push_along.auto.queues, c.deref_mut.ensures.len)) in
    pushed_sound f.shape (entries_of f.queues.items) (entries_of (with_items f.queues c.push_along.new.queues).items) (pushes_of f.queues.items) (pushes_of (with_items f.queues c.push_along.new.queues).items) f.pushed c.args.digits.now c.args.ranks.now c.args.item c.self.invariant
    (subst (λ (v : Flat). IsLeafAddress v.arities c.args.digits.now) (sym c.self.view_is) c.requires.path.leaf)
    (ap (λ (z : List Contents). entries_of z) back ∙ c.push_along.ensures.entries
    ∙ ap (λ (z : List Contents). array_push f.shape (entries_of z) 0 1 0 c.args.digits.now c.args.ranks.now c.args.item) c.deref_mut.ensures.value)
    (λ n a. subst (λ (z : List Contents). AllByRecursion (λ k. k ≤ n + 1) (pushes_of z)) (sym back)
    (c.push_along.ensures.pushes n (subst (λ (z : List Contents). AllByRecursion (λ k. k ≤ n) (pushes_of z)) (sym c.deref_mut.ensures.value) a)))

pub returns-clause-queues : goal.returns-clause-queues
returns-clause-queues c b =
    let f = c.self.inside in
    let back = with_items_is f.queues c.push_along.new.queues (omega (arith, c.push_along.auto.queues, c.deref_mut.ensures.len)) in
    pushed_queues f.shape (entries_of f.queues.items) (entries_of (with_items f.queues c.push_along.new.queues).items) (pushes_of f.queues.items) f.pushed c.args.digits.now c.args.ranks.now c.args.item c.self.invariant
    (subst (λ (v : Flat). IsLeafAddress v.arities c.args.digits.now) (sym c.self.view_is) c.requires.path.leaf)
    (ap (λ (z : List Contents). entries_of z) back ∙ c.push_along.ensures.entries
    ∙ ap (λ (z : List Contents). array_push f.shape (entries_of z) 0 1 0 c.args.digits.now c.args.ranks.now c.args.item) c.deref_mut.ensures.value) b
    ∙ ap (λ (v : Flat). push_along c.args.digits.now c.args.ranks.now c.args.item (flat_queues v) b) c.self.view_is

pub returns-clause-less_room : goal.returns-clause-less_room
returns-clause-less_room c b =
    let f = c.self.inside in
    let back = with_items_is f.queues c.push_along.new.queues (omega (arith, c.push_along.auto.queues, c.deref_mut.ensures.len)) in
    let taken : ArrayTakesRoom f.shape c.args.digits.now (spare_of f.queues.items) (spare_of c.push_along.new.queues)
    = subst (λ (z : List Contents). ArrayTakesRoom f.shape c.args.digits.now (spare_of z) (spare_of c.push_along.new.queues)) c.deref_mut.ensures.value c.push_along.ensures.less_room in
    ap (λ (z : List Contents). room_at f.shape (spare_of z) 0 1 0 b) back ∙ taken b ∙ ap (λ (v : Flat). less_room_along c.args.digits.now (flat_room v) b) c.self.view_is
