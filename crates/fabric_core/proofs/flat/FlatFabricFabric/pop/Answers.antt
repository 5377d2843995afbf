use Rattle.std.specs.Prelude.{IsNone, IfNone, IfSome, ◌↔◌}
use Rattle.fabric_core.proofs.Prelude.{arith, ◌≡◌, List, [], length, ap, ◌∙◌, subst, with_items_is, with_items, Pops, Contents, queues_at, entries_of, pushes_of, spare_of, room_at, ArrayKeepsRoom, Flat, flat_queues, flat_room}
use Rattle.embed_defs.specs.Family.{HasNoLessRoom}
use Rattle.fabric_core.specs.Paths.{IsUnchanged}
use Rattle.fabric_core.proofs.FabricLaws.{Popped, popped_none, popped_taken, popped_stays, popped_kept}
use Rattle.fabric_core.proofs.flat.FlatFabricFabric.pop.Goals as goal

back : (c : goal.After-self-2-1) → (with_items c.self.inside.queues c.pop_along.new.queues).items ≡ c.pop_along.new.queues
back c = with_items_is c.self.inside.queues c.pop_along.new.queues (omega (arith, c.pop_along.auto.queues, c.deref_mut.ensures.len))

popped : (c : goal.After-self-2-1)
    → Popped c.self.inside.shape (entries_of c.self.inside.queues.items) (entries_of (with_items c.self.inside.queues c.pop_along.new.queues).items) c.pop_along.result c.args.digits.now c.pop_along.new.digits c.args.ranks.now c.pop_along.new.ranks
popped c =
    let f = c.self.inside in
    let made : Popped f.shape (entries_of c.deref_mut.result.now) (entries_of c.pop_along.new.queues) c.pop_along.result c.args.digits.now c.pop_along.new.digits c.args.ranks.now c.pop_along.new.ranks
    = record { none = c.pop_along.ensures.none; some = c.pop_along.ensures.popped } in
    rw (back c) (subst (λ (z : List Contents). Popped f.shape (entries_of z) (entries_of c.pop_along.new.queues) c.pop_along.result c.args.digits.now c.pop_along.new.digits c.args.ranks.now c.pop_along.new.ranks) c.deref_mut.ensures.value made)

pub invariant_of-self : goal.invariant_of-self
invariant_of-self c =
    let f = c.self.inside in
    popped_kept f.shape (entries_of f.queues.items) (entries_of (with_items f.queues c.pop_along.new.queues).items) (pushes_of f.queues.items) (pushes_of (with_items f.queues c.pop_along.new.queues).items) f.pushed c.pop_along.result c.args.digits.now c.pop_along.new.digits c.args.ranks.now c.pop_along.new.ranks c.self.invariant (popped c)
    (ap (λ (z : List Contents). pushes_of z) (back c) ∙ c.pop_along.ensures.pushes ∙ ap (λ (z : List Contents). pushes_of z) c.deref_mut.ensures.value)

pub returns-clause-none : goal.returns-clause-none
returns-clause-none c =
    let f = c.self.inside in
    subst (λ (v : Flat). IsNone c.pop_along.result ↔ (flat_queues v [] ≡ [])) c.self.view_is
    (popped_none f.shape (entries_of f.queues.items) (entries_of (with_items f.queues c.pop_along.new.queues).items) c.pop_along.result c.args.digits.now c.pop_along.new.digits c.args.ranks.now c.pop_along.new.ranks (popped c))

pub returns-clause-taken : goal.returns-clause-taken
returns-clause-taken c =
    let f = c.self.inside in
    subst (λ (v : Flat). IfSome c.pop_along.result (λ item. Pops (length v.arities) (flat_queues v) item c.pop_along.new.digits c.pop_along.new.ranks (queues_at f.shape (entries_of (with_items f.queues c.pop_along.new.queues).items) 0 1 0))) c.self.view_is
    (popped_taken f.shape (entries_of f.queues.items) (entries_of (with_items f.queues c.pop_along.new.queues).items) (pushes_of f.queues.items) f.pushed c.pop_along.result c.args.digits.now c.pop_along.new.digits c.args.ranks.now c.pop_along.new.ranks c.self.invariant (popped c))

pub returns-clause-stays : goal.returns-clause-stays
returns-clause-stays c =
    let f = c.self.inside in
    subst (λ (v : Flat). IfNone c.pop_along.result (IsUnchanged (flat_queues v) (queues_at f.shape (entries_of (with_items f.queues c.pop_along.new.queues).items) 0 1 0) c.args.digits.now c.pop_along.new.digits c.args.ranks.now c.pop_along.new.ranks)) c.self.view_is
    (popped_stays f.shape (entries_of f.queues.items) (entries_of (with_items f.queues c.pop_along.new.queues).items) c.pop_along.result c.args.digits.now c.pop_along.new.digits c.args.ranks.now c.pop_along.new.ranks (popped c))

pub returns-clause-kept : goal.returns-clause-kept
returns-clause-kept c =
    let f = c.self.inside in
    let kept : ArrayKeepsRoom f.shape (spare_of f.queues.items) (spare_of c.pop_along.new.queues)
    = subst (λ (z : List Contents). ArrayKeepsRoom f.shape (spare_of z) (spare_of c.pop_along.new.queues)) c.deref_mut.ensures.value c.pop_along.ensures.kept in
    subst (λ (v : Flat). HasNoLessRoom (flat_room v) (room_at f.shape (spare_of (with_items f.queues c.pop_along.new.queues).items) 0 1 0)) c.self.view_is (rw (back c) kept)
