use Rattle.rank_core.proofs.Prelude.{◌≡◌, rules, subst, length, IsSome, Who, Child, Flow, kept}
use Rattle.rank_core.specs.declared.node.Eaches.{Eaches}
use Rattle.rank_core.specs.declared.node.Eaches.TheVariants.{Children, Flows}
use Rattle.rank_core.proofs.PlacesRun.{room-at, state-at, within-some, child-still, child-others, table, flow-still, flow-others, flow-ran}
use Rattle.rank_core.proofs.node.run_for.Goals as goal
use Rattle.rank_core.proofs.node.run_for.Goals.{After-run_for_place, After-run_for_place-in-Some}

-- ---- a child of an inner node
child-there : (c : After-run_for_place) → IsSome (kept (Children c.in-Children.values) (Child c.in-Child.child))
child-there c = subst (λ (es : Eaches). IsSome (kept es (Child c.in-Child.child))) c.in-Children.is (subst (λ (w : Who). IsSome (kept c.args.state.now.eaches w)) c.in-Child.is c.requires.room)

pub returns-in-Child-clause-room : goal.returns-in-Child-clause-room
returns-in-Child-clause-room c =
    let t = (goal.at.returns-in-Child-clause-room c).After-run_for_place
    in let p = c.run_for_place
    in room-at c.args.state.now c.args.who.now (Child c.in-Child.child) (Children c.in-Children.values) (Children p.new.values) c.in-Children.is c.in-Child.is c.requires.room
    (child-still c.in-Children.values p.new.values c.in-Child.child p.ensures.count p.ensures.others (within-some c.in-Children.values.items c.in-Child.child (child-there t)))
    (child-others c.in-Children.values p.new.values c.in-Child.child p.ensures.count p.ensures.others)

pub returns-in-Child-clause-after : goal.returns-in-Child-clause-after
returns-in-Child-clause-after c =
    let t = (goal.at.returns-in-Child-clause-after c).After-run_for_place
    in let p = c.run_for_place
    in let count : length p.new.keeps ≡ length c.args.state.now.keeps.items = search rules
    in state-at c.args.state.now c.args.who.now (Child c.in-Child.child) (Children c.in-Children.values) (Children p.new.values) c.in-Children.is c.in-Child.is c.requires.room
    (child-still c.in-Children.values p.new.values c.in-Child.child p.ensures.count p.ensures.others (within-some c.in-Children.values.items c.in-Child.child (child-there t)))
    (child-others c.in-Children.values p.new.values c.in-Child.child p.ensures.count p.ensures.others)
    c.args.transaction.now c.args.assigns.now c.args.env.now c.args.rank p.result c.as_mut_slice-keeps.result.now p.new.keeps c.as_mut_slice-keeps.ensures.value count p.ensures.ran

-- ---- a flow at a leaf
pub returns-in-Some-clause-room : goal.returns-in-Some-clause-room
returns-in-Some-clause-room c =
    let p = c.run_for_place-in-Some
    in let old = c.in-Flows.flows
    in let t = c.place.new.self
    in let f = c.in-Flow-who.flow
    in room-at c.args.state.now c.args.who.now (Flow f) (Flows old) (Flows (table old t f c.in-Some.place p.new.values c.in-Some.ensures.place c.in-Some.ensures.same p.ensures.count p.ensures.others)) c.in-Flows.is c.in-Flow-who.is c.requires.room
    (flow-still old t f c.in-Some.place p.new.values c.in-Some.ensures.place c.in-Some.ensures.same p.ensures.count p.ensures.others)
    (flow-others old t f c.in-Some.place p.new.values c.in-Some.ensures.place c.in-Some.ensures.same p.ensures.count p.ensures.others)

pub returns-in-Some-clause-after : goal.returns-in-Some-clause-after
returns-in-Some-clause-after c =
    let p = c.run_for_place-in-Some
    in let old = c.in-Flows.flows
    in let t = c.place.new.self
    in let f = c.in-Flow-who.flow
    in let count : length p.new.keeps ≡ length c.args.state.now.keeps.items = search rules
    in state-at c.args.state.now c.args.who.now (Flow f) (Flows old) (Flows (table old t f c.in-Some.place p.new.values c.in-Some.ensures.place c.in-Some.ensures.same p.ensures.count p.ensures.others)) c.in-Flows.is c.in-Flow-who.is c.requires.room
    (flow-still old t f c.in-Some.place p.new.values c.in-Some.ensures.place c.in-Some.ensures.same p.ensures.count p.ensures.others)
    (flow-others old t f c.in-Some.place p.new.values c.in-Some.ensures.place c.in-Some.ensures.same p.ensures.count p.ensures.others)
    c.args.transaction.now c.args.assigns.now c.args.env.now c.args.rank p.result c.as_mut_slice-keeps.result.now p.new.keeps c.as_mut_slice-keeps.ensures.value count
    (flow-ran old t f c.in-Some.place p.new.values c.in-Some.ensures.place c.in-Some.ensures.same p.ensures.count p.ensures.others c.args.transaction.now c.args.assigns.now c.args.env.now c.args.rank p.result c.as_mut_slice-keeps.result.now p.new.keeps p.ensures.ran)
