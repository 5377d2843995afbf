use Rattle.fabric_core.proofs.Prelude.{rules, ◌≡◌, ◌<◌, ℕ, get_or, length, refl, ◌+◌, ◌*◌, map, set, arith, ap, subst, sym, ◌∙◌, Taking, take_least, ArrayPops}
use Rattle.fabric_core.specs.Paths.{PopsNothing}
use Rattle.fabric_core.proofs.LevelWalks.{at_index, at_inner, at_next_node, at_child_place}
use Rattle.fabric_core.proofs.ArrayUpdates.{pushes_stay, flows_stay}
use Rattle.fabric_core.proofs.RoomSteps.{roomier_same, roomier_next, roomier_last}
use Rattle.fabric_core.proofs.PopSteps.{IsPopping, not_first, popping_first, popping_next, popped_last, popped_none, digit_taken}
use Rattle.fabric_core.proofs.walk.pop_along.Goals as goal

pub loop-level-init : goal.loop-level-init
loop-level-init g c = record {
  begin = 0;
  width = 1;
  place = 0;
  at = refl;
  popping = popping_first g.Q.NodeQueue c.args.shape.now c.args.queues.now c.args.digits.now c.args.ranks.now c.requires.array.nodes c.requires.path.digits c.requires.path.ranks c.requires.flow;
  first = λ _. record { root = refl; queues = refl; digits_are = refl; ranks_are = refl };
  kept = roomier_same (map g.Q.NodeQueue.spare c.args.queues.now);
  flows = refl;
}

pub bounds-queues-node : goal.bounds-queues-node
bounds-queues-node g c =
    let l = c.loop-level in
    let i = l.invariant in
    omega (arith, i.at, at_index c.args.shape.now (length l.queues) l.level i.begin i.width i.place i.popping.here)

pub returns-in_err-rank-clause-none : goal.returns-in_err-rank-clause-none
returns-in_err-rank-clause-none g c =
    let l = c.loop-level in
    let i = l.invariant in
    let node = g.Q.NodeQueue in
    let made = c.pop_pair.new.self in
    let q = c.index-queues-node.result in
    rw c.from_residual.ensures
    (subst (λ (n : ℕ). PopsNothing c.args.shape.now (map node.entries c.args.queues.now) (map node.entries (set l.queues n made)) c.args.digits.now l.digits c.args.ranks.now l.ranks) (sym i.at)
    (popped_none node c.args.shape.now c.args.queues.now l.queues c.args.digits.now l.digits c.args.ranks.now l.ranks l.level i.begin i.width i.place made q
    i.popping i.first (ap (λ (n : ℕ). node.entries (get_or l.queues n q)) (sym i.at) ∙ c.in_err-rank.ensures.taken.0) c.in_err-rank.ensures.taken.1))

pub returns-in_err-rank-clause-kept : goal.returns-in_err-rank-clause-kept
returns-in_err-rank-clause-kept g c =
    let l = c.loop-level in
    let i = l.invariant in
    roomier_last g.Q.NodeQueue c.args.shape.now c.args.queues.now l.queues l.node c.pop_pair.new.self c.index-queues-node.result
    (omega (arith, i.at, at_index c.args.shape.now (length l.queues) l.level i.begin i.width i.place i.popping.here)) i.kept c.pop_pair.ensures.spare

pub overflow_cast-digit : goal.overflow_cast-digit
overflow_cast-digit g c =
    let l = c.loop-level in
    let i = l.invariant in
    let node = g.Q.NodeQueue in
    let q = c.index-queues-node.result in
    let low : l.level < length c.args.shape.now = omega (arith, c.loop-level-test.true, c.height-level-end.ensures.height) in
    let taken : Taking = record { rank = c.in_ok-rank.rank; value = c.in_ok-rank.value; rest = node.entries c.pop_pair.new.self } in
    let below : c.in_ok-rank.value < get_or c.args.shape.now l.level 0
    = digit_taken node c.args.shape.now c.args.queues.now l.queues l.digits l.ranks l.level i.begin i.width i.place taken q low i.popping (ap (λ (n : ℕ). take_least (node.entries (get_or l.queues n q))) (sym i.at) ∙ c.in_ok-rank.ensures.taken) in
    omega (arith, c.requires.array.small, i.popping.count, at_child_place c.args.shape.now (length l.queues) l.level i.begin i.width i.place c.in_ok-rank.value low below i.popping.here)

pub child-node-requires : goal.child-node-requires
child-node-requires g c =
    let l = c.loop-level in
    let i = l.invariant in
    let low : l.level < length c.args.shape.now = omega (arith, c.loop-level-test.true, c.height-level-end.ensures.height) in
    record { inner = omega (arith, i.at, at_inner c.args.shape.now (length l.queues) l.level i.begin i.width i.place low i.popping.here) }

pub loop-level-preserved : goal.loop-level-preserved
loop-level-preserved g c =
    let l = c.loop-level in
    let i = l.invariant in
    let node = g.Q.NodeQueue in
    let ds = c.args.shape.now in
    let made = c.pop_pair.new.self in
    let q = c.index-queues-node.result in
    let digit = c.in_ok-rank.value in
    let taken : Taking = record { rank = c.in_ok-rank.rank; value = digit; rest = node.entries made } in
    let low : l.level < length ds = omega (arith, c.loop-level-test.true, c.height-level-end.ensures.height) in
    let begin = i.begin + i.width in
    let width = i.width * get_or ds l.level 0 in
    let place = i.place * get_or ds l.level 0 + digit in
    record {
      begin = begin;
      width = width;
      place = place;
      at = at_next_node ds (length l.queues) l.level i.begin i.width i.place digit l.node c.child-node.result low i.popping.here i.at c.child-node.ensures.child;
      popping = subst (λ (n : ℕ). IsPopping node ds c.args.queues.now (set l.queues n made) (set l.digits l.level digit) (set l.ranks l.level c.in_ok-rank.rank) (l.level + 1) begin width place) (sym i.at)
          (popping_next node ds c.args.queues.now l.queues l.digits l.ranks l.level i.begin i.width i.place taken made q low i.popping
          (ap (λ (n : ℕ). take_least (node.entries (get_or l.queues n q))) (sym i.at) ∙ c.in_ok-rank.ensures.taken) refl (c.pop_pair.ensures.pushes ∙ ap (λ (n : ℕ). node.pushes (get_or l.queues n q)) i.at));
      first = λ none. not_first _ _ _ _ _ _ l.level _ _ none;
      kept = roomier_next node c.args.queues.now l.queues l.node made q (omega (arith, i.at, at_index ds (length l.queues) l.level i.begin i.width i.place i.popping.here)) i.kept c.pop_pair.ensures.spare;
      flows = flows_stay node c.args.queues.now l.queues l.node made q i.flows c.pop_pair.ensures.flows;
    }

pub returns-clause-popped : goal.returns-clause-popped
returns-clause-popped g c =
    let l = c.loop-level in
    let i = l.invariant in
    let node = g.Q.NodeQueue in
    let ds = c.args.shape.now in
    let made = c.pop_pair-2.new.self in
    let q = c.index-queues-node-2.result in
    let taken : Taking = record { rank = c.in_ok-rank-2.rank; value = c.in_ok-rank-2.item; rest = node.entries made } in
    let end : l.level ≡ c.height.result = omega (arith, c.loop-level-test.false, l.auto.level-end, c.height-level-end.ensures.height, c.height.ensures.height) in
    subst (λ (n : ℕ). ArrayPops ds (map node.entries c.args.queues.now) c.in_ok-rank-2.item l.digits (set l.ranks c.height.result c.in_ok-rank-2.rank) (map node.entries (set l.queues n made))) (sym i.at)
    (popped_last node ds c.args.queues.now l.queues l.digits l.ranks l.level i.begin i.width i.place c.height.result taken made q
    end c.height.ensures.height i.popping (ap (λ (n : ℕ). take_least (node.entries (get_or l.queues n q))) (sym i.at) ∙ c.in_ok-rank-2.ensures.taken) refl)

pub returns-clause-pushes : goal.returns-clause-pushes
returns-clause-pushes g c =
    let l = c.loop-level in
    let i = l.invariant in
    pushes_stay g.Q.NodeQueue c.args.queues.now l.queues l.node c.pop_pair-2.new.self c.index-queues-node-2.result i.popping.pushes c.pop_pair-2.ensures.pushes

pub returns-clause-kept : goal.returns-clause-kept
returns-clause-kept g c =
    let l = c.loop-level in
    let i = l.invariant in
    roomier_last g.Q.NodeQueue c.args.shape.now c.args.queues.now l.queues l.node c.pop_pair-2.new.self c.index-queues-node-2.result
    (omega (arith, i.at, at_index c.args.shape.now (length l.queues) l.level i.begin i.width i.place i.popping.here)) i.kept c.pop_pair-2.ensures.spare

pub returns-clause-flows : goal.returns-clause-flows
returns-clause-flows g c =
    let l = c.loop-level in
    let i = l.invariant in
    flows_stay g.Q.NodeQueue c.args.queues.now l.queues l.node c.pop_pair-2.new.self c.index-queues-node-2.result i.flows c.pop_pair-2.ensures.flows

pub offset_bounds-queues-node : goal.offset_bounds-queues-node
offset_bounds-queues-node g c =
    let l = c.loop-level in
    let i = l.invariant in
    let within : l.node < length l.queues = omega (arith, i.at, at_index c.args.shape.now (length l.queues) l.level i.begin i.width i.place i.popping.here) in
    search rules
