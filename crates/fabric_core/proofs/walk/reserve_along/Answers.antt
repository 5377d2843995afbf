use Rattle.fabric_core.proofs.Prelude.{rules, ◌<◌, ◌≤◌, ◌+◌, ℕ, get_or, length, arith, ◌*◌, subst, sym, ◌∙◌, length-set, set, map, room_at, HasRoomAlong}
use Rattle.std.proofs.lemmas.Result.{on_ok_weaker}
use Rattle.fabric_core.proofs.LevelWalks.{IsAt, at_index, at_inner, at_next_node, at_child, leaf_length, digit_below}
use Rattle.fabric_core.proofs.ArrayUpdates.{entries_stay, pushes_stay, flows_stay}
use Rattle.fabric_core.proofs.ReserveSteps.{HasRoomSoFar, room_next_queue, room_last_queue}
use Rattle.fabric_core.proofs.RoomSteps.{roomier_next, roomier_last}
use Rattle.fabric_core.proofs.walk.reserve_along.Goals as goal

pub bounds-queues-node : goal.bounds-queues-node
bounds-queues-node g c =
    let l = c.loop-digit in
    let i = l.invariant in
    omega (arith, i.at, at_index c.args.shape.now (length l.queues) l.digit-index i.begin i.width i.place i.here)

pub bounds-queues-node-2 : goal.bounds-queues-node-2
bounds-queues-node-2 g c =
    let l = c.loop-digit in
    let i = l.invariant in
    omega (arith, i.at, at_index c.args.shape.now (length l.queues) l.digit-index i.begin i.width i.place i.here)

pub returns-in_err-make_room-clause-kept : goal.returns-in_err-make_room-clause-kept
returns-in_err-make_room-clause-kept g c =
    let l = c.loop-digit in
    let i = l.invariant in
    roomier_last g.Q.NodeQueue c.args.shape.now c.args.queues.now l.queues l.node c.make_room.new.self c.index-queues-node.result
    (omega (arith, i.at, at_index c.args.shape.now (length l.queues) l.digit-index i.begin i.width i.place i.here)) i.kept c.make_room.ensures.kept

pub returns-in_err-make_room-clause-entries : goal.returns-in_err-make_room-clause-entries
returns-in_err-make_room-clause-entries g c =
    let l = c.loop-digit in
    let i = l.invariant in
    entries_stay g.Q.NodeQueue c.args.queues.now l.queues l.node c.make_room.new.self c.index-queues-node.result i.entries c.make_room.ensures.entries

pub returns-in_err-make_room-clause-pushes : goal.returns-in_err-make_room-clause-pushes
returns-in_err-make_room-clause-pushes g c =
    let l = c.loop-digit in
    let i = l.invariant in
    pushes_stay g.Q.NodeQueue c.args.queues.now l.queues l.node c.make_room.new.self c.index-queues-node.result i.pushes c.make_room.ensures.pushes

pub returns-in_err-make_room-clause-flows : goal.returns-in_err-make_room-clause-flows
returns-in_err-make_room-clause-flows g c =
    let l = c.loop-digit in
    let i = l.invariant in
    flows_stay g.Q.NodeQueue c.args.queues.now l.queues l.node c.make_room.new.self c.index-queues-node.result i.flows c.make_room.ensures.flows

pub loop-digit-preserved : goal.loop-digit-preserved
loop-digit-preserved g c =
    let l = c.loop-digit in
    let i = l.invariant in
    let ds = c.args.shape.now in
    let digit = get_or c.args.digits.now l.digit-index 0 in
    let made = c.make_room.new.self in
    let q = c.index-queues-node.result in
    let node = g.Q.NodeQueue in
    let low : l.digit-index < length ds = omega (arith, c.loop-digit-test.true, leaf_length ds c.args.digits.now c.requires.leaf) in
    let kept : node.spare (get_or l.queues (i.begin + i.place) q) ≤ node.spare made = subst (λ (n : ℕ). node.spare (get_or l.queues n q) ≤ node.spare made) i.at c.make_room.ensures.kept in
    record {
      begin = i.begin + i.width;
      width = i.width * get_or ds l.digit-index 0;
      place = i.place * get_or ds l.digit-index 0 + digit;
      at = at_next_node ds (length l.queues) l.digit-index i.begin i.width i.place digit l.node c.child-node.result low i.here i.at c.child-node.ensures.child;
      here = subst (λ (n : ℕ). IsAt ds n (l.digit-index + 1) (i.begin + i.width) (i.width * get_or ds l.digit-index 0) (i.place * get_or ds l.digit-index 0 + digit)) (sym (length-set l.queues l.node made))
          (at_child ds (length l.queues) l.digit-index i.begin i.width i.place digit low (digit_below l.digit-index ds c.args.digits.now c.requires.leaf c.loop-digit-test.true) i.here);
      count = length-set l.queues l.node made ∙ i.count;
      room = subst (λ (n : ℕ). HasRoomSoFar ds c.args.digits.now (l.digit-index + 1) (map node.spare (set l.queues n made)) (i.begin + i.width) (i.width * get_or ds l.digit-index 0) (i.place * get_or ds l.digit-index 0 + digit)) (sym i.at)
          (room_next_queue node ds c.args.digits.now l.queues l.digit-index i.begin i.width i.place made q c.requires.leaf c.loop-digit-test.true (at_index ds (length l.queues) l.digit-index i.begin i.width i.place i.here) i.room kept c.in_ok-make_room.ensures.room);
      kept = roomier_next node c.args.queues.now l.queues l.node made q (omega (arith, i.at, at_index ds (length l.queues) l.digit-index i.begin i.width i.place i.here)) i.kept c.make_room.ensures.kept;
      entries = entries_stay node c.args.queues.now l.queues l.node made q i.entries c.make_room.ensures.entries;
      pushes = pushes_stay node c.args.queues.now l.queues l.node made q i.pushes c.make_room.ensures.pushes;
      flows = flows_stay node c.args.queues.now l.queues l.node made q i.flows c.make_room.ensures.flows;
    }

pub returns-clause-room : goal.returns-clause-room
returns-clause-room g c =
    let l = c.loop-digit in
    let i = l.invariant in
    let made = c.make_room-2.new.self in
    let q = c.index-queues-node-2.result in
    let node = g.Q.NodeQueue in
    let kept : node.spare (get_or l.queues (i.begin + i.place) q) ≤ node.spare made = subst (λ (n : ℕ). node.spare (get_or l.queues n q) ≤ node.spare made) i.at c.make_room-2.ensures.kept in
    on_ok_weaker c.make_room-2.result (λ some.
    subst (λ (n : ℕ). HasRoomAlong (room_at c.args.shape.now (map node.spare (set l.queues n made)) 0 1 0) c.args.digits.now) (sym i.at)
    (room_last_queue node c.args.shape.now c.args.digits.now l.queues l.digit-index i.begin i.width i.place made q
    c.requires.leaf (omega (arith, c.loop-digit-test.false)) (at_index c.args.shape.now (length l.queues) l.digit-index i.begin i.width i.place i.here) i.room kept some))
    c.make_room-2.ensures.room

pub returns-clause-kept : goal.returns-clause-kept
returns-clause-kept g c =
    let l = c.loop-digit in
    let i = l.invariant in
    roomier_last g.Q.NodeQueue c.args.shape.now c.args.queues.now l.queues l.node c.make_room-2.new.self c.index-queues-node-2.result
    (omega (arith, i.at, at_index c.args.shape.now (length l.queues) l.digit-index i.begin i.width i.place i.here)) i.kept c.make_room-2.ensures.kept

pub returns-clause-entries : goal.returns-clause-entries
returns-clause-entries g c =
    let l = c.loop-digit in
    let i = l.invariant in
    entries_stay g.Q.NodeQueue c.args.queues.now l.queues l.node c.make_room-2.new.self c.index-queues-node-2.result i.entries c.make_room-2.ensures.entries

pub returns-clause-pushes : goal.returns-clause-pushes
returns-clause-pushes g c =
    let l = c.loop-digit in
    let i = l.invariant in
    pushes_stay g.Q.NodeQueue c.args.queues.now l.queues l.node c.make_room-2.new.self c.index-queues-node-2.result i.pushes c.make_room-2.ensures.pushes

pub returns-clause-flows : goal.returns-clause-flows
returns-clause-flows g c =
    let l = c.loop-digit in
    let i = l.invariant in
    flows_stay g.Q.NodeQueue c.args.queues.now l.queues l.node c.make_room-2.new.self c.index-queues-node-2.result i.flows c.make_room-2.ensures.flows

pub child-node-requires : goal.child-node-requires
child-node-requires g c =
    let l = c.loop-digit in
    let i = l.invariant in
    let low : l.digit-index < length c.args.shape.now = omega (arith, c.loop-digit-test.true, leaf_length c.args.shape.now c.args.digits.now c.requires.leaf) in
    record { inner = omega (arith, i.at, at_inner c.args.shape.now (length l.queues) l.digit-index i.begin i.width i.place low i.here) }

pub offset_bounds-queues-node : goal.offset_bounds-queues-node
offset_bounds-queues-node g c =
    let l = c.loop-digit in
    let i = l.invariant in
    let within : l.node < length l.queues = omega (arith, i.at, at_index c.args.shape.now (length l.queues) l.digit-index i.begin i.width i.place i.here) in
    search rules

pub offset_bounds-queues-node-2 : goal.offset_bounds-queues-node-2
offset_bounds-queues-node-2 g c =
    let l = c.loop-digit in
    let i = l.invariant in
    let within : l.node < length l.queues = omega (arith, i.at, at_index c.args.shape.now (length l.queues) l.digit-index i.begin i.width i.place i.here) in
    search rules
