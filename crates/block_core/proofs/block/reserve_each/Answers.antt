use Rattle.block_core.proofs.Prelude.{arith, ◌≡◌, sym, length, subst, ℕ, ◌∙◌, ap, refl, ◌+◌, ◌<◌, deque_items, suc, set, deque_len, deque_capacity, take, length-set, length-map, map-set, HasSpare, rooms}
use Rattle.std.proofs.Math.Seq.{map-set_same}
use Rattle.block_core.proofs.PartLaws.{room_at, room_set, room_done}
use Rattle.block_core.proofs.block.reserve_each.Goals as goal

pub returns-in_err-reserve-clause-items : goal.returns-in_err-reserve-clause-items
returns-in_err-reserve-clause-items c =
    map-set_same deque_items c.loop-flow.stores.items c.loop-flow.flow c.reserve.new.self c.index_mut.result.now (c.reserve.ensures.items ∙ ap (λ s. deque_items s) c.index_mut.ensures.value) ∙ c.loop-flow.invariant.items

pub returns-in_err-reserve-clause-kept : goal.returns-in_err-reserve-clause-kept
returns-in_err-reserve-clause-kept c n h =
    let l = c.loop-flow in
    let inside : l.flow < length l.stores.items = omega (arith, c.loop-flow-test.true, c.len-flow-end.ensures, c.args.stores.now.ok.0, l.invariant.count) in
    let before : HasSpare n (rooms l.stores.items) = l.invariant.kept n h in
    room_set (λ s. (deque_len s, deque_capacity s)) l.stores.items n n l.flow c.reserve.new.self (omega arith)
    (omega (arith, c.reserve.ensures.len, c.reserve.ensures.capacity, room_at (λ s. (deque_len s, deque_capacity s)) l.stores.items n (length l.stores.items) l.flow c.index_mut.result.now refl inside c.index_mut.ensures.value before)) before

pub loop-flow-preserved : goal.loop-flow-preserved
loop-flow-preserved c =
    let l = c.loop-flow in
    let inside : l.flow < length l.stores.items = omega (arith, c.loop-flow-test.true, c.len-flow-end.ensures, c.args.stores.now.ok.0, l.invariant.count) in
    let long : length (rooms l.stores.items) ≡ length l.stores.items = length-map {B = ℕ × ℕ} l.stores.items (λ s. (deque_len s, deque_capacity s)) in
    record {
      count = length-set l.stores.items l.flow c.reserve.new.self ∙ l.invariant.count;
      items = map-set_same deque_items l.stores.items l.flow c.reserve.new.self c.index_mut.result.now (c.reserve.ensures.items ∙ ap (λ s. deque_items s) c.index_mut.ensures.value) ∙ l.invariant.items;
      room = subst (λ z. HasSpare c.args.more (take z (rooms (set l.stores.items l.flow c.reserve.new.self)))) (let n : suc l.flow ≡ l.flow + 1 = omega arith in n)
          (subst (λ z. HasSpare c.args.more (take (suc l.flow) z)) (sym (map-set (λ s. (deque_len s, deque_capacity s)) l.stores.items l.flow c.reserve.new.self))
          (room_done c.args.more (rooms l.stores.items) l.flow (deque_len c.reserve.new.self, deque_capacity c.reserve.new.self) l.invariant.room (omega (arith, inside, long)) (omega (arith, c.in_ok-reserve.ensures.ok))));
      kept = λ n h.
          let before : HasSpare n (rooms l.stores.items) = l.invariant.kept n h in
          room_set (λ s. (deque_len s, deque_capacity s)) l.stores.items n n l.flow c.reserve.new.self (omega arith)
          (omega (arith, c.reserve.ensures.len, c.reserve.ensures.capacity, room_at (λ s. (deque_len s, deque_capacity s)) l.stores.items n (length l.stores.items) l.flow c.index_mut.result.now refl inside c.index_mut.ensures.value before)) before;
    }
