use Rattle.std.proofs.Common.{ℕ, ◌≡◌, ◌+◌, length, map}
use Rattle.fabric_core.proofs.LevelWalks.{IsAt}
use Rattle.fabric_core.proofs.ReserveSteps.{HasRoomSoFar, IsRoomier}
use Rattle.fabric_core.proofs.walk.reserve_along.Given as goal

abbrev pub invariant-loop-digit : goal.invariant-loop-digit
invariant-loop-digit g l = record {
  begin : ℕ;
  width : ℕ;
  place : ℕ;
  at : l.node ≡ begin + place;
  here : IsAt l.shape (length l.queues) l.digit-index begin width place;
  count : length l.queues ≡ length l.initial.queues;
  room : HasRoomSoFar l.shape l.digits l.digit-index (map g.Q.NodeQueue.spare l.queues) begin width place;
  kept : IsRoomier (map g.Q.NodeQueue.spare l.initial.queues) (map g.Q.NodeQueue.spare l.queues);
  entries : map g.Q.NodeQueue.entries l.queues ≡ map g.Q.NodeQueue.entries l.initial.queues;
  pushes : map g.Q.NodeQueue.pushes l.queues ≡ map g.Q.NodeQueue.pushes l.initial.queues;
  flows : map g.Q.NodeQueue.flows l.queues ≡ map g.Q.NodeQueue.flows l.initial.queues;
}
