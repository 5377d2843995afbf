use Rattle.std.proofs.Common.{ℕ, ◌≡◌, ◌+◌, map}
use Rattle.fabric_core.proofs.PopSteps.{IsPopping, IsFirst}
use Rattle.fabric_core.proofs.ReserveSteps.{IsRoomier}
use Rattle.fabric_core.proofs.walk.pop_along.Given as goal

abbrev pub invariant-loop-level : goal.invariant-loop-level
invariant-loop-level g l = record {
  begin : ℕ;
  width : ℕ;
  place : ℕ;
  at : l.node ≡ begin + place;
  popping : IsPopping g.Q.NodeQueue l.shape l.initial.queues l.queues l.digits l.ranks l.level begin width place;
  first : l.level ≡ 0 → IsFirst l.initial.queues l.queues l.initial.digits l.digits l.initial.ranks l.ranks begin place;
  kept : IsRoomier (map g.Q.NodeQueue.spare l.initial.queues) (map g.Q.NodeQueue.spare l.queues);
  flows : map g.Q.NodeQueue.flows l.queues ≡ map g.Q.NodeQueue.flows l.initial.queues;
}
