use Rattle.std.proofs.Common.{ℕ, ◌≡◌, ◌+◌}
use Rattle.fabric_core.proofs.PushSteps.{IsPushing}
use Rattle.fabric_core.proofs.RoomSteps.{IsTaking}
use Rattle.fabric_core.proofs.SpillSteps.{IsCounting}
use Rattle.fabric_core.proofs.walk.push_along.Given as goal

abbrev pub invariant-loop-level : goal.invariant-loop-level
invariant-loop-level g l = record {
  begin : ℕ;
  width : ℕ;
  place : ℕ;
  at : l.node ≡ begin + place;
  pushing : IsPushing g.Q.NodeQueue l.shape l.digits l.ranks l.item l.initial.queues l.queues l.level begin width place;
  taking : IsTaking g.Q.NodeQueue l.shape l.digits l.initial.queues l.queues l.level begin width place;
  counting : IsCounting g.Q.NodeQueue l.shape l.digits l.ranks l.initial.queues l.queues l.spilled l.level begin width place;
}
