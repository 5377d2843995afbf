use Rattle.replay_app.proofs.Prelude.{◌∙◌, refl, ap, Err}
use Rattle.sched_capture.specs.Placements.{Placed}
use Rattle.replay_app.specs.declared.not_run.NotRun.{NotRun}
use Rattle.replay_app.proofs.OfficeRoom.{office-has-room}
use Rattle.replay_app.proofs.soak.lay_office.Goals as goal

-- the target has room for the tree of the office policy
pub unreachable-requires : goal.unreachable-requires
unreachable-requires c =
    let none = rw (c.in-Err-Rejected.is ∙ ap (λ (e : NotRun). Err e) c.in-Err-Rejected.field-0-is) at c.lay.ensures.laid in
    (rw c.in_ok-target.ensures at none.0.0) (office-has-room _ c.in_ok-policy.policy c.in_ok-policy.ensures.policy refl)

pub returns-in-Ok-clause-office : goal.returns-in-Ok-clause-office
returns-in-Ok-clause-office c = rw c.in-Ok.ensures.laid.is c.in_ok-policy.ensures.policy

pub returns-in-Ok-clause-target : goal.returns-in-Ok-clause-target
returns-in-Ok-clause-target c = ap (λ (l : Placed). l.target) c.in-Ok.ensures.laid.is ∙ c.in_ok-target.ensures

pub returns-in-Ok-clause-map : goal.returns-in-Ok-clause-map
returns-in-Ok-clause-map c = rw c.in-Ok.ensures.laid.is c.in-Ok.ensures.laid.placed
