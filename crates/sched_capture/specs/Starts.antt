-- What stands before a run over a capture.
use Rattle.std.specs.Prelude.{◌≡◌, Bool}
use Rattle.policy_defs.specs.Policy.{Policy}
use Rattle.sched_defs.specs.SourceState.{start}
use Rattle.sched_core.specs.declared.scheduler.Scheduler as scheduler
use Rattle.sched_capture.specs.CapturePackets.{policy_of, given_by, IsReady}
use Rattle.sched_capture.specs.SingleLinkType as one
use Rattle.sched_capture.specs.declared.capture_packets.CapturePackets.{CapturePackets}
use Rattle.sched_capture.specs.declared.single_link_type.SingleLinkType.{SingleLinkType}
use Rattle.sched_run.specs.declared.recorder.Recorder as recorder
use Rattle.sched_run.specs.declared.run.Run.{Run}
use Rattle.sched_run.specs.Frames.{IsSet}

-- the run's scheduler and queues represent the start of the policy, and nothing was pushed or asked for
pub record IsAtStart {C U N W : Type 0} (S : scheduler.Ghosts C U) (R : recorder.Ghosts W) (named : N → Policy) (policy : Policy) (run : Run C N W) (under : U) : Type 0 where
  pub set : IsSet S R named run
  pub policy_is : S.policy run.scheduler ≡ policy
  pub stands : S.stands run.scheduler under (start policy)
  pub no_pushes : S.pushes run.scheduler ≡ 0
  pub no_departures : S.departures run.scheduler ≡ 0

-- no packet was read yet, and each will get its class from this policy
pub record AreUnread {S : Type 0} (policy : Policy) (packets : CapturePackets S) (begun : Bool) : Type 0 where
  pub policy_is : policy_of packets ≡ policy
  pub none_given : given_by packets ≡ 0
  pub ready : IsReady packets begun

-- the same for packets of one link type, the first of which may be read ahead
pub record AreUnreadOfOne {S : Type 0} (policy : Policy) (packets : SingleLinkType S) (begun : Bool) : Type 0 where
  pub policy_is : one.policy_of packets ≡ policy
  pub none_given : one.given_by packets ≡ 0
  pub ready : one.IsReady packets begun
