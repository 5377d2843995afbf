use Rattle.sched_capture.proofs.Prelude.{ℕ, ap, ◌∙◌, [], refl, err_from_is_err_and, outcomes, start, load_run, sum_of}
use Rattle.sched_capture.proofs.FromStart.{stand_at_start}
use Rattle.sched_capture.proofs.LoadRuns.{made_from_start, stopped_from_start}
use Rattle.sched_capture.proofs.load.count_load.Goals as goal

pub play_load-requires-clause-stands : goal.play_load-requires-clause-stands
play_load-requires-clause-stands g c =
    let r = c.requires in
    stand_at_start g.C.Scheduler.stands _ c.args.policy.now.policy _ _ 0 r.start.policy_is (rw r.start.policy_is at r.start.set.accepted) r.start.stands

pub returns-clause-counts : goal.returns-clause-counts
returns-clause-counts g c =
    let r = c.requires in
    let policy = c.args.policy.now.policy in
    let made = made_from_start c.args.policy.now.policy c.args.load.seed c.args.load.count c.in_ok-totals.ensures.ok r.start.policy_is (rw r.start.policy_is at r.start.set.accepted) r.start.stands in
    let sum = c.sum.ensures ∙ c.recorder.ensures ∙ (made.recorded (λ _. []) (λ _. refl)).total
    ∙ ap (λ (m : ℕ). sum_of m (outcomes policy (load_run policy c.args.load.seed c.args.load.count (start policy)) (start policy))) r.zero in
    rw (made.pushed, made.popped, made.empty, sum) refl

pub returns-clause-state : goal.returns-clause-state
returns-clause-state g c =
    let r = c.requires in
    let made = made_from_start c.args.policy.now.policy c.args.load.seed c.args.load.count c.in_ok-totals.ensures.ok r.start.policy_is (rw r.start.policy_is at r.start.set.accepted) r.start.stands in
    made.leaves

pub returns-clause-unwritten : goal.returns-clause-unwritten
returns-clause-unwritten g c =
    let r = c.requires in
    let made = made_from_start c.args.policy.now.policy c.args.load.seed c.args.load.count c.in_ok-totals.ensures.ok r.start.policy_is (rw r.start.policy_is at r.start.set.accepted) r.start.stands in
    (made.recorded (λ _. []) (λ _. refl)).unwritten

pub returns-in_err-totals-clause-amid : goal.returns-in_err-totals-clause-amid
returns-in_err-totals-clause-amid g c =
    let r = c.requires in
    let p = err_from_is_err_and c.from_residual.result c.from_residual.ensures.1 in
    let some = stopped_from_start c.args.policy.now.policy c.args.load.seed c.args.load.count c.in_err-totals.ensures.err r.start.policy_is (rw r.start.policy_is at r.start.set.accepted) r.start.stands in
    rw (p.1) some.leaves

pub returns-in_err-totals-clause-unwritten : goal.returns-in_err-totals-clause-unwritten
returns-in_err-totals-clause-unwritten g c =
    let r = c.requires in
    let some = stopped_from_start c.args.policy.now.policy c.args.load.seed c.args.load.count c.in_err-totals.ensures.err r.start.policy_is (rw r.start.policy_is at r.start.set.accepted) r.start.stands in
    some.cut (λ _. []) (λ _. refl)
