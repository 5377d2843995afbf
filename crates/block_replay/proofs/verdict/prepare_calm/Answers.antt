use Rattle.block_replay.proofs.Prelude.{refl, [], ◌∷◌, ◌≡◌, Bool, Answer, calm_answer, told-later}
use Rattle.sched_capture.specs.Placements.{laid_by}
use Rattle.replay_app.specs.Answer.{text_alone}
use Rattle.replay_app.proofs.DecidedLaws.{passed, decided_so, same_trans}
use Rattle.replay_app.proofs.PreparedLaws.{policy_same, policy_out, target_same, target_out, room_same, room_out, laid_same}
use Rattle.block_replay.specs.Output.{calm_line}
use Rattle.block_replay.proofs.verdict.prepare_calm.Goals as goal

pub returns-in_err-policy_file-clause-decided : goal.returns-in_err-policy_file-clause-decided
returns-in_err-policy_file-clause-decided g c = λ contents told.
    let f = c.args.files.now in
    policy_out f.latest (contents f.policy.now) _ (λ is a. a ≡ text_alone 0 (calm_line is))
    c.in_err-policy_file.field-0.0 (rw (told.0) at c.in_err-policy_file.ensures.read) c.in_err-policy_file.ensures.kind c.from_residual.result (passed _ _ c.from_residual.ensures.1)

pub returns-in_err-target-clause-decided : goal.returns-in_err-target-clause-decided
returns-in_err-target-clause-decided g c = λ contents told.
    let f = c.args.files.now in
    let later = told-later _ _ _ _ contents (f.target.now ∷ []) c.in_ok-policy_file.ensures.kept.files told.1 in
    let run = λ (is : Bool) (a : Answer). a ≡ text_alone 0 (calm_line is) in
    decided_so _ _ run c.from_residual-in_err-target.result
    (policy_same f.latest (contents f.policy.now) _ c.in_ok-policy_file.policy_file (rw told.0 at c.in_ok-policy_file.ensures.read))
    (target_out (contents f.target.now) _ run
    c.in_err-target.field-0.0 (rw (later.0) at c.in_err-target.ensures.read) c.in_err-target.ensures.kind c.from_residual-in_err-target.result (passed _ _ c.from_residual-in_err-target.ensures.1))

pub returns-in_err-laid-clause-decided : goal.returns-in_err-laid-clause-decided
returns-in_err-laid-clause-decided g c = λ contents told.
    let f = c.args.files.now in
    let later = told-later _ _ _ _ contents (f.target.now ∷ []) c.in_ok-policy_file.ensures.kept.files told.1 in
    let run = λ (is : Bool) (a : Answer). a ≡ text_alone 0 (calm_line is) in
    let r = c.from_residual-in_err-laid.result in
    let policy = c.in_ok-policy_file.policy_file.policy in
    decided_so _ _ run r
    (policy_same f.latest (contents f.policy.now) _ c.in_ok-policy_file.policy_file (rw told.0 at c.in_ok-policy_file.ensures.read))
    (decided_so _ _ run r
    (target_same (contents f.target.now) _ c.in_ok-target.target (rw (later.0) at c.in_ok-target.ensures.read))
    (room_out policy c.in_ok-target.target (λ laid b. b ≡ calm_answer policy.policy laid) run c.in_err-laid.field-0.0 c.in_err-laid.ensures.laid c.in_err-laid.ensures.kind r
    (passed _ _ c.from_residual-in_err-laid.ensures.1)))

pub returns-clause-decided : goal.returns-clause-decided
returns-clause-decided g c = λ contents told.
    let f = c.args.files.now in
    let later = told-later _ _ _ _ contents (f.target.now ∷ []) c.in_ok-policy_file.ensures.kept.files told.1 in
    let policy = c.in_ok-policy_file.policy_file.policy in
    let laid = c.in_ok-laid.laid in
    let target = c.in_ok-target.target in
    let same : calm_answer laid.policy.policy (laid_by laid) ≡ text_alone 0 (calm_line c.calm.result) =
    rw (c.calm.ensures.value, c.policy.ensures.policy, c.map.ensures.map) refl in
    same_trans _ _ _
    (policy_same f.latest (contents f.policy.now) _ c.in_ok-policy_file.policy_file (rw told.0 at c.in_ok-policy_file.ensures.read))
    (same_trans _ _ _
    (target_same (contents f.target.now) _ target (rw (later.0) at c.in_ok-target.ensures.read))
    (same_trans _ _ _
    (room_same policy target (λ l b. b ≡ calm_answer policy.policy l) laid c.in_ok-laid.ensures.laid)
    (rw same at (laid_same policy target laid c.in_ok-laid.ensures.laid.is (λ p l. calm_answer p.policy l)))))
