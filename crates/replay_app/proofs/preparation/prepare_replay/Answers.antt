use Rattle.replay_app.proofs.Prelude.{◌∷◌, inl, inr, refl, laid_run, forward_run, script_pace, plain_rate, Link, named_entries, AlongScript, IsPaced, watchers, ◌≡◌, [], arith, ◌≤◌, pacing_form, pacing_words}
use Rattle.report_core.specs.declared.fault.FaultKind.TheVariants as kind
use Rattle.replay_app.specs.Jobs.{IsJobOutput, replays, links, forwards}
use Rattle.replay_app.proofs.AnswerLaws.{told-later}
use Rattle.replay_app.proofs.DecidedLaws.{passed, decided_so, same_trans, fits_out, stops_out, some_file}
use Rattle.replay_app.proofs.PreparedLaws.{policy_same, policy_out, target_same, target_out, room_out, script_same, script_out, laid_same, laid_chain}
use Rattle.replay_app.proofs.preparation.prepare_replay.Goals as goal

pub returns-in_err-policy_file-clause-job : goal.returns-in_err-policy_file-clause-job
returns-in_err-policy_file-clause-job g c = λ contents told taps.
    let f = c.args.files.now in
    policy_out f.latest (contents f.policy.now) _ (IsJobOutput contents taps)
    c.in_err-policy_file.field-0.0 (rw (told.0) at c.in_err-policy_file.ensures.read) c.in_err-policy_file.ensures.kind c.from_residual.result (passed _ _ c.from_residual.ensures.1)

pub returns-in_err-target-clause-job : goal.returns-in_err-target-clause-job
returns-in_err-target-clause-job g c = λ contents told taps.
    let f = c.args.files.now in
    let later = told-later _ _ _ _ contents (f.target.now ∷ f.capture.now ∷ pacing_words (pacing_form f.pacing)) c.in_ok-policy_file.ensures.kept.files told.1 in
    decided_so _ _ (IsJobOutput contents taps) c.from_residual-in_err-target.result
    (policy_same f.latest (contents f.policy.now) _ c.in_ok-policy_file.policy_file (rw told.0 at c.in_ok-policy_file.ensures.read))
    (target_out (contents f.target.now) _ (IsJobOutput contents taps)
    c.in_err-target.field-0.0 (rw (later.0) at c.in_err-target.ensures.read) c.in_err-target.ensures.kind c.from_residual-in_err-target.result (passed _ _ c.from_residual-in_err-target.ensures.1))

pub returns-in_err-laid-clause-job : goal.returns-in_err-laid-clause-job
returns-in_err-laid-clause-job g c = λ contents told taps.
    let f = c.args.files.now in
    let pacing = pacing_form f.pacing in
    let later = told-later _ _ _ _ contents (f.target.now ∷ f.capture.now ∷ pacing_words pacing) c.in_ok-policy_file.ensures.kept.files told.1 in
    let r = c.from_residual-in_err-laid.result in
    let policy = c.in_ok-policy_file.policy_file.policy in
    let out = room_out policy c.in_ok-target.target (λ l. IsPaced (watchers pacing taps) policy l pacing (contents f.capture.now) contents) (IsJobOutput contents taps) c.in_err-laid.field-0.0
    c.in_err-laid.ensures.laid c.in_err-laid.ensures.kind r (passed _ _ c.from_residual-in_err-laid.ensures.1) in
    decided_so _ _ (IsJobOutput contents taps) r (policy_same f.latest (contents f.policy.now) _ c.in_ok-policy_file.policy_file (rw told.0 at c.in_ok-policy_file.ensures.read))
    (decided_so _ _ (IsJobOutput contents taps) r (target_same (contents f.target.now) _ c.in_ok-target.target (rw (later.0) at c.in_ok-target.ensures.read)) out)

pub returns-in_err-script-in-Script-clause-job : goal.returns-in_err-script-in-Script-clause-job
returns-in_err-script-in-Script-clause-job g c = rw c.in-Script.is (λ contents told taps.
    let f = c.args.files.now in
    let name = c.in-Script.name.now in
    let later = told-later _ _ _ _ contents (f.target.now ∷ f.capture.now ∷ name ∷ []) c.in_ok-policy_file.ensures.kept.files told.1 in
    let last = told-later _ _ _ _ contents (f.capture.now ∷ name ∷ []) c.in_ok-target.ensures.kept.files later.1 in
    let r = c.from_residual-in_err-script-in-Script.result in
    decided_so _ _ (IsJobOutput contents taps) r
    (laid_chain f.latest (contents f.policy.now) (contents f.target.now) (λ policy laid. AlongScript (contents name) (λ steps b. b ≡ laid_run policy laid (script_pace steps) (contents f.capture.now) (named_entries c.in-Script.named taps))) c.in_ok-policy_file.policy_file (rw (told.0) at c.in_ok-policy_file.ensures.read)
    c.in_ok-target.target (rw (later.0) at c.in_ok-target.ensures.read) c.in_ok-laid.laid c.in_ok-laid.ensures.laid)
    (script_out (contents name) (λ steps b. b ≡ laid_run c.in_ok-policy_file.policy_file.policy (record { images = c.in_ok-laid.laid.map; arities = c.in_ok-target.target.arities }) (script_pace steps) (contents f.capture.now) (named_entries c.in-Script.named taps)) (IsJobOutput contents taps)
    c.in_err-script-in-Script.field-0.0 (rw (last.1.0) at c.in_err-script-in-Script.ensures.read) c.in_err-script-in-Script.ensures.kind r (passed _ _ c.from_residual-in_err-script-in-Script.ensures.1)))

pub returns-in_err-script-in-Script-clause-fits : goal.returns-in_err-script-in-Script-clause-fits
returns-in_err-script-in-Script-clause-fits g c = rw c.in-Script.is
    (fits_out _ kind.Script c.in_err-script-in-Script.field-0.0 c.in_err-script-in-Script.ensures.kind (inr (inr (inr (inl refl)))) (some_file _ _)
    c.from_residual-in_err-script-in-Script.result (passed _ _ c.from_residual-in_err-script-in-Script.ensures.1))

pub returns-in_err-script-in-Script-clause-cause : goal.returns-in_err-script-in-Script-clause-cause
returns-in_err-script-in-Script-clause-cause g c =
    let first : ◌≤◌ (g.S.Shelf.faults c.args.shelf.now) (g.S.Shelf.faults c.read_input.new.shelf) = c.read_input.ensures.kept.later in
    let second : ◌≤◌ (g.S.Shelf.faults c.read_input.new.shelf) (g.S.Shelf.faults c.read_input-2.new.shelf) = c.read_input-2.ensures.kept.later in
    stops_out c.in_err-script-in-Script.field-0.0 _ _ _ (omega (arith, first, second)) c.in_err-script-in-Script.ensures.cause c.from_residual-in_err-script-in-Script.result (passed _ _ c.from_residual-in_err-script-in-Script.ensures.1)

pub returns-in-Script-clause-job : goal.returns-in-Script-clause-job
returns-in-Script-clause-job g c = rw c.in-Script.is (λ contents told taps.
    let f = c.args.files.now in
    let name = c.in-Script.name.now in
    let later = told-later _ _ _ _ contents (f.target.now ∷ f.capture.now ∷ name ∷ []) c.in_ok-policy_file.ensures.kept.files told.1 in
    let last = told-later _ _ _ _ contents (f.capture.now ∷ name ∷ []) c.in_ok-target.ensures.kept.files later.1 in
    same_trans _ _ _
    (laid_chain f.latest (contents f.policy.now) (contents f.target.now) (λ policy laid. AlongScript (contents name) (λ steps b. b ≡ laid_run policy laid (script_pace steps) (contents f.capture.now) (named_entries c.in-Script.named taps))) c.in_ok-policy_file.policy_file (rw (told.0) at c.in_ok-policy_file.ensures.read)
    c.in_ok-target.target (rw (later.0) at c.in_ok-target.ensures.read) c.in_ok-laid.laid c.in_ok-laid.ensures.laid)
    (same_trans _ _ _ (script_same (contents name) (λ steps b. b ≡ laid_run c.in_ok-policy_file.policy_file.policy (record { images = c.in_ok-laid.laid.map; arities = c.in_ok-target.target.arities }) (script_pace steps) (contents f.capture.now) (named_entries c.in-Script.named taps)) c.in_ok-script-in-Script.script (rw (last.1.0) at c.in_ok-script-in-Script.ensures.read))
    (laid_same c.in_ok-policy_file.policy_file.policy c.in_ok-target.target c.in_ok-laid.laid c.in_ok-laid.ensures.laid.is (λ p l. laid_run p l (script_pace c.in_ok-script-in-Script.script) (contents f.capture.now) (named_entries c.in-Script.named taps)))))

pub returns-in-Script-clause-fits : goal.returns-in-Script-clause-fits
returns-in-Script-clause-fits g c = rw c.in-Script.is
    (replays _ _ _ _ _ _ _ _, c.in_ok-script-in-Script.ensures.sound)

pub returns-in-Link-clause-job : goal.returns-in-Link-clause-job
returns-in-Link-clause-job g c = rw (c.in-Link.is, c.plain.ensures) (λ contents told taps.
    let f = c.args.files.now in
    let later = told-later _ _ _ _ contents (f.target.now ∷ f.capture.now ∷ []) c.in_ok-policy_file.ensures.kept.files told.1 in
    same_trans _ _ _
    (laid_chain f.latest (contents f.policy.now) (contents f.target.now) (λ policy laid b. b ≡ laid_run policy laid (Link (plain_rate c.in-Link.rate)) (contents f.capture.now) []) c.in_ok-policy_file.policy_file (rw (told.0) at c.in_ok-policy_file.ensures.read)
    c.in_ok-target.target (rw (later.0) at c.in_ok-target.ensures.read) c.in_ok-laid.laid c.in_ok-laid.ensures.laid)
    (laid_same c.in_ok-policy_file.policy_file.policy c.in_ok-target.target c.in_ok-laid.laid c.in_ok-laid.ensures.laid.is (λ p l. laid_run p l (Link (plain_rate c.in-Link.rate)) (contents f.capture.now) [])))

pub returns-in-Link-clause-fits : goal.returns-in-Link-clause-fits
returns-in-Link-clause-fits g c = rw (c.in-Link.is, c.plain.ensures) (links _ _ _ _ _ _ _, record { bytes = rw c.in-Link.is at c.requires.rate; overhead = omega arith })

pub returns-clause-job : goal.returns-clause-job
returns-clause-job g c = rw (c.in-Forward.is, c.plain-in-Forward.ensures) (λ contents told taps.
    let f = c.args.files.now in
    let later = told-later _ _ _ _ contents (f.target.now ∷ f.capture.now ∷ []) c.in_ok-policy_file.ensures.kept.files told.1 in
    same_trans _ _ _
    (laid_chain f.latest (contents f.policy.now) (contents f.target.now) (λ policy laid b. b ≡ forward_run policy laid (plain_rate c.in-Forward.rate) (contents f.capture.now)) c.in_ok-policy_file.policy_file (rw (told.0) at c.in_ok-policy_file.ensures.read)
    c.in_ok-target.target (rw (later.0) at c.in_ok-target.ensures.read) c.in_ok-laid.laid c.in_ok-laid.ensures.laid)
    (laid_same c.in_ok-policy_file.policy_file.policy c.in_ok-target.target c.in_ok-laid.laid c.in_ok-laid.ensures.laid.is (λ p l. forward_run p l (plain_rate c.in-Forward.rate) (contents f.capture.now))))

pub returns-clause-fits : goal.returns-clause-fits
returns-clause-fits g c = rw (c.in-Forward.is, c.plain-in-Forward.ensures) (forwards _ _ _ _ _ _ _, record { bytes = rw c.in-Forward.is at c.requires.rate; overhead = omega arith })
