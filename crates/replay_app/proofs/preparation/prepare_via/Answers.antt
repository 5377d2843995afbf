use Rattle.replay_app.proofs.Prelude.{◌∷◌, [], ◌≡◌, ◌≤◌, arith, inl, inr, refl, laid_run, script_pace, AlongScript, topology}
use Rattle.report_core.specs.declared.fault.FaultKind.TheVariants as kind
use Rattle.replay_app.specs.Jobs.{IsJobOutput, goes_along}
use Rattle.replay_app.specs.Targets.{ForTarget}
use Rattle.replay_app.specs.Via.{ForMap, WithRoomAlong}
use Rattle.replay_app.proofs.AnswerLaws.{told-later}
use Rattle.replay_app.proofs.DecidedLaws.{passed, decided_so, same_trans, fits_out, stops_out, some_file}
use Rattle.replay_app.proofs.PreparedLaws.{policy_same, policy_out, topology_same, topology_out, target_same, target_out, room_same_along, room_out_along, script_same, script_out, laid_same}
use Rattle.replay_app.proofs.RouteLaws.{route_same, route_ends}
use Rattle.replay_app.proofs.preparation.prepare_via.Goals as goal

pub returns-in_err-policy_file-clause-job : goal.returns-in_err-policy_file-clause-job
returns-in_err-policy_file-clause-job g c = λ contents told taps.
    let f = c.args.files.now in
    policy_out f.latest (contents f.policy.now) _ (IsJobOutput contents taps)
    c.in_err-policy_file.field-0.0 (rw (told.0) at c.in_err-policy_file.ensures.read) c.in_err-policy_file.ensures.kind c.from_residual.result (passed _ _ c.from_residual.ensures.1)

pub returns-in_err-middle-clause-job : goal.returns-in_err-middle-clause-job
returns-in_err-middle-clause-job g c = λ contents told taps.
    let f = c.args.files.now in
    let one = told-later _ _ _ _ contents (f.topology.now ∷ f.map.now ∷ f.target.now ∷ f.capture.now ∷ f.script.now ∷ []) c.in_ok-policy_file.ensures.kept.files told.1 in
    let run = IsJobOutput contents taps in
    let r = c.from_residual-in_err-middle.result in
    let policy = c.in_ok-policy_file.policy_file.policy in
    let p = policy.policy in
    decided_so _ _ run r (policy_same f.latest (contents f.policy.now) _ c.in_ok-policy_file.policy_file (rw told.0 at c.in_ok-policy_file.ensures.read))
    (topology_out (contents f.topology.now) (λ middle. ForMap p middle (contents f.map.now) (λ given. ForTarget (contents f.target.now) (λ target. WithRoomAlong p given middle target (λ l. AlongScript (contents f.script.now) (λ steps b. b ≡ laid_run policy l (script_pace steps) (contents f.capture.now) []))))) run c.in_err-middle.field-0.0 (rw (one.0) at c.in_err-middle.ensures.read) c.in_err-middle.ensures.kind r (passed _ _ c.from_residual-in_err-middle.ensures.1))

pub returns-in_err-given-clause-job : goal.returns-in_err-given-clause-job
returns-in_err-given-clause-job g c = λ contents told taps.
    let f = c.args.files.now in
    let one = told-later _ _ _ _ contents (f.topology.now ∷ f.map.now ∷ f.target.now ∷ f.capture.now ∷ f.script.now ∷ []) c.in_ok-policy_file.ensures.kept.files told.1 in
    let two = told-later _ _ _ _ contents (f.map.now ∷ f.target.now ∷ f.capture.now ∷ f.script.now ∷ []) c.in_ok-middle.ensures.kept.files one.1 in
    let run = IsJobOutput contents taps in
    let r = c.from_residual-in_err-given.result in
    let policy = c.in_ok-policy_file.policy_file.policy in
    let p = policy.policy in
    decided_so _ _ run r (policy_same f.latest (contents f.policy.now) _ c.in_ok-policy_file.policy_file (rw told.0 at c.in_ok-policy_file.ensures.read))
    (decided_so _ _ run r (topology_same (contents f.topology.now) (λ middle. ForMap p middle (contents f.map.now) (λ given. ForTarget (contents f.target.now) (λ target. WithRoomAlong p given middle target (λ l. AlongScript (contents f.script.now) (λ steps b. b ≡ laid_run policy l (script_pace steps) (contents f.capture.now) []))))) c.in_ok-middle.middle (rw (one.0) at c.in_ok-middle.ensures.read))
    (route_ends p (topology c.in_ok-middle.middle) (contents f.map.now) (λ given. ForTarget (contents f.target.now) (λ target. WithRoomAlong p given (topology c.in_ok-middle.middle) target (λ l. AlongScript (contents f.script.now) (λ steps b. b ≡ laid_run policy l (script_pace steps) (contents f.capture.now) [])))) run c.in_err-given.field-0.0 (rw (two.0) at c.in_err-given.ensures.read) c.in_err-given.ensures.kind r (passed _ _ c.from_residual-in_err-given.ensures.1)))

pub returns-in_err-target-clause-job : goal.returns-in_err-target-clause-job
returns-in_err-target-clause-job g c = λ contents told taps.
    let f = c.args.files.now in
    let one = told-later _ _ _ _ contents (f.topology.now ∷ f.map.now ∷ f.target.now ∷ f.capture.now ∷ f.script.now ∷ []) c.in_ok-policy_file.ensures.kept.files told.1 in
    let two = told-later _ _ _ _ contents (f.map.now ∷ f.target.now ∷ f.capture.now ∷ f.script.now ∷ []) c.in_ok-middle.ensures.kept.files one.1 in
    let three = told-later _ _ _ _ contents (f.target.now ∷ f.capture.now ∷ f.script.now ∷ []) c.read_route.ensures.kept.files two.1 in
    let run = IsJobOutput contents taps in
    let r = c.from_residual-in_err-target.result in
    let policy = c.in_ok-policy_file.policy_file.policy in
    let p = policy.policy in
    decided_so _ _ run r (policy_same f.latest (contents f.policy.now) _ c.in_ok-policy_file.policy_file (rw told.0 at c.in_ok-policy_file.ensures.read))
    (decided_so _ _ run r (topology_same (contents f.topology.now) (λ middle. ForMap p middle (contents f.map.now) (λ given. ForTarget (contents f.target.now) (λ target. WithRoomAlong p given middle target (λ l. AlongScript (contents f.script.now) (λ steps b. b ≡ laid_run policy l (script_pace steps) (contents f.capture.now) []))))) c.in_ok-middle.middle (rw (one.0) at c.in_ok-middle.ensures.read))
    (decided_so _ _ run r (route_same p (topology c.in_ok-middle.middle) (contents f.map.now) (λ given. ForTarget (contents f.target.now) (λ target. WithRoomAlong p given (topology c.in_ok-middle.middle) target (λ l. AlongScript (contents f.script.now) (λ steps b. b ≡ laid_run policy l (script_pace steps) (contents f.capture.now) [])))) c.in_ok-given.given (rw (two.0) at c.in_ok-given.ensures.read))
    (target_out (contents f.target.now) (λ target. WithRoomAlong p c.in_ok-given.given (topology c.in_ok-middle.middle) target (λ l. AlongScript (contents f.script.now) (λ steps b. b ≡ laid_run policy l (script_pace steps) (contents f.capture.now) []))) run c.in_err-target.field-0.0 (rw (three.0) at c.in_err-target.ensures.read) c.in_err-target.ensures.kind r (passed _ _ c.from_residual-in_err-target.ensures.1))))

pub returns-in_err-laid-clause-job : goal.returns-in_err-laid-clause-job
returns-in_err-laid-clause-job g c = λ contents told taps.
    let f = c.args.files.now in
    let one = told-later _ _ _ _ contents (f.topology.now ∷ f.map.now ∷ f.target.now ∷ f.capture.now ∷ f.script.now ∷ []) c.in_ok-policy_file.ensures.kept.files told.1 in
    let two = told-later _ _ _ _ contents (f.map.now ∷ f.target.now ∷ f.capture.now ∷ f.script.now ∷ []) c.in_ok-middle.ensures.kept.files one.1 in
    let three = told-later _ _ _ _ contents (f.target.now ∷ f.capture.now ∷ f.script.now ∷ []) c.read_route.ensures.kept.files two.1 in
    let run = IsJobOutput contents taps in
    let r = c.from_residual-in_err-laid.result in
    let policy = c.in_ok-policy_file.policy_file.policy in
    let p = policy.policy in
    decided_so _ _ run r (policy_same f.latest (contents f.policy.now) _ c.in_ok-policy_file.policy_file (rw told.0 at c.in_ok-policy_file.ensures.read))
    (decided_so _ _ run r (topology_same (contents f.topology.now) (λ middle. ForMap p middle (contents f.map.now) (λ given. ForTarget (contents f.target.now) (λ target. WithRoomAlong p given middle target (λ l. AlongScript (contents f.script.now) (λ steps b. b ≡ laid_run policy l (script_pace steps) (contents f.capture.now) []))))) c.in_ok-middle.middle (rw (one.0) at c.in_ok-middle.ensures.read))
    (decided_so _ _ run r (route_same p (topology c.in_ok-middle.middle) (contents f.map.now) (λ given. ForTarget (contents f.target.now) (λ target. WithRoomAlong p given (topology c.in_ok-middle.middle) target (λ l. AlongScript (contents f.script.now) (λ steps b. b ≡ laid_run policy l (script_pace steps) (contents f.capture.now) [])))) c.in_ok-given.given (rw (two.0) at c.in_ok-given.ensures.read))
    (decided_so _ _ run r (target_same (contents f.target.now) (λ target. WithRoomAlong p c.in_ok-given.given (topology c.in_ok-middle.middle) target (λ l. AlongScript (contents f.script.now) (λ steps b. b ≡ laid_run policy l (script_pace steps) (contents f.capture.now) []))) c.in_ok-target.target (rw (three.0) at c.in_ok-target.ensures.read))
    (room_out_along policy c.in_ok-given.given (topology c.in_ok-middle.middle) c.in_ok-target.target (λ l. AlongScript (contents f.script.now) (λ steps b. b ≡ laid_run policy l (script_pace steps) (contents f.capture.now) [])) run c.in_err-laid.field-0.0 c.in_err-laid.ensures.laid c.in_err-laid.ensures.kind r (passed _ _ c.from_residual-in_err-laid.ensures.1)))))

pub returns-in_err-script-clause-job : goal.returns-in_err-script-clause-job
returns-in_err-script-clause-job g c = λ contents told taps.
    let f = c.args.files.now in
    let one = told-later _ _ _ _ contents (f.topology.now ∷ f.map.now ∷ f.target.now ∷ f.capture.now ∷ f.script.now ∷ []) c.in_ok-policy_file.ensures.kept.files told.1 in
    let two = told-later _ _ _ _ contents (f.map.now ∷ f.target.now ∷ f.capture.now ∷ f.script.now ∷ []) c.in_ok-middle.ensures.kept.files one.1 in
    let three = told-later _ _ _ _ contents (f.target.now ∷ f.capture.now ∷ f.script.now ∷ []) c.read_route.ensures.kept.files two.1 in
    let four = told-later _ _ _ _ contents (f.capture.now ∷ f.script.now ∷ []) c.in_ok-target.ensures.kept.files three.1 in
    let run = IsJobOutput contents taps in
    let r = c.from_residual-in_err-script.result in
    let policy = c.in_ok-policy_file.policy_file.policy in
    let p = policy.policy in
    decided_so _ _ run r (policy_same f.latest (contents f.policy.now) _ c.in_ok-policy_file.policy_file (rw told.0 at c.in_ok-policy_file.ensures.read))
    (decided_so _ _ run r (topology_same (contents f.topology.now) (λ middle. ForMap p middle (contents f.map.now) (λ given. ForTarget (contents f.target.now) (λ target. WithRoomAlong p given middle target (λ l. AlongScript (contents f.script.now) (λ steps b. b ≡ laid_run policy l (script_pace steps) (contents f.capture.now) []))))) c.in_ok-middle.middle (rw (one.0) at c.in_ok-middle.ensures.read))
    (decided_so _ _ run r (route_same p (topology c.in_ok-middle.middle) (contents f.map.now) (λ given. ForTarget (contents f.target.now) (λ target. WithRoomAlong p given (topology c.in_ok-middle.middle) target (λ l. AlongScript (contents f.script.now) (λ steps b. b ≡ laid_run policy l (script_pace steps) (contents f.capture.now) [])))) c.in_ok-given.given (rw (two.0) at c.in_ok-given.ensures.read))
    (decided_so _ _ run r (target_same (contents f.target.now) (λ target. WithRoomAlong p c.in_ok-given.given (topology c.in_ok-middle.middle) target (λ l. AlongScript (contents f.script.now) (λ steps b. b ≡ laid_run policy l (script_pace steps) (contents f.capture.now) []))) c.in_ok-target.target (rw (three.0) at c.in_ok-target.ensures.read))
    (decided_so _ _ run r (room_same_along policy c.in_ok-given.given (topology c.in_ok-middle.middle) c.in_ok-target.target (λ l. AlongScript (contents f.script.now) (λ steps b. b ≡ laid_run policy l (script_pace steps) (contents f.capture.now) [])) c.in_ok-laid.laid c.in_ok-laid.ensures.laid)
    (script_out (contents f.script.now) (λ steps b. b ≡ laid_run policy (record { images = c.in_ok-laid.laid.map; arities = c.in_ok-target.target.arities }) (script_pace steps) (contents f.capture.now) []) run c.in_err-script.field-0.0 (rw (four.1.0) at c.in_err-script.ensures.read) c.in_err-script.ensures.kind r (passed _ _ c.from_residual-in_err-script.ensures.1))))))

pub returns-in_err-script-clause-fits : goal.returns-in_err-script-clause-fits
returns-in_err-script-clause-fits g c =
    fits_out _ kind.Script c.in_err-script.field-0.0 c.in_err-script.ensures.kind (inr (inr (inr (inr (inr (inl refl)))))) (some_file _ _)
    c.from_residual-in_err-script.result (passed _ _ c.from_residual-in_err-script.ensures.1)

pub returns-in_err-script-clause-cause : goal.returns-in_err-script-clause-cause
returns-in_err-script-clause-cause g c =
    let first : ◌≤◌ (g.S.Shelf.faults c.args.shelf.now) (g.S.Shelf.faults c.read_input.new.shelf) = c.read_input.ensures.kept.later in
    let second : ◌≤◌ (g.S.Shelf.faults c.read_input.new.shelf) (g.S.Shelf.faults c.read_input-2.new.shelf) = c.read_input-2.ensures.kept.later in
    let third : ◌≤◌ (g.S.Shelf.faults c.read_input-2.new.shelf) (g.S.Shelf.faults c.read_route.new.shelf) = c.read_route.ensures.kept.later in
    let fourth : ◌≤◌ (g.S.Shelf.faults c.read_route.new.shelf) (g.S.Shelf.faults c.read_input-3.new.shelf) = c.read_input-3.ensures.kept.later in
    stops_out c.in_err-script.field-0.0 _ _ _ (omega (arith, first, second, third, fourth)) c.in_err-script.ensures.cause c.from_residual-in_err-script.result (passed _ _ c.from_residual-in_err-script.ensures.1)

pub returns-clause-job : goal.returns-clause-job
returns-clause-job g c = λ contents told taps.
    let f = c.args.files.now in
    let one = told-later _ _ _ _ contents (f.topology.now ∷ f.map.now ∷ f.target.now ∷ f.capture.now ∷ f.script.now ∷ []) c.in_ok-policy_file.ensures.kept.files told.1 in
    let two = told-later _ _ _ _ contents (f.map.now ∷ f.target.now ∷ f.capture.now ∷ f.script.now ∷ []) c.in_ok-middle.ensures.kept.files one.1 in
    let three = told-later _ _ _ _ contents (f.target.now ∷ f.capture.now ∷ f.script.now ∷ []) c.read_route.ensures.kept.files two.1 in
    let four = told-later _ _ _ _ contents (f.capture.now ∷ f.script.now ∷ []) c.in_ok-target.ensures.kept.files three.1 in
    let policy = c.in_ok-policy_file.policy_file.policy in
    let p = policy.policy in
    same_trans _ _ _ (policy_same f.latest (contents f.policy.now) _ c.in_ok-policy_file.policy_file (rw told.0 at c.in_ok-policy_file.ensures.read))
    (same_trans _ _ _ (topology_same (contents f.topology.now) (λ middle. ForMap p middle (contents f.map.now) (λ given. ForTarget (contents f.target.now) (λ target. WithRoomAlong p given middle target (λ l. AlongScript (contents f.script.now) (λ steps b. b ≡ laid_run policy l (script_pace steps) (contents f.capture.now) []))))) c.in_ok-middle.middle (rw (one.0) at c.in_ok-middle.ensures.read))
    (same_trans _ _ _ (route_same p (topology c.in_ok-middle.middle) (contents f.map.now) (λ given. ForTarget (contents f.target.now) (λ target. WithRoomAlong p given (topology c.in_ok-middle.middle) target (λ l. AlongScript (contents f.script.now) (λ steps b. b ≡ laid_run policy l (script_pace steps) (contents f.capture.now) [])))) c.in_ok-given.given (rw (two.0) at c.in_ok-given.ensures.read))
    (same_trans _ _ _ (target_same (contents f.target.now) (λ target. WithRoomAlong p c.in_ok-given.given (topology c.in_ok-middle.middle) target (λ l. AlongScript (contents f.script.now) (λ steps b. b ≡ laid_run policy l (script_pace steps) (contents f.capture.now) []))) c.in_ok-target.target (rw (three.0) at c.in_ok-target.ensures.read))
    (same_trans _ _ _ (room_same_along policy c.in_ok-given.given (topology c.in_ok-middle.middle) c.in_ok-target.target (λ l. AlongScript (contents f.script.now) (λ steps b. b ≡ laid_run policy l (script_pace steps) (contents f.capture.now) [])) c.in_ok-laid.laid c.in_ok-laid.ensures.laid)
    (same_trans _ _ _ (script_same (contents f.script.now) (λ steps b. b ≡ laid_run policy (record { images = c.in_ok-laid.laid.map; arities = c.in_ok-target.target.arities }) (script_pace steps) (contents f.capture.now) []) c.in_ok-script.script (rw (four.1.0) at c.in_ok-script.ensures.read))
    (laid_same policy c.in_ok-target.target c.in_ok-laid.laid c.in_ok-laid.ensures.laid.is (λ q l. laid_run q l (script_pace c.in_ok-script.script) (contents f.capture.now) [])))))))

pub returns-clause-fits : goal.returns-clause-fits
returns-clause-fits g c = (goes_along _ _ _ _ _ _ _ _ _, c.in_ok-script.ensures.sound)
