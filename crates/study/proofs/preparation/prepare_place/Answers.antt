use Rattle.study.proofs.Prelude.{sym, subst, Some, Ok, laid_of}
use Rattle.sched_capture.specs.Placements.{Placed, laid_in}
use Rattle.replay_app.proofs.DecidedLaws.{exact, passed, same_trans, decided_so}
use Rattle.replay_app.proofs.PreparedLaws.{target_same, target_out, room_same, room_out}
use Rattle.replay_app.specs.Decided.{AreSame}
use Rattle.study.specs.Prepared.{policy_file_as, IsRunUnder}
use Rattle.study.specs.declared.place.Place.{Place}
use Rattle.study.specs.declared.place.Place.TheVariants.{Laid}
use Rattle.study.proofs.InputLaws.{by_target}
use Rattle.study.proofs.preparation.prepare_place.Goals as goal

pub returns-in_err-target-clause-place : goal.returns-in_err-target-clause-place
returns-in_err-target-clause-place g c = λ contents told entries.
    let after = IsRunUnder c.args.study.now contents (policy_file_as entries c.args.policy) in
    let run = λ (place : Place). after (laid_of place) in
    let r = c.from_residual.result in
    by_target c.args.study.now c.in-Some.name _ contents after run r c.in-Some.is (target_out (contents c.in-Some.name.now) _ run c.in_err-target.field-0.0 (rw (rw c.in-Some.is at told).0 at c.in_err-target.ensures.read) c.in_err-target.ensures.kind r (passed _ _ c.from_residual.ensures.1))

pub returns-in_err-lay-clause-place : goal.returns-in_err-lay-clause-place
returns-in_err-lay-clause-place g c = λ contents told entries.
    let after = IsRunUnder c.args.study.now contents (policy_file_as entries c.args.policy) in
    let run = λ (place : Place). after (laid_of place) in
    let r = c.from_residual-in_err-lay.result in
    by_target c.args.study.now c.in-Some.name _ contents after run r c.in-Some.is (decided_so _ _ run r (target_same (contents c.in-Some.name.now) _ c.in_ok-target.target (rw (rw c.in-Some.is at told).0 at c.in_ok-target.ensures.read))
    (room_out c.args.policy c.in_ok-target.target (λ l. after (Some l)) run c.in_err-lay.field-0.0 c.in_err-lay.ensures.laid c.in_err-lay.ensures.kind r (passed _ _ c.from_residual-in_err-lay.ensures.1)))

pub returns-clause-place : goal.returns-clause-place
returns-clause-place g c = λ contents told entries.
    let laid = c.in_ok-lay.field-0 in
    let is = c.in_ok-lay.ensures.laid in
    let after = IsRunUnder c.args.study.now contents (policy_file_as entries c.args.policy) in
    let end = after (Some (laid_in laid.map c.in_ok-target.target)) in
    by_target c.args.study.now c.in-Some.name _ contents after (λ (place : Place). after (laid_of place)) (Ok (Laid laid)) c.in-Some.is (same_trans _ _ _ (target_same (contents c.in-Some.name.now) _ c.in_ok-target.target (rw (rw c.in-Some.is at told).0 at c.in_ok-target.ensures.read))
    (same_trans _ _ _ (room_same c.args.policy c.in_ok-target.target (λ l. after (Some l)) laid is) (subst (λ (l : Placed). AreSame end (after (laid_of (Laid l)))) (sym is.is) (exact end))))
