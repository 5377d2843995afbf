use Rattle.replay_app.proofs.Prelude.{◌≡◌, refl, ap, IfOk-weaker, direct_run, script_pace, status_code, IsSoaked}
use Rattle.replay_app.specs.Answer.{text_alone}
use Rattle.replay_app.specs.Jobs.{alone_run}
use Rattle.replay_app.proofs.FollowLaws.{exactly_told}
use Rattle.replay_app.proofs.TapLaws.{nothing_left, untapped}
use Rattle.replay_app.proofs.execution.execute.Goals as goal

pub returns-in-Write-clause-answer : goal.returns-in-Write-clause-answer
returns-in-Write-clause-answer g c = rw c.in-Write.is (λ contents told.
    exactly_told (text_alone 0 c.in-Write.text.items) c.write_text.result _ _ (IfOk-weaker c.write_text.result _ _ (λ s done. ap status_code done) c.write_text.ensures.status) (rw c.deref.ensures.value at c.write_text.ensures.text) (rw c.deref.ensures.value at c.write_text.ensures.part))

pub returns-in-Write-clause-left : goal.returns-in-Write-clause-left
returns-in-Write-clause-left g c = rw c.in-Write.is (λ contents told. nothing_left g.F.Fabric (text_alone 0 c.in-Write.text.items) c.write_text.result c.args.fabric.now _ refl)

pub returns-in-Own-clause-answer : goal.returns-in-Own-clause-answer
returns-in-Own-clause-answer g c = rw c.in-Own.is (λ contents told. rw (told.0, c.steps.ensures) at c.run_own.ensures.answer)

pub returns-in-Own-clause-left : goal.returns-in-Own-clause-left
returns-in-Own-clause-left g c = rw c.in-Own.is (λ contents told.
    nothing_left g.F.Fabric (direct_run c.in-Own.policy (script_pace c.in-Own.script) (contents c.in-Own.capture.now)) c.run_own.result c.args.fabric.now _ refl)

pub returns-in-Watched-clause-answer : goal.returns-in-Watched-clause-answer
returns-in-Watched-clause-answer g c = rw c.in-Watched.is (λ contents told. rw (told.0, c.steps-in-Watched.ensures) at c.run_watched.ensures.answer)

pub returns-in-Watched-clause-left : goal.returns-in-Watched-clause-left
returns-in-Watched-clause-left g c = rw c.in-Watched.is (λ contents told. rw (told.0, c.steps-in-Watched.ensures) at c.run_watched.ensures.left)

pub returns-in-Alone-clause-answer : goal.returns-in-Alone-clause-answer
returns-in-Alone-clause-answer g c = rw c.in-Alone.is (λ contents told. rw told.0 at c.run_driven.ensures.answer)

pub returns-in-Alone-clause-left : goal.returns-in-Alone-clause-left
returns-in-Alone-clause-left g c = rw c.in-Alone.is (λ contents told.
    untapped g.F.Fabric (λ a. a ≡ alone_run c.in-Alone.laid c.in-Alone.drive (contents c.in-Alone.capture.now)) c.run_driven.result _ _ _ (rw told.0 at c.run_driven.ensures.left))

pub returns-in-Load-clause-answer : goal.returns-in-Load-clause-answer
returns-in-Load-clause-answer g c = rw c.in-Load.is (λ contents told. c.soak_load.ensures.answer)

pub returns-in-Load-clause-left : goal.returns-in-Load-clause-left
returns-in-Load-clause-left g c = rw c.in-Load.is (λ contents told. untapped g.F.Fabric (IsSoaked c.in-Load.load) c.soak_load.result _ _ _ c.soak_load.ensures.left)
