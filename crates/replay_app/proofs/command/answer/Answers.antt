use Rattle.report_core.specs.declared.fault.FaultKind.TheVariants as kind
use Rattle.replay_app.proofs.Prelude.{◌≡◌, refusal, command_form, entries, List, IfOk-weaker, status_code}
use Rattle.tap_core.specs.Lists.{Entry}
use Rattle.replay_app.specs.Decided.{rejected}
use Rattle.replay_app.specs.Jobs.{IsJobOutput}
use Rattle.replay_app.specs.Output.{IsOutput}
use Rattle.replay_app.proofs.AnswerLaws.{told-later, lent-later}
use Rattle.replay_app.proofs.FollowLaws.{exactly_told, exactly_done, known-status, always_ok, always_err, unchanged}
use Rattle.replay_app.proofs.DecidedLaws.{told_so, done_so}
use Rattle.replay_app.proofs.JobLaws.{of_files, left_of_form, tap_list_none, never_refused, no_fabric, no_taps, no_files, of_statuses}
use Rattle.replay_app.proofs.command.answer.Goals as goal

pub returns-in-None-clause-answer : goal.returns-in-None-clause-answer
returns-in-None-clause-answer g c = λ contents told.
    rw c.in-None.ensures.form (exactly_told (refusal kind.Words 0 0) c.refuse.result _ _ (known-status c.refuse.result kind.Words c.refuse.ensures.status) c.refuse.ensures.text c.refuse.ensures.part)

pub execute-requires-clause-lent : goal.execute-requires-clause-lent
execute-requires-clause-lent g c =
    lent-later _ _ _ _ _ c.prepare.ensures.kept.files (of_files _ (command_form c.in-Some.command) c.in-Ok.job c.in-Ok.ensures.fits.0 (rw c.in-Some.ensures.form at c.requires.lent))

pub returns-in-Ok-clause-answer : goal.returns-in-Ok-clause-answer
returns-in-Ok-clause-answer g c = rw c.in-Some.ensures.form (λ contents told.
    let form = command_form c.in-Some.command in
    let taps : List Entry = entries g.T.Tap.kind_of g.T.Tap.state_of c.args.taps.now.items in
    let job = c.in-Ok.job in
    let later = told-later _ _ _ _ contents _ c.prepare.ensures.kept.files (of_files _ form job c.in-Ok.ensures.fits.0 told) in
    told_so (IsOutput form contents taps) (IsJobOutput contents taps job) (c.in-Ok.ensures.job contents told taps) c.execute.result _ _ (c.execute.ensures.answer contents later))

pub returns-in-Ok-clause-left : goal.returns-in-Ok-clause-left
returns-in-Ok-clause-left g c = rw c.in-Some.ensures.form (λ contents told.
    let form = command_form c.in-Some.command in
    let taps : List Entry = entries g.T.Tap.kind_of g.T.Tap.state_of c.args.taps.now.items in
    let job = c.in-Ok.job in
    let later = told-later _ _ _ _ contents _ c.prepare.ensures.kept.files (of_files _ form job c.in-Ok.ensures.fits.0 told) in
    left_of_form g.F.Fabric form job c.in-Ok.ensures.fits.0 contents c.execute.result _ _ taps _
    (done_so (IsOutput form contents taps) (IsJobOutput contents taps job) (c.in-Ok.ensures.job contents told taps) c.execute.result _ _ (c.execute.ensures.left contents later)))

pub returns-in-Ok-clause-statuses : goal.returns-in-Ok-clause-statuses
returns-in-Ok-clause-statuses g c = rw c.in-Some.ensures.form
    (IfOk-weaker c.execute.result _ _ (λ s one. of_statuses (command_form c.in-Some.command) c.in-Ok.job c.in-Ok.ensures.fits.0 (status_code s) one) c.execute.ensures.statuses)

pub returns-in-Ok-clause-refused : goal.returns-in-Ok-clause-refused
returns-in-Ok-clause-refused g c = never_refused c.in-Ok.job c.execute.result _ c.execute.ensures.statuses

pub returns-in-Ok-clause-untouched : goal.returns-in-Ok-clause-untouched
returns-in-Ok-clause-untouched g c = rw c.in-Some.ensures.form (λ none. c.execute.ensures.untouched (no_fabric (command_form c.in-Some.command) c.in-Ok.job c.in-Ok.ensures.fits.0 none))

pub returns-in-Ok-clause-unwatched : goal.returns-in-Ok-clause-unwatched
returns-in-Ok-clause-unwatched g c = never_refused c.in-Ok.job c.execute.result _ c.execute.ensures.statuses

pub returns-in-Ok-clause-unshown : goal.returns-in-Ok-clause-unshown
returns-in-Ok-clause-unshown g c = rw c.in-Some.ensures.form (λ none. c.execute.ensures.unshown (no_taps (command_form c.in-Some.command) c.in-Ok.job c.in-Ok.ensures.fits.0 none))

pub returns-in-Ok-clause-no_files : goal.returns-in-Ok-clause-no_files
returns-in-Ok-clause-no_files g c = rw c.in-Some.ensures.form (λ none stop. c.execute.ensures.no_files (no_files (command_form c.in-Some.command) c.in-Ok.job c.in-Ok.ensures.fits.0 none) stop)

pub returns-in-Err-Rejected-clause-answer : goal.returns-in-Err-Rejected-clause-answer
returns-in-Err-Rejected-clause-answer g c = rw c.in-Some.ensures.form (λ contents told.
    let form = command_form c.in-Some.command in
    let taps : List Entry = entries g.T.Tap.kind_of g.T.Tap.state_of c.args.taps.now.items in
    let r = c.in-Err-Rejected.rejection in
    told_so (IsOutput form contents taps) (λ a. a ≡ rejected r) (rw c.in-Err-Rejected.field-0-is at (c.in-Err-Rejected.ensures.job contents told taps)) c.write_rejection.result _ _
    (exactly_told (rejected r) c.write_rejection.result _ _ (known-status c.write_rejection.result r.kind c.write_rejection.ensures.status) c.write_rejection.ensures.text c.write_rejection.ensures.part))

pub returns-in-Err-Rejected-clause-left : goal.returns-in-Err-Rejected-clause-left
returns-in-Err-Rejected-clause-left g c = rw c.in-Some.ensures.form (λ contents told.
    let form = command_form c.in-Some.command in
    let taps : List Entry = entries g.T.Tap.kind_of g.T.Tap.state_of c.args.taps.now.items in
    let r = c.in-Err-Rejected.rejection in
    let same = unchanged g.F.Fabric c.args.fabric.now in
    done_so (IsOutput form contents taps) (λ a. a ≡ rejected r) (rw c.in-Err-Rejected.field-0-is at (c.in-Err-Rejected.ensures.job contents told taps)) c.write_rejection.result _ _
    (exactly_done (rejected r) c.write_rejection.result _ _ (always_ok c.write_rejection.result (record { fabric = same; taps = tap_list_none form taps })) (always_err c.write_rejection.result same)))
