use Rattle.block_replay.proofs.Prelude.{refl, [], exactly_told, known-status, refusal, IsOutput, no_form, IsCalmTold, end_status}
use Rattle.report_core.specs.declared.fault.FaultKind.TheVariants as kind
use Rattle.block_replay.proofs.Counted.{uncounted, none_behind_unused}
use Rattle.block_replay.proofs.Ends.{calm_runs_nothing, ends_given, no_form_runs_nothing, still}
use Rattle.block_replay.proofs.command.block_run_to.Goals as goal

pub returns-in-Shared-clause-told : goal.returns-in-Shared-clause-told
returns-in-Shared-clause-told g c = rw c.in-Shared.ensures.form c.run_counted.ensures.told

pub returns-in-Shared-clause-always : goal.returns-in-Shared-clause-always
returns-in-Shared-clause-always g c = rw c.in-Shared.ensures.form c.run_counted.ensures.always

pub returns-in-Calm-clause-told : goal.returns-in-Calm-clause-told
returns-in-Calm-clause-told g c = rw (c.in-Calm.ensures.form, c.end_status.ensures)
    (λ contents told.
    let f = c.in-Calm.files in
    record {
      answer = ends_given (IsCalmTold f.latest (contents f.policy.now) (contents f.target.now)) c.tell_files.result _ _ (c.tell_files.ensures.answer contents told);
      fabric = still _ c.args.fabric.now _ (end_status c.tell_files.result) (calm_runs_nothing f.latest (contents f.policy.now) (contents f.target.now));
      taps = λ below a is. refl;
    })

pub returns-in-NoForm-clause-told : goal.returns-in-NoForm-clause-told
returns-in-NoForm-clause-told g c = rw (c.in-NoForm.ensures.form, c.end_status-in-NoForm.ensures)
    (λ contents told.
    let given = exactly_told (refusal kind.Words 0 0) c.refuse.result _ _ (known-status c.refuse.result kind.Words c.refuse.ensures.status) c.refuse.ensures.text c.refuse.ensures.part in
    let status = end_status c.refuse.result in
    record {
      answer = uncounted no_form contents [] status (none_behind_unused no_form contents [] tt status) _ _ (ends_given (IsOutput no_form contents []) c.refuse.result _ _ given);
      fabric = still _ c.args.fabric.now _ status (no_form_runs_nothing contents []);
      taps = λ below a is. refl;
    })
