use Rattle.std.proofs.Common.{sym}
use Rattle.policy_rules.proofs.NamedPrograms.{absent, absent_known, placed, placed_known}
use Rattle.policy_rules.proofs.places.program_place.Goals as goal

pub returns-in_err-place-in-None-clause-place : goal.returns-in_err-place-in-None-clause-place
returns-in_err-place-in-None-clause-place c = absent c.args.name.now c.args.transactions.now (sym c.in-None.ensures) c.from_residual.result c.from_residual.ensures (sym c.in_err-place-in-None.ensures)

pub returns-in_err-place-in-None-clause-known : goal.returns-in_err-place-in-None-clause-known
returns-in_err-place-in-None-clause-known c = absent_known c.args.name.now c.args.transactions.now (sym c.in-None.ensures) c.from_residual.result c.from_residual.ensures (sym c.in_err-place-in-None.ensures)

pub returns-in_ok-place-in-None-clause-place : goal.returns-in_ok-place-in-None-clause-place
returns-in_ok-place-in-None-clause-place c = placed c.args.name.now c.args.transactions.now (sym c.in-None.ensures) c.in_ok-place-in-None.field-0 c.checked_add.result (sym c.in_ok-place-in-None.ensures) c.checked_add.ensures

pub returns-in_ok-place-in-None-clause-known : goal.returns-in_ok-place-in-None-clause-known
returns-in_ok-place-in-None-clause-known c = placed_known c.args.name.now c.args.transactions.now (sym c.in-None.ensures) c.in_ok-place-in-None.field-0 c.checked_add.result (sym c.in_ok-place-in-None.ensures) c.checked_add.ensures
