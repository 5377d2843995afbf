use Rattle.target_core.proofs.Prelude.{table_get, table_view, view}
use Rattle.target_core.proofs.TableValues.{no_value, number_found, number_of_value}
use Rattle.target_core.proofs.values.number_at.Goals as goal

pub returns-in_err-get-clause-none : goal.returns-in_err-get-clause-none
returns-in_err-get-clause-none c _ n h =
    let found = table_get c.get.result c.args.key.now c.args.table.now.entries c.get.ensures.value in
    no_value (table_view c.args.table.now) c.args.key.now c.args.low c.args.high n (rw c.in_err-get.was at found) h

pub returns-clause-number : goal.returns-clause-number
returns-clause-number c =
    let found = table_get c.get.result c.args.key.now c.args.table.now.entries c.get.ensures.value in
    number_found c.number_in.result (view c.in_ok-get.field-0.now) (table_view c.args.table.now) c.args.key.now c.args.low c.args.high (rw c.in_ok-get.was at found) c.number_in.ensures.is c.number_in.ensures.within

pub returns-clause-none : goal.returns-clause-none
returns-clause-none c none n h =
    let found = table_get c.get.result c.args.key.now c.args.table.now.entries c.get.ensures.value in
    c.number_in.ensures.none none n (number_of_value (view c.in_ok-get.field-0.now) (table_view c.args.table.now) c.args.key.now c.args.low c.args.high n (rw c.in_ok-get.was at found) h) h.least h.most
