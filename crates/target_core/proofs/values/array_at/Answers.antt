use Rattle.target_core.proofs.Prelude.{table_get, table_view, view, array_view}
use Rattle.target_core.proofs.TableValues.{no_array, no_array_value, array_found}
use Rattle.target_core.proofs.values.array_at.Goals as goal

pub returns-in_err-get-clause-none : goal.returns-in_err-get-clause-none
returns-in_err-get-clause-none c _ ds h =
    let found = table_get c.get.result c.args.key.now c.args.table.now.entries c.get.ensures.value in
    no_array (table_view c.args.table.now) c.args.key.now ds (rw c.in_err-get.was at found) h

pub returns-in_err-items-clause-none : goal.returns-in_err-items-clause-none
returns-in_err-items-clause-none c _ ds h =
    let found = table_get c.get.result c.args.key.now c.args.table.now.entries c.get.ensures.value in
    no_array_value (view c.in_ok-get.field-0.now) (table_view c.args.table.now) c.args.key.now ds (rw c.in_ok-get.was at found) c.in_err-items.ensures h

pub returns-clause-items : goal.returns-clause-items
returns-clause-items c =
    let found = table_get c.get.result c.args.key.now c.args.table.now.entries c.get.ensures.value in
    rw c.as_slice.ensures.value
    (array_found (view c.in_ok-get.field-0.now) (table_view c.args.table.now) c.args.key.now (array_view c.in_ok-items.items.now) (rw c.in_ok-get.was at found) c.in_ok-items.ensures)
