use Rattle.target_core.proofs.Prelude.{arith, ◌≡◌, Some, refl, table_view, items_view, each_arity}
use Rattle.target_core.proofs.Faults.{too_many_levels}
use Rattle.target_core.proofs.ItemArities.{as_many}
use Rattle.target_core.proofs.forms.each_arity.Goals as goal

pub returns-then-items-gt-MOST_HEIGHT-clause-refused : goal.returns-then-items-gt-MOST_HEIGHT-clause-refused
returns-then-items-gt-MOST_HEIGHT-clause-refused c _ =
    let found : c.array_at.result ≡ Some c.in_ok-items.items = grind arith in
    let stands = rw found at c.array_at.ensures.items in
    record { key = refl; none = λ ns above. too_many_levels (table_view c.args.table.now) c.in_ok-items.items.now ns above c.requires stands c.if-items-gt-MOST_HEIGHT.true }

pub returns-clause-accepted : goal.returns-clause-accepted
returns-clause-accepted c =
    let found : c.array_at.result ≡ Some c.in_ok-items.items = grind arith in
    let stands = rw found at c.array_at.ensures.items in
    rw c.first_arity-above.ensures
    (rw c.as_slice.ensures
    (each_arity (items_view c.in_ok-items.items.now) c.in_ok-arities.arities c.requires stands c.in_ok-arities.ensures.ok
    (omega (arith, as_many c.in_ok-items.items.now c.in_ok-arities.arities c.in_ok-arities.ensures.ok))))
