use Rattle.target_core.proofs.Prelude.{arith, sym, ◌∙◌, refl, table_view}
use Rattle.target_core.proofs.Faults.{other_keys}
use Rattle.target_core.proofs.TableValues.{as_many_keys}
use Rattle.target_core.proofs.forms.target_of.Goals as goal

pub each_arity-requires : goal.each_arity-requires
each_arity-requires c = as_many_keys c.args.table.now.entries ∙ (sym c.len.ensures.len ∙ c.in-1.is)

pub one_arity-requires : goal.one_arity-requires
one_arity-requires c = as_many_keys c.args.table.now.entries ∙ (sym c.len.ensures.len ∙ c.in-2.is)

pub returns-in_default-clause-refused : goal.returns-in_default-clause-refused
returns-in_default-clause-refused c _ =
    let same = as_many_keys c.args.table.now.entries in
    record {
      key = refl;
      none = λ ns above. other_keys (table_view c.args.table.now) ns above (omega (arith, same, c.len.ensures.len)) (omega (arith, same, c.len.ensures.len));
    }
