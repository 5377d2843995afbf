use Rattle.std.proofs.Common.{refl}
use Rattle.target_core.proofs.ItemArities.{next_arity, none_with}
use Rattle.target_core.proofs.forms.arities_of.Goals as goal

pub returns-in-None-clause-refused : goal.returns-in-None-clause-refused
returns-in-None-clause-refused c _ = record {
  key = refl;
  none = λ ns. none_with c.args.items.now c.loop-item.item-index c.item-item.result ns c.loop-item-test.true (rw (← c.item-item.is) (c.in-None.ensures.none refl));
}

pub loop-item-preserved : goal.loop-item-preserved
loop-item-preserved c =
    rw c.in_ok-push-in-Some.ensures.items
    (next_arity c.args.items.now c.loop-item.item-index c.item-item.result c.loop-item.arities.items c.in-Some.arity c.loop-item-test.true c.item-item.is c.loop-item.invariant c.in-Some.ensures.is c.in-Some.ensures.within.0 c.in-Some.ensures.within.1)
