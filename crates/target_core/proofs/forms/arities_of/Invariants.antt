use Rattle.target_core.proofs.Prelude.{take, items_view, AreArities}
use Rattle.target_core.proofs.forms.arities_of.Given as goal

abbrev pub invariant-loop-item : goal.invariant-loop-item
invariant-loop-item l = AreArities (items_view (take l.item-index l.items)) l.arities.items
