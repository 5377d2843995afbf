use Rattle.std.proofs.Common.{Err, inr, refl, ap}
use Rattle.mapcheck_core.proofs.tree_text.next_found.Goals as goal

pub returns-in-Err-NoForm-clause-fault : goal.returns-in-Err-NoForm-clause-fault
returns-in-Err-NoForm-clause-fault c = inr (refl, c.in-Err-NoForm.ensures.none (ap Err c.in-Err-NoForm.field-0-is))
